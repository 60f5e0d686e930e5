-- A walk over the attributes of a place: what is found, if it is one of them.
use Rattle.std.specs.Prelude.{ℕ, List, if◌then◌else◌, Option, Some, None}
use Rattle.dewey_labels.specs.Labels.{Label}
use Rattle.tree_model.specs.ValidTrees.{same_label}
use Rattle.tree_model.specs.declared.key.Key.{Key}
use Rattle.tree_model.specs.declared.record.Record.{Record}
use Rattle.tree_model.specs.declared.record.Record.TheVariants.{Attr}

-- the key and the value of an attribute's entry
abbrev pub keyed_value : Key → Record → Option (Key × List ℕ)
keyed_value k (Attr v) = Some (k, v)
keyed_value k r = None

-- the key and the value of an attribute of the place with label l
abbrev pub attribute_of : Label → Option (Key × Record) → Option (Key × List ℕ)
attribute_of l None = None
attribute_of l (Some e) = if same_label l e.0.label then keyed_value e.0 e.1 else None
