-- What a step makes of what it found in the map.
use Rattle.std.specs.Prelude.{ℕ, List, if◌then◌else◌, Option, Some, None}
use Rattle.std.specs.Ordering.{is_lt, nat_cmp}
use Rattle.std.specs.Cmp.Lexicographic.{slice_cmp}
use Rattle.dewey_labels.specs.Labels.{Label}
use Rattle.dewey_labels.specs.Sides.{child_toward}
use Rattle.tree_model.specs.declared.key.Key.{Key}
use Rattle.tree_model.specs.declared.record.Record.{Record}
use Rattle.tree_model.specs.declared.record.Record.TheVariants.{Attr}

-- the value of an attribute's record
abbrev pub value_of : Option Record → Option (List ℕ)
value_of (Some (Attr v)) = Some v
value_of found = None

-- the label of the child of p on the way to the key that was found, if that lies under p
abbrev pub toward_key : Label → Option Key → Option Label
toward_key p None = None
toward_key p (Some k) = child_toward p k.label

-- a label, if it comes behind another one
abbrev pub if_behind : Label → Option Label → Option Label
if_behind l None = None
if_behind l (Some n) = if is_lt (slice_cmp nat_cmp l n) then Some n else None
