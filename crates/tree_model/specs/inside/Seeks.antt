-- What a read of a tree's map says of the tree: the keys to seek from, and what is found there (docs/ARCHITECTURE.md, "Seek keys").
use Rattle.std.specs.Prelude.{cond, ◌++◌, Option, Some, None}
use Rattle.dewey_labels.specs.Labels.{Label}
use Rattle.dewey_labels.specs.Sides.{side, is_under, rest, first_code, fill}
use Rattle.tree_model.specs.declared.key.Key.{Key}
use Rattle.tree_model.specs.declared.record.Record.{Record}
use Rattle.tree_model.specs.Keys.{key_at, top_name}

-- behind a node and its attributes, before all that stands under it
abbrev pub behind_attributes : Label → Key
behind_attributes l = key_at l top_name

-- behind all that stands under a label, before all that comes after it
abbrev pub behind_tree : Label → Key
behind_tree l = key_at (fill l) top_name

-- the label of what was found, if it lies under p
abbrev pub if_under : Label → Option (Key × Record) → Option Label
if_under p None = None
if_under p (Some e) = cond (is_under (side p e.0.label)) (Some e.0.label) None

-- the label of the child of p on the way to what was found, if that lies under p
abbrev pub if_child : Label → Option (Key × Record) → Option Label
if_child p None = None
if_child p (Some e) = cond (is_under (side p e.0.label)) (Some (p ++ first_code (rest p e.0.label))) None
