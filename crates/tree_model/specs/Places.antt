-- The places that hold trees: each node, and the root, which has no record, but the documents below it and the catalogue's entries as its attributes.
use Rattle.std.specs.Prelude.{Bool, if◌then◌else◌, Option}
use Rattle.dewey_labels.specs.Labels.{Label, root}
use Rattle.tree_model.specs.Tree.{Attributes, Forest, Tree, at, below, attributes_of, root_attributes, head_label, last_label}
use Rattle.tree_model.specs.ValidTrees.{same_label}

-- whether the label is the root's
abbrev pub is_root : Label → Bool
is_root l = same_label root l

-- the trees below a place: the documents below the root, the children of a node
abbrev pub row : Label → Tree → Forest
row l t = if is_root l then t.documents else below (at l t.documents)

-- the attributes of a place
abbrev pub attributes_at : Label → Tree → Attributes
attributes_at l t = if is_root l then root_attributes t.catalogue else attributes_of (at l t.documents)

-- the label of the first tree below a place
abbrev pub first_in : Label → Tree → Option Label
first_in l t = head_label (row l t)

-- that of the last one
abbrev pub last_in : Label → Tree → Option Label
last_in l t = last_label (row l t)
