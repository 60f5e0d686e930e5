-- The node with a label, where a tree has one.
use Rattle.std.specs.Prelude.{IsTrue, List}
use Rattle.dewey_labels.specs.Labels.{Label}
use Rattle.tree_model.specs.Tree.{Tree, at, children_of, found}

-- a node of the tree has the label
abbrev pub HasNodeAt : Label → Tree → Type 0
HasNodeAt l t = IsTrue (found (at l t.documents))

-- the labels of the children of the node that has the label
abbrev pub children_at : Label → Tree → List Label
children_at l t = children_of (at l t.documents)
