-- Where a found node stands: its parent, the label behind which it stands, and the siblings behind it.
use Rattle.dewey_labels.specs.Labels.{Label}
use Rattle.dewey_labels.specs.Sides.{side}
use Rattle.std.specs.Prelude.{List}
use Rattle.tree_model.specs.Tree.{Forest, behind, choose, labels, node, none}

-- the label of the parent of the node with label l, p being that of the forest's trees
abbrev pub up : Label → Label → Forest → Label
up l p none = p
up l p (node m r ats ch nx) = choose (side m l) p p (up l m ch) (up l p nx)

-- the label behind which that node stands: its left neighbour's, or its parent's; b being that of the forest
abbrev pub low : Label → Label → Forest → Label
low l b none = b
low l b (node m r ats ch nx) = choose (side m l) b b (low l m ch) (low l m nx)

-- those of the siblings that follow it
abbrev pub following_of : Forest → List Label
following_of f = labels (behind f)
