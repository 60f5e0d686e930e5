-- The axes (XPath 1.0, section 2.2): relations between two positions of a tree.
use Rattle.std.specs.Prelude.{Bool, true, false, not, ◌&&◌, ◌||◌, if◌then◌else◌, List, [], ◌∷◌, reverse}
use Rattle.std.specs.List.{filter, list_any}
use Rattle.dewey_labels.specs.Labels.{Label, parent, is_child}
use Rattle.dewey_labels.specs.Sides.{Side, side, is_under, is_right, above, left, same, under, right}
use Rattle.dewey_labels.specs.Ancestors.{ancestors}
use Rattle.tree_model.specs.ValidTrees.{same_label}
use Rattle.tree_model.specs.Tree.{Tree}
use Rattle.path_model.specs.declared.path.Axis.{Axis}
use Rattle.path_model.specs.declared.path.Axis.TheVariants as axis
use Rattle.path_model.specs.declared.path.NodeTest.{NodeTest}
use Rattle.path_model.specs.Positions.{Position, a_node, an_attribute, positions, label_of, is_node, is_document, is_same, passes}

-- ---- sides

abbrev pub is_above : Side → Bool
is_above above = true
is_above left = false
is_above same = false
is_above under = false
is_above right = false

abbrev pub is_left : Side → Bool
is_left above = false
is_left left = true
is_left same = false
is_left under = false
is_left right = false

-- the side of the first position on which the second lies
abbrev pub side_of : Position → Position → Side
side_of n m = side (label_of n) (label_of m)

-- the label of the document in which a label lies: the ancestors from the root down begin with the root, and then comes the document
abbrev pub document_in : Label → List Label → Label
document_in l [] = l
document_in l (r ∷ []) = l
document_in l (r ∷ d ∷ more) = d

abbrev pub document_of : Label → Label
document_of l = document_in l (ancestors l)

-- whether two positions lie in one document
abbrev pub share_document : Position → Position → Bool
share_document n m = same_label (document_of (label_of n)) (document_of (label_of m))

-- ---- the axes from a node: none leads to an attribute but `attribute` and `self`

-- the second node's parent is the first one
abbrev pub is_child_of : Position → Position → Bool
is_child_of n m = is_node n && is_node m && is_child (label_of n) (label_of m)

abbrev pub lies_under : Position → Position → Bool
lies_under n m = is_node n && is_node m && is_under (side_of n m)

-- an attribute's parent is its element; a document has none
abbrev pub is_parent_of : Position → Position → Bool
is_parent_of (a_node l r) m = is_node m && is_child (label_of m) l
is_parent_of (an_attribute l n v) m = is_node m && same_label l (label_of m)

abbrev pub lies_above : Position → Position → Bool
lies_above (a_node l r) m = is_node m && is_above (side l (label_of m))
lies_above (an_attribute l n v) m = is_node m && (same_label l (label_of m) || is_above (side l (label_of m)))

-- two nodes with one parent; a document has no siblings, nor has an attribute
abbrev pub are_siblings : Position → Position → Bool
are_siblings n m = is_node n && is_node m && not (is_document n) && is_child (parent (label_of n)) (label_of m)

-- of an attribute these are its element's descendants and the nodes that follow that
abbrev pub follows : Position → Position → Bool
follows (a_node l r) m = is_node m && is_right (side l (label_of m))
follows (an_attribute l n v) m = is_node m && (is_under (side l (label_of m)) || is_right (side l (label_of m)))

abbrev pub is_attribute_of : Position → Position → Bool
is_attribute_of n m = is_node n && not (is_node m) && same_label (label_of n) (label_of m)

-- the second position is on the first one's axis
abbrev pub relates : Axis → Position → Position → Bool
relates axis.Child n m = is_child_of n m
relates axis.Descendant n m = lies_under n m
relates axis.Parent n m = is_parent_of n m
relates axis.Ancestor n m = lies_above n m
relates axis.FollowingSibling n m = are_siblings n m && is_right (side_of n m)
relates axis.PrecedingSibling n m = are_siblings n m && is_left (side_of n m)
relates axis.Following n m = share_document n m && follows n m
relates axis.Preceding n m = share_document n m && (is_node m && is_left (side_of n m))
relates axis.Attribute n m = is_attribute_of n m
relates axis.SelfNode n m = is_same n m
relates axis.DescendantOrSelf n m = is_same n m || lies_under n m
relates axis.AncestorOrSelf n m = is_same n m || lies_above n m

-- these part the nodes of a document: each is on one of them from a node, and on no other
abbrev pub parting : List Axis
parting = axis.Ancestor ∷ axis.Descendant ∷ axis.Following ∷ axis.Preceding ∷ axis.SelfNode ∷ []

-- these axes count backwards
abbrev pub is_reverse : Axis → Bool
is_reverse axis.Ancestor = true
is_reverse axis.AncestorOrSelf = true
is_reverse axis.Preceding = true
is_reverse axis.PrecedingSibling = true
is_reverse a = false

-- positions in document order as the axis counts them
abbrev pub in_axis_order : Axis → List Position → List Position
in_axis_order a ps = if is_reverse a then reverse ps else ps

-- the positions of a tree on the axis of one of them that pass the test, as the axis counts them
abbrev pub on_axis : Tree → Axis → NodeTest → Position → List Position
on_axis t a test n = in_axis_order a (filter (λ m. relates a n m && passes a test m) (positions t))

-- those that lie on the axis of any of a set and pass the test, in document order
abbrev pub on_axes : Tree → Axis → NodeTest → List Position → List Position
on_axes t a test ns = filter (λ m. list_any (λ n. relates a n m) ns && passes a test m) (positions t)
