-- What is looked at for the axes (docs/PROFILE.md, "Paths").
use Rattle.std.specs.Prelude.{Bool, List, [], ◌∷◌, ◌||◌, reverse, drop}
use Rattle.std.specs.List.{filter}
use Rattle.dewey_labels.specs.Labels.{Label, parent}
use Rattle.dewey_labels.specs.Sides.{side, is_under, is_right}
use Rattle.dewey_labels.specs.Ancestors.{ancestors}
use Rattle.tree_model.specs.declared.record.Record.TheVariants.{Document, Element}
use Rattle.tree_model.specs.Tree.{Tree}
use Rattle.path_model.specs.declared.path.Axis.{Axis}
use Rattle.path_model.specs.declared.path.Axis.TheVariants as axis
use Rattle.path_model.specs.declared.path.NodeTest.{NodeTest}
use Rattle.path_model.specs.declared.path.NodeTest.TheVariants as test
use Rattle.path_model.specs.Axes.{document_of, is_left}
use Rattle.path_model.specs.Positions.{Position, a_node, an_attribute, label_of, passes}
use Rattle.path_model.specs.Programs.{Look, at_node, at_row, at_tree, at_attributes, at_attribute, Program, ends, looks, and_then, gathered, answer}

abbrev pub on_right : Label → Position → Bool
on_right l m = is_right (side l (label_of m))

abbrev pub on_left : Label → Position → Bool
on_left l m = is_left (side l (label_of m))

abbrev pub under_or_right : Label → Position → Bool
under_or_right l m = is_under (side l (label_of m)) || is_right (side l (label_of m))

abbrev pub children : Position → Program (List Position)
children (a_node l r) = looks (at_row l) ends
children (an_attribute l n v) = ends []

abbrev pub descendants : Position → Program (List Position)
descendants (a_node l r) = looks (at_tree l) (λ s. ends (drop 1 s))
descendants (an_attribute l n v) = ends []

-- a document has no parent
abbrev pub parent_node : Position → Program (List Position)
parent_node (a_node l Document) = ends []
parent_node (a_node l r) = looks (at_node (parent l)) ends
parent_node (an_attribute l n v) = looks (at_node l) ends

-- the ancestors from the parent up to the document
abbrev pub ancestors_up : Label → List Label
ancestors_up l = reverse (drop 1 (ancestors l))

abbrev pub nodes_at : List Label → Program (List Position)
nodes_at ls = gathered (λ l. looks (at_node l) ends) ls

abbrev pub ancestor_nodes : Position → Program (List Position)
ancestor_nodes (a_node l r) = nodes_at (ancestors_up l)
ancestor_nodes (an_attribute l n v) = nodes_at (l ∷ ancestors_up l)

-- a document has no siblings
abbrev pub siblings : (List Position → List Position) → Position → Program (List Position)
siblings which (a_node l Document) = ends []
siblings which (a_node l r) = looks (at_row (parent l)) (λ s. ends (which s))
siblings which (an_attribute l n v) = ends []

-- those on the right
abbrev pub following_siblings : Position → Program (List Position)
following_siblings n = siblings (λ s. filter (on_right (label_of n)) s) n

-- those on the left, from the nearest one on
abbrev pub preceding_siblings : Position → Program (List Position)
preceding_siblings n = siblings (λ s. reverse (filter (on_left (label_of n)) s)) n

-- with a name one attribute is looked at, otherwise all
abbrev pub attribute_look : NodeTest → Label → Look
attribute_look (test.Name n) l = at_attribute l n
attribute_look t l = at_attributes l

-- elements alone have attributes
abbrev pub attributes : NodeTest → Position → Program (List Position)
attributes t (a_node l (Element m)) = looks (attribute_look t l) ends
attributes t n = ends []

abbrev pub following_nodes : Position → Program (List Position)
following_nodes (a_node l r) = looks (at_tree (document_of l)) (λ s. ends (filter (on_right l) s))
following_nodes (an_attribute l n v) = looks (at_tree (document_of l)) (λ s. ends (filter (under_or_right l) s))

abbrev pub preceding_nodes : Position → Program (List Position)
preceding_nodes n = looks (at_tree (document_of (label_of n))) (λ s. ends (reverse (filter (on_left (label_of n)) s)))

-- the positions on an axis, in its order; of attributes with a name at least these
abbrev pub along : Axis → NodeTest → Position → Program (List Position)
along axis.Child t n = children n
along axis.Descendant t n = descendants n
along axis.Parent t n = parent_node n
along axis.Ancestor t n = ancestor_nodes n
along axis.FollowingSibling t n = following_siblings n
along axis.PrecedingSibling t n = preceding_siblings n
along axis.Following t n = following_nodes n
along axis.Preceding t n = preceding_nodes n
along axis.Attribute t n = attributes t n
along axis.SelfNode t n = ends (n ∷ [])
along axis.DescendantOrSelf t n = and_then (descendants n) (λ s. ends (n ∷ s))
along axis.AncestorOrSelf t n = and_then (ancestor_nodes n) (λ s. ends (n ∷ s))

-- the positions that pass the test, of those that looking along the axis shows on a tree
abbrev pub shown_along : Tree → Axis → NodeTest → Position → List Position
shown_along t axis test n = filter (passes axis test) (answer t (along axis test n))
