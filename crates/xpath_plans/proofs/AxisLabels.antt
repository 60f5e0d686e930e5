-- Each axis looks at labels alone.
use Rattle.std.proofs.Common.{◌≡◌, ℕ, zero, suc, true, List, [], ◌∷◌, drop}
use Rattle.std.specs.List.{AllByRecursion}
use Rattle.dewey_labels.specs.Labels.{Label, is_label, level}
use Rattle.dewey_labels.specs.Ancestors.{ancestors, cuts}
use Rattle.dewey_labels.proofs.Labels.{is_label-parent}
use Rattle.dewey_labels.proofs.Ancestors.{is_label-cut}
use Rattle.tree_model.specs.declared.record.Record.TheVariants.{Document, Element, Text, Attr}
use Rattle.path_model.specs.declared.path.Axis.{Axis}
use Rattle.path_model.specs.declared.path.Axis.TheVariants as axis
use Rattle.path_model.specs.declared.path.NodeTest.{NodeTest}
use Rattle.path_model.specs.declared.path.NodeTest.TheVariants as test
use Rattle.path_model.specs.Axes.{document_in, document_of}
use Rattle.path_model.specs.AxisPrograms.{children, descendants, parent_node, ancestors_up, nodes_at, ancestor_nodes, siblings, attribute_look, attributes, following_nodes, along}
use Rattle.path_model.specs.Positions.{Position, a_node, an_attribute, label_of}
use Rattle.path_model.specs.Programs.{at_node, ends, looks}
use Rattle.path_model.proofs.Members.{all_filtered, all_reversed}
use Rattle.xpath_plans.proofs.LabelLists.{HasLabel, HaveLabels, IsAtLabel, AtLabels, labelled_then, labelled_each, all_dropped}

abbrev AreLabels : List Label → Type 0
AreLabels ls = AllByRecursion (λ l. is_label l ≡ true) ls

cuts_labels : (n : ℕ) (l : Label) → is_label l ≡ true → AreLabels (cuts n l)
cuts_labels zero l i = tt
cuts_labels (suc n) l i = (is_label-cut (suc n) l i, cuts_labels n l i)

pub document_label : (l : Label) → is_label l ≡ true → is_label (document_of l) ≡ true
document_label l i = by (ancestors l) (cuts_labels (level l) l i)
  where
    by : (ls : List Label) → AreLabels ls → is_label (document_in l ls) ≡ true
    by [] h = i
    by (r ∷ []) h = i
    by (r ∷ d ∷ more) h = h.1.0

up_labels : (l : Label) → is_label l ≡ true → AreLabels (ancestors_up l)
up_labels l i = all_reversed (λ k. is_label k ≡ true) (drop 1 (ancestors l)) (all_dropped (λ k. is_label k ≡ true) 1 (ancestors l) (cuts_labels (level l) l i))

nodes_labelled : (ls : List Label) → AreLabels ls → AtLabels HaveLabels (nodes_at ls)
nodes_labelled ls h = labelled_each (λ l. is_label l ≡ true) HasLabel (λ l. looks (at_node l) ends) ls (λ l i. (i, λ s j. j)) h

ancestors_labelled : (n : Position) → HasLabel n → AtLabels HaveLabels (ancestor_nodes n)
ancestors_labelled (a_node l r) i = nodes_labelled (ancestors_up l) (up_labels l i)
ancestors_labelled (an_attribute l n v) i = nodes_labelled (l ∷ ancestors_up l) (i, up_labels l i)

descendants_labelled : (n : Position) → HasLabel n → AtLabels HaveLabels (descendants n)
descendants_labelled (a_node l r) i = (i, λ s j. all_dropped HasLabel 1 s j)
descendants_labelled (an_attribute l n v) i = tt

siblings_labelled : (which : List Position → List Position) → ((s : List Position) → HaveLabels s → HaveLabels (which s)) → (n : Position) → HasLabel n
    → AtLabels HaveLabels (siblings which n)
siblings_labelled which keeps (a_node l Document) i = tt
siblings_labelled which keeps (a_node l (Element m)) i = (is_label-parent l i, λ s j. keeps s j)
siblings_labelled which keeps (a_node l (Text d)) i = (is_label-parent l i, λ s j. keeps s j)
siblings_labelled which keeps (a_node l (Attr v)) i = (is_label-parent l i, λ s j. keeps s j)
siblings_labelled which keeps (an_attribute l n v) i = tt

parent_labelled : (n : Position) → HasLabel n → AtLabels HaveLabels (parent_node n)
parent_labelled (a_node l Document) i = tt
parent_labelled (a_node l (Element m)) i = (is_label-parent l i, λ s j. j)
parent_labelled (a_node l (Text d)) i = (is_label-parent l i, λ s j. j)
parent_labelled (a_node l (Attr v)) i = (is_label-parent l i, λ s j. j)
parent_labelled (an_attribute l n v) i = (i, λ s j. j)

look_label : (t : NodeTest) (l : Label) → is_label l ≡ true → IsAtLabel (attribute_look t l)
look_label (test.Name n) l i = i
look_label test.Any l i = i
look_label test.Text l i = i
look_label test.Node l i = i

attributes_labelled : (t : NodeTest) (n : Position) → HasLabel n → AtLabels HaveLabels (attributes t n)
attributes_labelled t (a_node l (Element m)) i = (look_label t l i, λ s j. j)
attributes_labelled t (a_node l Document) i = tt
attributes_labelled t (a_node l (Text d)) i = tt
attributes_labelled t (a_node l (Attr v)) i = tt
attributes_labelled t (an_attribute l n v) i = tt

children_labelled : (n : Position) → HasLabel n → AtLabels HaveLabels (children n)
children_labelled (a_node l r) i = (i, λ s j. j)
children_labelled (an_attribute l n v) i = tt

following_labelled : (n : Position) → HasLabel n → AtLabels HaveLabels (following_nodes n)
following_labelled (a_node l r) i = (document_label l i, λ s j. all_filtered HasLabel _ s j)
following_labelled (an_attribute l n v) i = (document_label l i, λ s j. all_filtered HasLabel _ s j)

pub axis_labelled : (a : Axis) (t : NodeTest) (n : Position) → HasLabel n → AtLabels HaveLabels (along a t n)
axis_labelled axis.Child t n i = children_labelled n i
axis_labelled axis.Descendant t n i = descendants_labelled n i
axis_labelled axis.Parent t n i = parent_labelled n i
axis_labelled axis.Ancestor t n i = ancestors_labelled n i
axis_labelled axis.FollowingSibling t n i = siblings_labelled _ (λ s j. all_filtered HasLabel _ s j) n i
axis_labelled axis.PrecedingSibling t n i = siblings_labelled _ (λ s j. all_reversed HasLabel _ (all_filtered HasLabel _ s j)) n i
axis_labelled axis.Following t n i = following_labelled n i
axis_labelled axis.Preceding t n i = (document_label (label_of n) i, λ s j. all_reversed HasLabel _ (all_filtered HasLabel _ s j))
axis_labelled axis.Attribute t n i = attributes_labelled t n i
axis_labelled axis.SelfNode t n i = (i, tt)
axis_labelled axis.DescendantOrSelf t n i = labelled_then HaveLabels HaveLabels (descendants n) (λ s. ends (n ∷ s)) (descendants_labelled n i) (λ s j. (i, j))
axis_labelled axis.AncestorOrSelf t n i = labelled_then HaveLabels HaveLabels (ancestor_nodes n) (λ s. ends (n ∷ s)) (ancestors_labelled n i) (λ s j. (i, j))
