-- What a look shows on a valid tree has labels, and its request is a row of the table.
use Rattle.std.proofs.Common.{◌≡◌, ℕ, true, List, [], ◌∷◌, Option, None, Some, refl, sym, subst}
use Rattle.dewey_labels.specs.Labels.{Label, is_label}
use Rattle.dewey_labels.proofs.Labels.{child_label}
use Rattle.lock_resources.specs.Intentions.{has_row}
use Rattle.tree_model.specs.Names.{Name}
use Rattle.tree_model.specs.Tree.{Attributes, Forest, none, node, Tree, at, below, head_label, found, attributes_of, beside}
use Rattle.tree_model.specs.ValidTrees.{IsValidTree, KeysRise}
use Rattle.tree_model.proofs.Found.{some_is, at_label}
use Rattle.tree_model.proofs.PlaceLaws.{below_keys}
use Rattle.path_model.specs.Positions.{a_node, attributes_at}
use Rattle.path_model.specs.Programs.{Look, at_node, at_row, at_tree, at_attributes, at_attribute, head_seen, row_seen, all_seen, tree_seen, value_seen, seen}
use Rattle.path_model.proofs.Members.{all_joined}
use Rattle.xpath_plans.specs.LookRequests.{resource_of, mode_of}
use Rattle.xpath_plans.proofs.LabelLists.{HasLabel, HaveLabels, IsAtLabel}

row_labels : (p b : Label) (f : Forest) → is_label p ≡ true → KeysRise p b f → HaveLabels (row_seen f)
row_labels p b none i w = tt
row_labels p b (node l r ats ch nx) i w = (child_label p l i w.0, row_labels p l nx i w.5)

all_labels : (p b : Label) (f : Forest) → is_label p ≡ true → KeysRise p b f → HaveLabels (all_seen f)
all_labels p b none i w = tt
all_labels p b (node l r ats ch nx) i w =
    let j = child_label p l i w.0 in
    all_joined HasLabel (a_node l r ∷ all_seen ch) (all_seen nx) (j, all_labels l l ch j w.4) (all_labels p l nx i w.5)

attributes_labels : (l : Label) (ats : Attributes) → is_label l ≡ true → HaveLabels (attributes_at l ats)
attributes_labels l [] i = tt
attributes_labels l (a ∷ ats) i = (i, attributes_labels l ats i)

value_labels : (l : Label) (n : Name) (o : Option (List ℕ)) → is_label l ≡ true → HaveLabels (value_seen l n o)
value_labels l n None i = tt
value_labels l n (Some v) i = (i, tt)

head_labels : (l : Label) (f : Forest) → is_label l ≡ true → (found f ≡ true → head_label f ≡ Some l) → HaveLabels (head_seen f)
head_labels l none i h = tt
head_labels l (node m r ats ch nx) i h = (subst (λ k. is_label k ≡ true) (sym (some_is m l (h refl))) i, tt)

tree_labels : (l : Label) (f : Forest) → is_label l ≡ true → (found f ≡ true → head_label f ≡ Some l) → KeysRise l l (below f) → HaveLabels (tree_seen f)
tree_labels l none i h w = tt
tree_labels l (node m r ats ch nx) i h w = (subst (λ k. is_label k ≡ true) (sym (some_is m l (h refl))) i, all_labels l l ch i w)

pub seen_labels : (o : Look) (t : Tree) → IsValidTree t → IsAtLabel o → HaveLabels (seen t o)
seen_labels (at_node l) t w i = head_labels l (at l t.documents) i (at_label l t.documents)
seen_labels (at_row l) t w i = row_labels l l (below (at l t.documents)) i (below_keys l t w)
seen_labels (at_tree l) t w i = tree_labels l (at l t.documents) i (at_label l t.documents) (below_keys l t w)
seen_labels (at_attributes l) t w i = attributes_labels l (attributes_of (at l t.documents)) i
seen_labels (at_attribute l n) t w i = value_labels l n (beside n (attributes_of (at l t.documents))) i

pub look_row : (o : Look) → has_row (resource_of o) (mode_of o) ≡ true
look_row (at_node l) = refl
look_row (at_row l) = refl
look_row (at_tree l) = refl
look_row (at_attributes l) = refl
look_row (at_attribute l n) = refl
