-- Worked rows of labels.
use Rattle.std.proofs.Common.{◌≡◌, true, false, [], ◌∷◌, refl}
use Rattle.dewey_labels.specs.Labels.{Label, root, is_label, is_child, is_ancestor, parent, level}

-- 1.1001.1001.2.1001, a child of the document's element behind an overflow division
child : Label
child = 1 ∷ 1001 ∷ 1001 ∷ 2 ∷ 1001 ∷ []

level_of_a_child : level child ≡ 3
unfolding child
level_of_a_child = refl

level_of_a_document : level (1 ∷ 1001 ∷ []) ≡ 1
level_of_a_document = refl

level_of_the_root : level root ≡ 0
level_of_the_root = refl

the_parent_of_a_child : parent child ≡ 1 ∷ 1001 ∷ 1001 ∷ []
unfolding child
the_parent_of_a_child = refl

the_child_is_one : is_child (1 ∷ 1001 ∷ 1001 ∷ []) child ≡ true
unfolding child
the_child_is_one = refl

half_a_code_is_none : is_label (1 ∷ 1001 ∷ 1001 ∷ 2 ∷ []) ≡ false
half_a_code_is_none = refl

no_label_is_its_own_ancestor : is_ancestor root root ≡ false
no_label_is_its_own_ancestor = refl
