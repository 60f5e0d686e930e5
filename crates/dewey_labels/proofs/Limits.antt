-- The tests of labels and of their limits decide them.
use Rattle.std.proofs.Common.{◌≡◌, ℕ, length, ◌≤◌, true, ◌&&◌, nat_le, List, [], ◌∷◌, arith, refl, ap, ◌∙◌}
use Rattle.std.proofs.lemmas.Bool.Decides.{nat_tests}
use Rattle.std.specs.List.{AllByRecursion, list_all}
use Rattle.dewey_labels.specs.Labels.{Label, greatest, most_divisions, is_label, Within, is_within, IsLabel, is_label_within}
use Rattle.dewey_labels.proofs.Codes.{first_of_both, second_of_both}

le_true : (d n : ℕ) → nat_le d n ≡ true → d ≤ n
le_true d n h = grind (arith, nat_tests)

true_le : (d n : ℕ) → d ≤ n → nat_le d n ≡ true
true_le d n h = grind (arith, nat_tests)

at_most_all : (l : List ℕ) → list_all (λ d. nat_le d greatest) l ≡ true → AllByRecursion (λ d. d ≤ greatest) l
at_most_all [] h = tt
at_most_all (d ∷ l) h = (le_true d greatest (first_of_both _ _ h), at_most_all l (second_of_both (nat_le d greatest) _ h))

all_at_most : (l : List ℕ) → AllByRecursion (λ d. d ≤ greatest) l → list_all (λ d. nat_le d greatest) l ≡ true
all_at_most [] h = refl
all_at_most (d ∷ l) h = ap (λ b. b && list_all (λ d. nat_le d greatest) l) (true_le d greatest h.0) ∙ all_at_most l h.1

-- the test of the limits decides them
pub within_of_test : (l : Label) → is_within l ≡ true → Within l
within_of_test l h = (le_true (length l) most_divisions (first_of_both _ _ h), at_most_all l (second_of_both (nat_le (length l) most_divisions) _ h))

pub test_of_within : (l : Label) → Within l → is_within l ≡ true
test_of_within l h = ap (λ b. b && list_all (λ d. nat_le d greatest) l) (true_le (length l) most_divisions h.0) ∙ all_at_most l h.1

-- the test of a label within the limits decides it
pub label_of_test : (l : Label) → is_label_within l ≡ true → IsLabel l
label_of_test l h = (first_of_both (is_label l) (is_within l) h, within_of_test l (second_of_both (is_label l) (is_within l) h))

pub test_of_label : (l : Label) → IsLabel l → is_label_within l ≡ true
test_of_label l h = ap (λ b. b && is_within l) h.0 ∙ test_of_within l h.1
