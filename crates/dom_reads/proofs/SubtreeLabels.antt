-- A label lies in a subtree where it is that of its node, or has it as an ancestor.
use Rattle.std.proofs.Common.{◌≡◌, ◌&&◌, ◌||◌, ◌==◌, Bool, true, false, [], ◌∷◌, Less, Equal, Greater, nat_cmp, nat_eq, arith, refl, ◌∙◌}
use Rattle.std.proofs.lemmas.Bool.Decides.{nat_tests}
use Rattle.std.specs.Cmp.Lexicographic.{pointwise}
use Rattle.dewey_labels.specs.Labels.{Label, is_ancestor}
use Rattle.dewey_labels.specs.Sides.{side, turn, is_in}

pub same_or_under : (a l : Label) → (pointwise nat_eq l a || is_ancestor a l) ≡ is_in (side a l)
same_or_under [] [] = refl
same_or_under [] (y ∷ l) = refl
same_or_under (x ∷ a) [] = refl
same_or_under (x ∷ a) (y ∷ l) =
    let by : (b c : Bool) → nat_eq y x ≡ b → (x == y) ≡ c → (pointwise nat_eq (y ∷ l) (x ∷ a) || is_ancestor (x ∷ a) (y ∷ l)) ≡ ((b && pointwise nat_eq l a) || (c && is_ancestor a l)) = λ b c e f i. (e i && pointwise nat_eq l a) || (f i && is_ancestor a l) in
    elim (nat_cmp y x) as (λ o. nat_cmp y x ≡ o → (pointwise nat_eq (y ∷ l) (x ∷ a) || is_ancestor (x ∷ a) (y ∷ l)) ≡ is_in (turn o (side a l))) [
      | Less ↦ λ q. by false false (grind (arith, nat_tests)) (grind (arith, nat_tests))
      | Equal ↦ λ q. by true true (grind (arith, nat_tests)) (grind (arith, nat_tests)) ∙ same_or_under a l
      | Greater ↦ λ q. by false false (grind (arith, nat_tests)) (grind (arith, nat_tests))
    ] refl
