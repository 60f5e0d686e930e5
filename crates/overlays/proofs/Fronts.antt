-- What a pop takes off the front of a list.
use Rattle.std.proofs.Common.{◌≡◌, ◌≤◌, ◌<◌, List, [], ◌∷◌, ◌++◌, length, drop, slice_index_or, Option, Some, option_to_list, refl, sym, ap, ◌∙◌, arith}

module _ {A : Type 0} where
  -- a list before and after a pop, and what was popped
  pub record IsPopped (xs ys : List A) (r : Option A) (x : A) : Type 0 where
    pub popped : r ≡ Some x
    pub parts : xs ≡ x ∷ ys

  pub popped_first : (xs ys : List A) (r : Option A) (x : A) → xs ≡ option_to_list r ++ ys → r ≡ Some (slice_index_or xs 0 x) → x ≡ slice_index_or xs 0 x → IsPopped xs ys r x
  popped_first xs ys r x h p q =
      let is : r ≡ Some x = p ∙ ap Some (sym q) in
      record { popped = is; parts = h ∙ ap (λ o. option_to_list o ++ ys) is }

  -- what stands first in a list, and behind it
  pub first_parts : (xs : List A) (x : A) → 0 < length xs → x ≡ slice_index_or xs 0 x → xs ≡ x ∷ drop 1 xs
  first_parts [] x l h = absurd (omega (arith, l))
  first_parts (y ∷ ys) x l h = λ i. sym h i ∷ ys

  pub none_first : (xs : List A) → length xs ≤ 0 → xs ≡ []
  none_first [] l = refl
  none_first (x ∷ xs) l = absurd (omega (arith, l))
