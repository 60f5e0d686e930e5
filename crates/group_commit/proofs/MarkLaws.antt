-- The list behind the journal's turn as it goes on.
use Rattle.std.proofs.Common.{◌≡◌, ℕ, zero, suc, ◌+◌, ◌≤◌, Bool, List, [], ◌∷◌, ◌++◌, length, refl, ap, ◌∙◌, arith}
use Rattle.std.specs.Prelude.{Option, Some, None, max}
use Rattle.std.proofs.Math.Nat.{le-max_left, le-max_right, max-eq_left, max-eq_right, max-le}
use Rattle.turn_lock.specs.Turns.{AreOwn}
use Rattle.group_commit.specs.Marks.{AreDurable, durable_in, durables, failure_in, failures, marked_by}
use Rattle.group_commit.specs.declared.mark.Failed.{Failed}
use Rattle.group_commit.specs.declared.mark.Mark.{Mark}
use Rattle.group_commit.specs.declared.mark.Mark.TheVariants as mark
use Rattle.group_commit.specs.inside.Scribes.{reached}

module _ {S J : Type 0} where
  -- ---- what a list tells

  -- a longer list tells no smaller number
  pub durable_grows : (xs ys : List (Mark S J)) → durable_in xs ≤ durable_in (xs ++ ys)
  durable_grows [] ys = omega arith
  durable_grows (mark.Opening s j ∷ xs) ys = durable_grows xs ys
  durable_grows (mark.Durable n ∷ xs) ys =
      let more = durable_grows xs ys in
      let right = le-max_right n (durable_in (xs ++ ys)) in
      max-le (le-max_left n (durable_in (xs ++ ys))) (omega (arith, more, right))
  durable_grows (mark.Failure by f ∷ xs) ys = durable_grows xs ys

  pub failure_append : (xs ys : List (Mark S J)) → failure_in xs ≡ None → failure_in (xs ++ ys) ≡ failure_in ys
  failure_append [] ys none = refl
  failure_append (mark.Opening s j ∷ xs) ys none = failure_append xs ys none
  failure_append (mark.Durable n ∷ xs) ys none = failure_append xs ys none
  failure_append (mark.Failure by f ∷ xs) ys none = cc

  -- where a longer list tells no failure
  pub unfailed_first : (xs ys : List (Mark S J)) → failure_in (xs ++ ys) ≡ None → failure_in xs ≡ None
  unfailed_first [] ys none = refl
  unfailed_first (mark.Opening s j ∷ xs) ys none = unfailed_first xs ys none
  unfailed_first (mark.Durable n ∷ xs) ys none = unfailed_first xs ys none
  unfailed_first (mark.Failure by f ∷ xs) ys none = none

  -- ---- whose they are

  pub durable_own : (has : List Bool) (ms : List (Mark S J)) → AreDurable ms → AreOwn marked_by has ms
  durable_own has [] d = tt
  durable_own has (mark.Opening s j ∷ ms) d = absurd d
  durable_own has (mark.Durable n ∷ ms) d = (refl, durable_own has ms d)
  durable_own has (mark.Failure by f ∷ ms) d = absurd d

module _ (S J : Type 0) where
  pub durables_length : (after n : ℕ) → length (durables {S = S} {J = J} after n) ≡ n
  durables_length after zero = refl
  durables_length after (suc n) = ap suc (durables_length (after + 1) n)

  pub durables_more : (after n m : ℕ) → durables {S = S} {J = J} after (n + m) ≡ durables {S = S} {J = J} after n ++ durables (after + n) m
  durables_more after zero m =
      let e : after ≡ after + 0 = omega arith in
      let f : 0 + m ≡ m = omega arith in
      λ i. durables (e i) (f i)
  durables_more after (suc n) m =
      let e : after + 1 + n ≡ after + suc n = omega arith in
      let f : suc n + m ≡ suc (n + m) = omega arith in
      ap (durables {S = S} {J = J} after) f ∙
      ap (λ (l : List (Mark S J)). mark.Durable (after + 1) ∷ l) (durables_more (after + 1) n m ∙ ap (λ (k : ℕ). durables (after + 1) n ++ durables k m) e)

  pub are_durable : (after n : ℕ) → AreDurable (durables {S = S} {J = J} after n)
  are_durable after zero = tt
  are_durable after (suc n) = are_durable (after + 1) n

  durable_failures : (f : Option Failed) → durable_in (failures {S = S} {J = J} f) ≡ 0
  durable_failures None = refl
  durable_failures (Some f) = refl

  pub durable_told : (after n : ℕ) (f : Option Failed) → durable_in (durables {S = S} {J = J} after n ++ failures {S = S} {J = J} f) ≡ reached after n
  durable_told after zero f = durable_failures f
  durable_told after (suc zero) f = ap (max (after + 1)) (durable_failures f) ∙ max-eq_left (omega arith)
  durable_told after (suc (suc n)) f =
      let last : after + 1 + suc n ≡ after + suc (suc n) = omega arith in
      ap (max (after + 1)) (durable_told (after + 1) (suc n) f) ∙ (max-eq_right (omega arith) ∙ last)

  none_failed : (after n : ℕ) → failure_in (durables {S = S} {J = J} after n) ≡ None
  none_failed after zero = refl
  none_failed after (suc n) = none_failed (after + 1) n

  pub failure_told : (after n : ℕ) (f : Option Failed) → failure_in (durables {S = S} {J = J} after n ++ failures {S = S} {J = J} f) ≡ failure_in (failures {S = S} {J = J} f)
  failure_told after n f = failure_append (durables {S = S} {J = J} after n) (failures {S = S} {J = J} f) (none_failed after n)
