-- Numbers that were taken out and came back.
use Rattle.std.proofs.Common.{◌≡◌, ◌≢◌, ◌≤◌, ◌+◌, ℕ, Bool, true, false, List, ◌<◌, ap, ◌∙◌, arith}
use Rattle.std.specs.Prelude.{slice_set}
use mathlib.Core.Logic.{dite}
use native.Mathlib.Decide.{ℕ_discrete}
use Rattle.turn_lock.specs.Turns.{has_number, merged, only_number}
use Rattle.turn_lock.proofs.Numbers.{merged_at, or_left, or_right, still_there, there_alone}

-- what was there is there again once the number that was taken out comes back
pub come_back : (has cut rest after : List Bool) (k n : ℕ) → k < 65 → cut ≡ slice_set has k false → after ≡ merged rest (only_number k)
    → ((n : ℕ) → has_number cut n ≡ true → has_number rest n ≡ true) → has_number has n ≡ true → has_number after n ≡ true
come_back has cut rest after k n l out is back there = ap (λ h. has_number h n) is ∙ (merged_at rest (only_number k) n ∙ dite (ℕ_discrete n k)
    (λ e. or_right (has_number rest n) (has_number (only_number k) n) (ap (has_number (only_number k)) e ∙ there_alone k l))
    (λ ne. or_left (has_number rest n) (has_number (only_number k) n) (back n (ap (λ b. has_number b n) out ∙ still_there has k n ne there))))

-- all up to k are there, and those below it are once k is taken out
pub below_stay : (has cut : List Bool) (k m : ℕ) → k ≡ m + 1 → cut ≡ slice_set has k false → ((n : ℕ) → n ≤ k → has_number has n ≡ true) → (n : ℕ) → n ≤ m → has_number cut n ≡ true
below_stay has cut k m one out every n l = ap (λ b. has_number b n) out ∙ still_there has k n (other n k m one l) (every n (up n k m one l))
  where
    other : (n k m : ℕ) → k ≡ m + 1 → n ≤ m → n ≢ k
    other n k m one l e = omega arith

    up : (n k m : ℕ) → k ≡ m + 1 → n ≤ m → n ≤ k
    up n k m one l = omega arith
