-- Numbers that were taken out and came back, and a roll that one entry was added to.
use Rattle.std.proofs.Common.{◌≡◌, ◌≢◌, ℕ, Bool, true, false, List, [], ◌∷◌, ◌++◌, ◌<◌}
use Rattle.std.specs.Prelude.{Some, slice_set}
use mathlib.Core.Logic.{dite}
use native.Mathlib.Decide.{ℕ_discrete}
use Rattle.std.proofs.Common.{ap, ◌∙◌}
use Rattle.turn_lock.specs.Turns.{has_number, HasAll, merged, only_number, all_numbers, GrewBy}
use Rattle.turn_lock.proofs.Numbers.{merged_at, or_left, or_right, there_alone, still_there, all_there}

-- one entry more, of an own number
pub wrote : (has : List Bool) (seen list : List ℕ) (n : ℕ) → list ≡ seen ++ n ∷ [] → has_number has n ≡ true → GrewBy (λ (k : ℕ). Some k) has seen list
wrote has seen list n is h = (n ∷ [], is, (h, tt))

-- all others are there, and this one comes back
comes_back : (has : List Bool) (k n : ℕ) → k < 65 → (n ≢ k → has_number has n ≡ true) → has_number (merged has (only_number k)) n ≡ true
comes_back has k n l other = merged_at has (only_number k) n ∙ dite (ℕ_discrete n k)
    (λ e. or_right (has_number has n) (has_number (only_number k) n) (ap (has_number (only_number k)) e ∙ there_alone k l))
    (λ ne. or_left (has_number has n) (has_number (only_number k) n) (other ne))

-- two numbers were taken out, and both came back
pub both_back : (j k : ℕ) → j < 65 → k < 65 → HasAll (merged (merged (slice_set (slice_set all_numbers j false) k false) (only_number k)) (only_number j))
both_back j k lj lk n l =
    let one = slice_set all_numbers j false in
    let two = slice_set one k false in
    comes_back (merged two (only_number k)) j n lj (λ nj. comes_back two k n lk (λ nk. still_there one k n nk (still_there all_numbers j n nj (all_there n l))))
