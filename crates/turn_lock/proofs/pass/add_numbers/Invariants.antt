use Rattle.std.proofs.Common.{◌≡◌, ℕ, ◌<◌, ◌≤◌, ◌||◌}
use Rattle.turn_lock.specs.Turns.{has_number}
use Rattle.turn_lock.proofs.pass.add_numbers.Given as goal

abbrev pub invariant-loop-i : goal.invariant-loop-i
invariant-loop-i l = ((n : ℕ) → n < l.i → has_number l.numbers n ≡ (has_number l.initial.numbers n || has_number l.others n))
    × ((n : ℕ) → l.i ≤ n → has_number l.numbers n ≡ has_number l.initial.numbers n)
