-- Lists of ticks.
use Rattle.std.proofs.Common.{◌≡◌, ◌≢◌, ◌≤◌, ◌+◌, ◌-◌, ℕ, zero, suc, Bool, true, false, List, ◌++◌, ◌<◌, replicate, refl, sym, ap, ◌∙◌, arith}
use Rattle.std.specs.Prelude.{None, slice_set}
use Rattle.std.proofs.lemmas.List.{replicate-append-replicate}
use Rattle.turn_lock.specs.Turns.{has_number, HasSome, AreOwn, GrewBy}
use Rattle.turn_lock.proofs.Numbers.{still_there}

own_ticks : (has : List Bool) (k : ℕ) → AreOwn (λ (_ : ℕ). None) has (replicate k 0)
own_ticks has zero = tt
own_ticks has (suc k) = (refl, own_ticks has k)

-- more ticks are more entries without a number
pub ticked : (has : List Bool) (seen : List ℕ) (old new : ℕ) → seen ≡ replicate old 0 → old ≤ new → GrewBy (λ (_ : ℕ). None) has seen (replicate new 0)
ticked has seen old new is l = (
  replicate (new - old) 0,
  ap (λ (k : ℕ). replicate k 0) (sum old new l) ∙ (sym (replicate-append-replicate old (new - old) 0) ∙ ap (λ (s : List ℕ). s ++ replicate (new - old) 0) (sym is)),
  own_ticks has (new - old),
)
  where
    sum : (a b : ℕ) → a ≤ b → b ≡ a + (b - a)
    sum a b l = omega arith

-- a pass that has all numbers below one has all below the last of them once that is taken out, and so some
pub below_stay : (has after : List Bool) (k : ℕ) → after ≡ slice_set has (k - 1) false → ((n : ℕ) → n < k → has_number has n ≡ true) → (n : ℕ) → n < k - 1 → has_number after n ≡ true
below_stay has after k is every n l = ap (λ b. has_number b n) is ∙ still_there has (k - 1) n (other n k l) (every n (omega arith))
  where
    other : (n k : ℕ) → n < k - 1 → n ≢ k - 1
    other n k l e = omega arith

pub some_stays : (has : List Bool) (k : ℕ) → 1 < k → ((n : ℕ) → n < k → has_number has n ≡ true) → HasSome (slice_set has (k - 1) false)
some_stays has k l every = (0, below_stay has (slice_set has (k - 1) false) k refl every 0 (omega arith))
