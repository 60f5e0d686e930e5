-- What was read from a source.
use Rattle.std.specs.Prelude.{◌≡◌, ◌+◌, ℕ, List, length, Option}
use Rattle.outside_traits.specs.Bytes.{Gave}

-- the source gave some bytes and counted them, and this holds of them; `left` and `given` are the source's
abbrev pub GaveSome : {S : Type 0} → (S → Option (List ℕ)) → (S → ℕ) → S → S → (List ℕ → Type 0) → Type 0
GaveSome left given old new P = (read : List ℕ) × Gave (left old) (left new) read × (given new ≡ given old + length read) × P read
