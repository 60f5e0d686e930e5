-- A source that is read up to a limit (docs/PROFILE.md, "Limits").
use Rattle.std.specs.Prelude.{◌≡◌, ◌≤◌, ◌⊎◌, ℕ, Result, MatchResult, OnOk, OnErr}
use Rattle.outside_traits.specs.Faults.{FaultCounted}

-- the most bytes that one run takes from its source
abbrev pub input_limit : ℕ
input_limit = 1_099_511_627_776

-- of the source below a bound with so much room left: a read that succeeded counted no fault there, and one that failed counted one or had no room
pub record BelowCause {T E : Type 0} (room before now : ℕ) (result : Result T E) : Type 0 where
  pub later : before ≤ now
  pub failed : OnErr result (((room ≡ 0) × (now ≡ before)) ⊎ FaultCounted before now)
  pub exact : OnOk result (now ≡ before)

-- a read that succeeded was asked for behind all that was given before it; one that failed isn't counted
abbrev pub AskedBehind : {T E : Type 0} → ℕ → ℕ → ℕ → Result T E → Type 0
AskedBehind given before now result = MatchResult result (λ _. now ≡ given) (λ _. now ≡ before)
