-- Counts of faults, and answers that have their cause in one (docs/PROFILE.md, "Faults").
use Rattle.std.specs.Prelude.{◌≡◌, ℕ, ◌+◌, ◌-◌, ◌^◌, ◌≤◌, min, Result, Err, OnOk}
use Rattle.outside_traits.specs.declared.failed.Failed.{Failed}

-- a fault was counted; a counter of 64 bits stays at its last value
abbrev pub FaultCounted : ℕ → ℕ → Type 0
FaultCounted before now = min (before + 1) (2 ^ 64 - 1) ≤ now

-- the count hasn't fallen; it rose where this error is answered, and is as it was after a success
pub record HasCause {T E : Type 0} (fault : E) (before now : ℕ) (result : Result T E) : Type 0 where
  pub later : before ≤ now
  pub failed : result ≡ Err fault → FaultCounted before now
  pub exact : OnOk result (now ≡ before)

-- the one error of a source, a sink or a disk
abbrev pub failed : Failed
failed = record {}
