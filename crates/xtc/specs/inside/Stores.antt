-- What a read leaves of a disk's count of faults.
use Rattle.std.specs.Prelude.{◌≤◌, ℕ}
use Rattle.script_runs.specs.Counts.{CountedWhere}

-- a fault was counted where this is so, and none where it isn't
pub record Counts (this : Type 0) (before now : ℕ) : Type 0 where
  pub cause : CountedWhere this before now
  pub later : before ≤ now
