-- A whole input that is read before anything is done with it.
use Rattle.std.specs.Prelude.{◌≡◌, ◌<◌, ◌≤◌, ◌+◌, ℕ, List, length, Result, Ok, Err}
use Rattle.script_runs.specs.declared.whole.GatherError.{GatherError}
use Rattle.script_runs.specs.declared.whole.GatherError.TheVariants.{TooLong, ReadFault, NoMemory}

-- the most bytes that are asked for at a time
abbrev pub piece : ℕ
piece = 65536

-- more than the limit, by one piece at most
pub record IsPast (limit count : ℕ) : Type 0 where
  pub past : limit < count
  pub most : count ≤ limit + piece

-- what these bytes that were read say of the answer, whose bytes are its `items`
abbrev pub IsGathered : {T : Type 0} → ℕ → List ℕ → Result T GatherError → (T → List ℕ) → Type 0
IsGathered limit read (Ok bytes) items = (items bytes ≡ read) × (length read ≤ limit)
IsGathered limit read (Err TooLong) items = IsPast limit (length read)
IsGathered limit read (Err ReadFault) items = length read ≤ limit
IsGathered limit read (Err NoMemory) items = length read ≤ limit + piece
