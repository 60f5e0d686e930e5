-- How far an input has come, and what was read of it.
use Rattle.std.specs.Prelude.{◌≡◌, ◌<◌, ℕ, ◌+◌, ◌^◌, List, [], ◌++◌, length, if◌then◌else◌, ◌==◌, Some, None, Result, Ok, Err}
use Rattle.script_runs.specs.Lines.{ended, unended}
use Rattle.workers_text.specs.Limits.{KeepsLimits, too_long_in}
use Rattle.workers_text.specs.declared.script_error.ScriptError.{ScriptError}
use Rattle.workers_text.specs.declared.script_error.ScriptError.TheVariants.{TooLong, ReadFault, NoMemory}

-- an input so far, with its limits
pub record Taken : Type 0 where
  pub most : ℕ
  pub short : ℕ
  pub bytes : List ℕ

-- the counts of an input are those of its bytes, which keep the limits
pub record IsCounted (m s : ℕ) (bytes : List ℕ) (n k : ℕ) : Type 0 where
  pub lines : n ≡ length (ended [] bytes)
  pub column : k ≡ length (unended [] bytes)
  pub within : KeepsLimits m s bytes
  pub most : m < 2 ^ 63
  pub short : s < 2 ^ 63

-- the input came further by these bytes, within its limits
pub record CameOn (old new : Taken) (more : List ℕ) : Type 0 where
  pub most : new.most ≡ old.most
  pub short : new.short ≡ old.short
  pub bytes : new.bytes ≡ old.bytes ++ more
  pub within : KeepsLimits new.most new.short new.bytes

-- how many bytes of a line have come after one more
abbrev pub column_after : ℕ → ℕ → ℕ
column_after column b = if b == 10 then 0 else column + 1

-- how many lines have ended after one more
abbrev pub lines_after : ℕ → ℕ → ℕ
lines_after lines b = if b == 10 then lines + 1 else lines

-- what these bytes that were read say of the answer, whose bytes are its `items`
abbrev pub IsTaken : {T : Type 0} → ℕ → ℕ → List ℕ → Result T ScriptError → (T → List ℕ) → Type 0
IsTaken most short read (Ok bytes) items = (items bytes ≡ read) × (too_long_in most short read ≡ None)
IsTaken most short read (Err (TooLong line)) items = too_long_in most short read ≡ Some line
IsTaken most short read (Err ReadFault) items = too_long_in most short read ≡ None
IsTaken most short read (Err NoMemory) items = Unit {0}

-- where a line was too long this one was
abbrev pub IfTooLong : Result (Unit {0}) ScriptError → (ℕ → Type 0) → Type 0
IfTooLong (Err (TooLong line)) holds = holds line
IfTooLong result holds = Unit {0}
