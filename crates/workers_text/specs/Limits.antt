-- Which inputs are too long to be read as a script, and what was read of one (docs/MANUAL.md, "Statuses").
use Rattle.std.specs.Prelude.{◌≡◌, ◌≤◌, ℕ, ◌+◌, List, length, take, if◌then◌else◌, nat_lt, Option, Some, None, Result, Ok, Err}
use Rattle.std.specs.Option.{option_or}
use Rattle.script_runs.specs.Lines.{AllShort, first_long, line_limit, lines_of}
use Rattle.workers_text.specs.Entries.{Script, entries_of}
use Rattle.workers_text.specs.declared.script_error.ScriptError.{ScriptError}
use Rattle.workers_text.specs.declared.script_error.ScriptError.TheVariants.{TooLong, ReadFault, NoMemory}
use Rattle.outside_traits.specs.Bytes.{Gave}

-- the most bytes of a whole script
abbrev pub script_limit : ℕ
script_limit = 16777216

-- 0 where the whole is of more than `most` bytes
abbrev pub past : ℕ → List ℕ → Option ℕ
past most bytes = if nat_lt most (length bytes) then Some 0 else None

-- What the first byte too many passes, of lines of `short` bytes and a whole of `most`: the number of the line from 1, or 0 where it is the whole alone.
-- A line that is too long within the bytes up to that one was so no later.
abbrev pub too_long_in : ℕ → ℕ → List ℕ → Option ℕ
too_long_in most short bytes = option_or (first_long short 1 (lines_of (take (most + 1) bytes))) (past most bytes)

-- the same by the limits of scripts
unfoldable pub too_long : List ℕ → Option ℕ
too_long bytes = too_long_in script_limit line_limit bytes

-- no line is of more than `short` bytes, and the whole of no more than `most`
pub record KeepsLimits (most short : ℕ) (bytes : List ℕ) : Type 0 where
  pub lines : AllShort short (lines_of bytes)
  pub whole : length bytes ≤ most

-- The source gave some bytes and counted them, no more than these, and this holds of them.
-- `left` and `given` are the source's.
abbrev pub GaveAtMost : {S : Type 0} → (S → Option (List ℕ)) → (S → ℕ) → ℕ → S → S → (List ℕ → Type 0) → Type 0
GaveAtMost left given most old new holds =
    (read : List ℕ) × Gave (left old) (left new) read × (given new ≡ given old + length read) × (length read ≤ most) × holds read

-- what these bytes that were read say of the answer
abbrev pub IsReadScript : List ℕ → Result Script ScriptError → Type 0
IsReadScript read (Ok script) = (too_long read ≡ None) × (script.entries ≡ entries_of read)
IsReadScript read (Err (TooLong line)) = too_long read ≡ Some line
IsReadScript read (Err ReadFault) = too_long read ≡ None
IsReadScript read (Err NoMemory) = Unit {0}
