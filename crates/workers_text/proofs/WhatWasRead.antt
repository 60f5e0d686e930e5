-- What was read of an input, as what was read of a script.
use Rattle.std.proofs.Common.{◌≡◌, ℕ, List, ◌∙◌, ap}
use Rattle.std.specs.Prelude.{Option, None, Some, Result, Ok, Err}
use Rattle.script_runs.specs.Counts.{CountedWhere}
use Rattle.script_runs.specs.Lines.{line_limit}
use Rattle.workers_text.specs.Entries.{Script, entries_of}
use Rattle.workers_text.specs.Limits.{IsReadScript, script_limit, too_long, too_long_in}
use Rattle.workers_text.specs.declared.script_error.ScriptError.{ScriptError}
use Rattle.workers_text.specs.declared.script_error.ScriptError.TheVariants.{TooLong, ReadFault, NoMemory}
use Rattle.workers_text.specs.inside.Inputs.{IsTaken}

same_limits : (read : List ℕ) (o : Option ℕ) → too_long_in script_limit line_limit read ≡ o → too_long read ≡ o
unfolding too_long
same_limits read o is = is

pub failed_so : {T : Type 0} (read : List ℕ) (e : ScriptError) (items : T → List ℕ) → IsTaken script_limit line_limit read (Err e) items → IsReadScript read (Err e)
failed_so read (TooLong line) items is = same_limits read (Some line) is
failed_so read ReadFault items is = same_limits read None is
failed_so read NoMemory items is = tt

pub read_so : (read bytes : List ℕ) (script : Script) → bytes ≡ read → too_long_in script_limit line_limit read ≡ None → script.entries ≡ entries_of bytes → IsReadScript read (Ok script)
read_so read bytes script same fits entries = (same_limits read None fits, entries ∙ ap entries_of same)

-- an error, as an answer
abbrev pub as_answer : (T : Type 0) → ScriptError → Result T ScriptError
as_answer T e = Err e

error_is : (T : Type 0) (e f : ScriptError) → as_answer T e ≡ as_answer T f → e ≡ f
error_is T e f is = cc

-- a fault was counted where the error is one, whatever there is without an error
pub counts_so : (T U : Type 0) (e : ScriptError) (before now : ℕ) → CountedWhere (as_answer T e ≡ as_answer T ReadFault) before now → CountedWhere (as_answer U e ≡ as_answer U ReadFault) before now
counts_so T U e before now h = record {
  counted = λ is. h.counted (ap (as_answer T) (error_is U e ReadFault is));
  exact = λ other. h.exact (λ is. other (ap (as_answer U) (error_is T e ReadFault is)));
}
