-- What taking an input into a new script leaves, and what running one does.
use Rattle.std.specs.Prelude.{◌≡◌, ℕ, ◌+◌, ◌-◌, ◌≤◌, List, [], length, Option, Result, Ok, Err, OnOk, IfSome}
use Rattle.outside_kinds.specs.Bounds.{input_limit}
use Rattle.outside_kinds.specs.declared.bounded.Bounded.{Bounded}
use Rattle.node_records.specs.declared.open_error.Place.{Place}
use Rattle.script_runs.specs.Counts.{CountedWhere, DisksCountedWhere, ReadCountedWhere}
use Rattle.script_runs.specs.Lines.{line_limit}
use Rattle.script_runs.specs.Machine.{Machine}
use Rattle.script_runs.specs.Reads.{GaveSome}
use Rattle.script_runs.specs.Runs.{RunsInput}
use Rattle.script_runs.specs.inside.Feeding.{Script, TakesFrom, IfGoesOn, went}
use Rattle.script_runs.specs.declared.feeding.Stop.{Stop}
use Rattle.script_runs.specs.declared.feeding.Stop.TheVariants.{WriteFault, Halted}
use Rattle.script_runs.specs.declared.halt.Halt.TheVariants.{DiskFault, Damaged}
use Rattle.script_runs.specs.declared.running.End.{End}
use Rattle.script_runs.specs.declared.running.End.TheVariants as end
use Rattle.script_runs.specs.declared.running.Input.{Input}
use Rattle.script_runs.specs.declared.running.Input.TheVariants.{Ended, Fault}

-- Bytes were read from a source and taken, and all that is pending is written where the input came to its end.
-- `left`, `given`, `asked`, `faults` are the source's, `held` and `write_faults` the sink's.
pub record TakesInput {S K M : Type 0} (m : Machine M) (left : S → Option (List ℕ)) (given asked faults : S → ℕ) (held : K → Option (List ℕ)) (write_faults : K → ℕ)
    (old new : Script M) (source source_now : S) (sink sink_now : K) (result : Result Input Stop) : Type 0 where
  pub takes : GaveSome left given source source_now (λ read. (s : m.State) → m.stands old.machine s
      → TakesFrom m line_limit s old new (held sink) (held sink_now) read (asked source_now - given source) (went result))
  pub ready : IfGoesOn (m.usable new.machine) (went result)
  pub lines : new.lines ≤ input_limit
  pub bound : given source_now ≤ given source + input_limit
  pub written : OnOk result ((new.pending ≡ []) × (length new.unended ≤ line_limit))
  pub ended : result ≡ Ok Ended → IfSome (left source_now) (λ rest. rest ≡ [])
  pub read : ReadCountedWhere (result ≡ Ok Fault) input_limit (faults source) (faults source_now) (given source) (given source_now)
  pub write : CountedWhere (result ≡ Err WriteFault) (write_faults sink) (write_faults sink_now)
  pub disk : DisksCountedWhere (result ≡ Err (Halted DiskFault)) (m.faults old.machine) (m.faults new.machine)
  pub damaged : (place : Place) → result ≡ Err (Halted (Damaged place)) → m.damages

-- the same through a source that is read up to its limit
abbrev pub TakesBounded : {S K M : Type 0} (m : Machine M) → (S → Option (List ℕ)) → (S → ℕ) → (S → ℕ) → (S → ℕ) → (K → Option (List ℕ)) → (K → ℕ)
    → Script M → Script M → Bounded S → Bounded S → K → K → Result Input Stop → Type 0
TakesBounded m left given asked faults held write_faults old new bounded bounded_now sink sink_now result =
    TakesInput m left given asked faults held write_faults old new bounded.inner.now bounded_now.inner.now sink sink_now result

-- What running a new script leaves, at its end.
pub record RunsScript {S K M : Type 0} (m : Machine M) (left : S → Option (List ℕ)) (given asked faults : S → ℕ) (held : K → Option (List ℕ)) (write_faults : K → ℕ)
    (old new : M) (source source_now : S) (sink sink_now : K) (how : End) : Type 0 where
  pub ran : RunsInput m left given asked held old new source source_now sink sink_now how
  pub bound : given source_now ≤ given source + input_limit
  pub whole : how ≡ end.Done → IfSome (left source_now) (λ rest. rest ≡ [])
  pub usable : how ≡ end.Done → m.usable new
  pub read : ReadCountedWhere (how ≡ end.ReadFault) input_limit (faults source) (faults source_now) (given source) (given source_now)
  pub write : CountedWhere (how ≡ end.WriteFault) (write_faults sink) (write_faults sink_now)
  pub disk : DisksCountedWhere (how ≡ end.Halted DiskFault) (m.faults old) (m.faults new)
  pub damaged : (place : Place) → how ≡ end.Halted (Damaged place) → m.damages

-- a script has run to this end
abbrev pub HasRunScript : {S K M : Type 0} (m : Machine M) → (S → Option (List ℕ)) → (S → ℕ) → (S → ℕ) → (S → ℕ) → (K → Option (List ℕ)) → (K → ℕ)
    → Script M → Script M → S → S → K → K → End → Type 0
HasRunScript m left given asked faults held write_faults old new source source_now sink sink_now how =
    RunsScript m left given asked faults held write_faults old.machine new.machine source source_now sink sink_now how
