-- What running a script leaves at each of its ends, and which counts of faults rise there.
use Rattle.std.proofs.Common.{◌≡◌, ◌≤◌, ℕ, ◌+◌, ◌-◌, List, [], length, refl, sym, ap, subst}
use Rattle.std.specs.Prelude.{Option, Result, Ok, Err, IfSome}
use Rattle.outside_kinds.specs.Bounds.{input_limit}
use Rattle.outside_traits.specs.Bytes.{Gave}
use Rattle.outside_traits.specs.Faults.{FaultCounted}
use Rattle.node_records.specs.declared.open_error.Place.{Place}
use Rattle.script_runs.specs.Counts.{CountedWhere, DisksCountedWhere, ReadFaultCause}
use Rattle.script_runs.specs.Lines.{line_limit}
use Rattle.script_runs.specs.Machine.{Machine}
use Rattle.script_runs.specs.Runs.{Ran}
use Rattle.script_runs.specs.inside.Feeding.{stopped}
use Rattle.script_runs.specs.inside.Inputs.{RunsScript}
use Rattle.script_runs.specs.declared.feeding.Stop.{Stop}
use Rattle.script_runs.specs.declared.feeding.Stop.TheVariants as stop
use Rattle.script_runs.specs.declared.halt.Halt.TheVariants.{DiskFault, Damaged}
use Rattle.script_runs.specs.declared.running.End.{End}
use Rattle.script_runs.specs.declared.running.End.TheVariants as end
use Rattle.script_runs.specs.declared.running.Input.{Input}
use Rattle.script_runs.proofs.AnswerLaws.{as_stop}

-- a stop, as an input's answer
abbrev pub as_input : Stop → Result Input Stop
as_input e = Err e

-- an input, as its answer
abbrev pub as_end : Input → Result Input Stop
as_end i = Ok i

pub end_is_no_stop : (i : Input) (e : Stop) → as_end i ≡ as_input e → ⊥
end_is_no_stop i e it = cc

error_of : {e f : Stop} → as_stop e ≡ as_stop f → e ≡ f
error_of it = cc

stop_is_not_done : (e : Stop) → stopped e ≡ end.Done → ⊥
stop_is_not_done stop.LineTooLong it = cc
stop_is_not_done stop.WriteFault it = cc
stop_is_not_done (stop.Halted halt) it = cc

stop_is_no_failed_read : (e : Stop) → stopped e ≡ end.ReadFault → ⊥
stop_is_no_failed_read stop.LineTooLong it = cc
stop_is_no_failed_read stop.WriteFault it = cc
stop_is_no_failed_read (stop.Halted halt) it = cc

stop_of_failed_write : (e : Stop) → stopped e ≡ end.WriteFault → e ≡ stop.WriteFault
stop_of_failed_write stop.LineTooLong it = absurd cc
stop_of_failed_write stop.WriteFault it = refl
stop_of_failed_write (stop.Halted halt) it = absurd cc

stop_of_failed_disk : (e : Stop) → stopped e ≡ end.Halted DiskFault → e ≡ stop.Halted DiskFault
stop_of_failed_disk stop.LineTooLong it = absurd cc
stop_of_failed_disk stop.WriteFault it = absurd cc
stop_of_failed_disk (stop.Halted halt) it = cc

stop_of_damage : (e : Stop) (place : Place) → stopped e ≡ end.Halted (Damaged place) → e ≡ stop.Halted (Damaged place)
stop_of_damage stop.LineTooLong place it = absurd cc
stop_of_damage stop.WriteFault place it = absurd cc
stop_of_damage (stop.Halted halt) place it = cc

module _ {S K M : Type 0} (m : Machine M) (left : S → Option (List ℕ)) (given asked faults : S → ℕ) (held : K → Option (List ℕ)) (write_faults : K → ℕ) (old new : M) (source source_now : S) (sink sink_now : K) where
  -- bytes were read, and what running them as a script leaves
  abbrev Runs : End → Type 0
  Runs how = (read : List ℕ) × Gave (left source) (left source_now) read × (given source_now ≡ given source + length read)
      × ((s : m.State) → m.stands old s → Ran m line_limit s how read (asked source_now - given source) (left source_now) (held sink) (held sink_now) old new)

  abbrev Leaves : End → Type 0
  Leaves how = RunsScript m left given asked faults held write_faults old new source source_now sink sink_now how

  pub run_ended : Runs end.Done → given source_now ≤ given source + input_limit → IfSome (left source_now) (λ rest. rest ≡ []) → faults source_now ≡ faults source → write_faults sink_now ≡ write_faults sink → m.faults new ≡ m.faults old → m.usable new → Leaves end.Done
  run_ended ran bound all none written kept usable = record {
    ran = ran;
    bound = bound;
    whole = λ is. all;
    usable = λ is. usable;
    read = record { cause = λ no. absurd cc; exact = λ other. none };
    write = record { counted = λ no. absurd cc; exact = λ other. written };
    disk = record { counted = λ no. absurd cc; exact = λ other. kept };
    damaged = λ place no. absurd cc;
  }

  -- a read failed
  pub run_failed : Runs end.ReadFault → given source_now ≤ given source + input_limit → ReadFaultCause input_limit (faults source) (faults source_now) (given source) (given source_now) → write_faults sink_now ≡ write_faults sink → m.faults new ≡ m.faults old → Leaves end.ReadFault
  run_failed ran bound cause written kept = record {
    ran = ran;
    bound = bound;
    whole = λ no. absurd cc;
    usable = λ no. absurd cc;
    read = record { cause = λ is. cause; exact = λ other. absurd (other refl) };
    write = record { counted = λ no. absurd cc; exact = λ other. written };
    disk = record { counted = λ no. absurd cc; exact = λ other. kept };
    damaged = λ place no. absurd cc;
  }

  -- a step stopped for good
  pub run_halted : (how : End) (e : Stop) → how ≡ stopped e → Runs (stopped e) → given source_now ≤ given source + input_limit → faults source_now ≡ faults source → CountedWhere (as_stop e ≡ Err stop.WriteFault) (write_faults sink) (write_faults sink_now)
      → DisksCountedWhere (as_stop e ≡ Err (stop.Halted DiskFault)) (m.faults old) (m.faults new) → ((place : Place) → as_stop e ≡ Err (stop.Halted (Damaged place)) → m.damages) → Leaves how
  run_halted how e is ran bound none write disk damaged = subst Leaves (sym is) (record {
    ran = ran;
    bound = bound;
    whole = λ it. absurd (stop_is_not_done e it);
    usable = λ it. absurd (stop_is_not_done e it);
    read = record { cause = λ it. absurd (stop_is_no_failed_read e it); exact = λ other. none };
    write = record { counted = λ it. write.counted (ap as_stop (stop_of_failed_write e it)); exact = λ other. write.exact (λ it. other (ap stopped (error_of it))) };
    disk = record { counted = λ it. disk.counted (ap as_stop (stop_of_failed_disk e it)); exact = λ other. disk.exact (λ it. other (ap stopped (error_of it))) };
    damaged = λ place it. damaged place (ap as_stop (stop_of_damage e place it));
  })

  -- a line was too long, and what was pending is written
  pub run_long : (line : ℕ) → Runs (end.LineTooLong line) → given source_now ≤ given source + input_limit → faults source_now ≡ faults source → write_faults sink_now ≡ write_faults sink → m.faults new ≡ m.faults old → Leaves (end.LineTooLong line)
  run_long line ran bound none written kept = record {
    ran = ran;
    bound = bound;
    whole = λ no. absurd cc;
    usable = λ no. absurd cc;
    read = record { cause = λ no. absurd cc; exact = λ other. none };
    write = record { counted = λ no. absurd cc; exact = λ other. written };
    disk = record { counted = λ no. absurd cc; exact = λ other. kept };
    damaged = λ place no. absurd cc;
  }

  -- or it isn't, since a write failed
  pub run_unwritten : Runs end.WriteFault → given source_now ≤ given source + input_limit → faults source_now ≡ faults source → FaultCounted (write_faults sink) (write_faults sink_now) → m.faults new ≡ m.faults old → Leaves end.WriteFault
  run_unwritten ran bound none failed kept = record {
    ran = ran;
    bound = bound;
    whole = λ no. absurd cc;
    usable = λ no. absurd cc;
    read = record { cause = λ no. absurd cc; exact = λ other. none };
    write = record { counted = λ is. failed; exact = λ other. absurd (other refl) };
    disk = record { counted = λ no. absurd cc; exact = λ other. kept };
    damaged = λ place no. absurd cc;
  }
