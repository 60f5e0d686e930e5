-- How a step follows an input that was taken so far, for any machine: what was written before the last read was asked for stays written.
use Rattle.std.proofs.Common.{◌≡◌, ℕ, ◌+◌, ◌-◌, ◌≤◌, List, [], ◌++◌, length, take, refl, sym, ap, ◌∙◌, subst, arith, append-nil}
use Rattle.std.specs.Prelude.{Option, Result, Ok, Err, IfSome, IsErrAnd}
use Rattle.std.proofs.Math.Seq.{take-append_seam}
use Rattle.outside_kinds.specs.Bounds.{input_limit}
use Rattle.outside_traits.specs.Bytes.{Gave}
use Rattle.node_records.specs.declared.open_error.Place.{Place}
use Rattle.script_runs.specs.Counts.{CountedWhere, DisksCountedWhere, ReadFaultCause}
use Rattle.script_runs.specs.Lines.{line_limit}
use Rattle.script_runs.specs.Machine.{Machine}
use Rattle.script_runs.specs.Runs.{IsPrompt}
use Rattle.script_runs.specs.inside.Feeding.{Script, IsNew, IfGoesOn, LeavesFrom, Leaves, TakesFrom, went}
use Rattle.script_runs.specs.inside.Inputs.{TakesInput}
use Rattle.script_runs.specs.declared.feeding.Stop.{Stop}
use Rattle.script_runs.specs.declared.feeding.Stop.TheVariants.{WriteFault, Halted}
use Rattle.script_runs.specs.declared.halt.Halt.TheVariants.{DiskFault, Damaged}
use Rattle.script_runs.specs.declared.running.Input.{Input}
use Rattle.script_runs.specs.declared.running.Input.TheVariants.{Ended, Fault}
use Rattle.script_runs.proofs.LogLaws.{leaves_none, leaves_on, flushed_on}
use Rattle.script_runs.proofs.AnswerLaws.{as_stop, stopped_at}
use Rattle.script_runs.proofs.RunLaws.{prompt_later, prompt_nothing, prompt_here, prompt_before}

-- where a read was asked for behind these bytes
asked_behind : (read piece : List ℕ) (given before asked : ℕ) → given ≡ before + length read → asked ≡ given → take (asked - before) (read ++ piece) ≡ read
asked_behind read piece given before asked gave is =
    let count : asked - before ≡ length read = omega (arith, gave, is) in
    ap (λ (n : ℕ). take n (read ++ piece)) count ∙ take-append_seam read piece

module _ {M : Type 0} (m : Machine M) (limit : ℕ) where
  -- before the first read
  pub takes_none : (s : m.State) (k : Script M) (held : Option (List ℕ)) (asked : ℕ) → m.stands k.machine s → TakesFrom m limit s k k held held [] asked (Ok tt)
  takes_none s k held asked stands = record { leaves = leaves_none m limit s k held stands; prompt = prompt_nothing m limit s asked held }

  -- a flush followed or stopped
  pub takes_flushed : (s : m.State) (a b c : Script M) (h i j : Option (List ℕ)) (read : List ℕ) (asked : ℕ) (r : Result (Unit {0}) Stop) → TakesFrom m limit s a b h i read asked (Ok tt) → Leaves m limit b c i j [] r → TakesFrom m limit s a c h j read asked r
  takes_flushed s a b c h i j read asked r p q =
      let fed = p.leaves.comes in
      record {
        leaves = flushed_on m limit s a b c h i j read r p.leaves q;
        prompt = prompt_later m limit s (take asked read) h i j _ p.prompt (q fed.0 fed.1).does.wrote;
      }

  -- the read behind it failed
  pub takes_fault : (s : m.State) (a b : Script M) → IsNew a → (h i : Option (List ℕ)) (read : List ℕ) (asked : ℕ) → LeavesFrom m limit s a b h i read (Ok tt) → b.pending ≡ [] → length b.unended ≤ limit → TakesFrom m limit s a b h i read asked (Ok tt)
  takes_fault s a b new h i read asked p written short = record { leaves = p; prompt = prompt_before m limit s asked read h i (prompt_here m limit s a new h read b i p written short) }

  module _ (s : m.State) (a : Script M) (new : IsNew a) (b : Script M) (h i : Option (List ℕ)) (read : List ℕ) (p : LeavesFrom m limit s a b h i read (Ok tt)) (written : b.pending ≡ []) (short : length b.unended ≤ limit) (given before asked : ℕ) (gave : given ≡ before + length read) (is : asked ≡ given) where
    -- the input ended
    pub takes_end : TakesFrom m limit s a b h i read (asked - before) (Ok tt)
    takes_end = record {
      leaves = p;
      prompt = subst (λ (x : List ℕ). IsPrompt m limit s x h i) (sym (ap (take (asked - before)) (sym (append-nil read)) ∙ asked_behind read [] given before asked gave is)) (prompt_here m limit s a new h read b i p written short);
    }

    -- a piece was read behind what is written, and a step took it or stopped
    pub takes_piece : (c : Script M) (j : Option (List ℕ)) (piece : List ℕ) (r : Result (Unit {0}) Stop) → Leaves m limit b c i j piece r → TakesFrom m limit s a c h j (read ++ piece) (asked - before) r
    takes_piece c j piece r q =
        let fed = p.comes in
        record {
          leaves = leaves_on m limit s a b c h i j read piece r p q;
          prompt = subst (λ (x : List ℕ). IsPrompt m limit s x h j) (sym (asked_behind read piece given before asked gave is))
              (prompt_later m limit s read h i j _ (prompt_here m limit s a new h read b i p written short) (q fed.0 fed.1).does.wrote);
        }

-- a write that failed lets nothing go on
pub stops_unwritten : (P : Type 0) (e : Stop) → as_stop e ≡ Err WriteFault → IfGoesOn P (Err e)
stops_unwritten P e is = subst (IfGoesOn P) (sym is) tt

-- a count that has not changed before
pub counted_from : (P : Type 0) (before then now : ℕ) → then ≡ before → CountedWhere P then now → CountedWhere P before now
counted_from P before then now same c = subst (λ (n : ℕ). CountedWhere P n now) same c

-- a step's answer as an input's
abbrev pub came : Result (Unit {0}) Stop → Result Input Stop
came (Ok done) = Ok Ended
came (Err stop) = Err stop

module _ {S K M : Type 0} (m : Machine M) (left : S → Option (List ℕ)) (given asked faults : S → ℕ) (held : K → Option (List ℕ)) (write_faults : K → ℕ) (old new : Script M) (source source_now : S) (sink sink_now : K) where
  -- bytes were read, and what taking them leaves
  abbrev Takes : Result (Unit {0}) Stop → Type 0
  Takes r = (read : List ℕ) × Gave (left source) (left source_now) read × (given source_now ≡ given source + length read)
      × ((s : m.State) → m.stands old.machine s → TakesFrom m line_limit s old new (held sink) (held sink_now) read (asked source_now - given source) r)

  abbrev Taken : Result Input Stop → Type 0
  Taken r = TakesInput m left given asked faults held write_faults old new source source_now sink sink_now r

  -- a step stopped
  pub input_stopped : (r : Result Input Stop) (e : Stop) → IsErrAnd r (λ x. x ≡ e) → Takes (Err e) → IfGoesOn (m.usable new.machine) (Err e) → new.lines ≤ input_limit → given source_now ≤ given source + input_limit → faults source_now ≡ faults source
      → CountedWhere (as_stop e ≡ Err WriteFault) (write_faults sink) (write_faults sink_now) → DisksCountedWhere (as_stop e ≡ Err (Halted DiskFault)) (m.faults old.machine) (m.faults new.machine)
      → ((place : Place) → as_stop e ≡ Err (Halted (Damaged place)) → m.damages) → Taken r
  input_stopped r e is takes ready lines bound none write disk damaged = subst Taken (sym (stopped_at r e is)) (record {
    takes = takes;
    ready = ready;
    lines = lines;
    bound = bound;
    written = tt;
    ended = λ no. absurd cc;
    read = record { cause = λ no. absurd cc; exact = λ other. none };
    write = record { counted = λ it. write.counted (ap went it); exact = λ other. write.exact (λ it. other (ap came it)) };
    disk = record { counted = λ it. disk.counted (ap went it); exact = λ other. disk.exact (λ it. other (ap came it)) };
    damaged = λ place it. damaged place (ap went it);
  })

  -- the input came to its end
  pub input_ended : Takes (Ok tt) → m.usable new.machine → new.lines ≤ input_limit → given source_now ≤ given source + input_limit → new.pending ≡ [] → length new.unended ≤ line_limit → IfSome (left source_now) (λ rest. rest ≡ []) → faults source_now ≡ faults source
      → write_faults sink_now ≡ write_faults sink → m.faults new.machine ≡ m.faults old.machine → Taken (Ok Ended)
  input_ended takes ready lines bound empty short all none written kept = record {
    takes = takes;
    ready = ready;
    lines = lines;
    bound = bound;
    written = (empty, short);
    ended = λ is. all;
    read = record { cause = λ no. absurd cc; exact = λ other. none };
    write = record { counted = λ no. absurd cc; exact = λ other. written };
    disk = record { counted = λ no. absurd cc; exact = λ other. kept };
    damaged = λ place no. absurd cc;
  }

  -- a read failed
  pub input_failed : Takes (Ok tt) → m.usable new.machine → new.lines ≤ input_limit → given source_now ≤ given source + input_limit → new.pending ≡ [] → length new.unended ≤ line_limit → ReadFaultCause input_limit (faults source) (faults source_now) (given source) (given source_now)
      → write_faults sink_now ≡ write_faults sink → m.faults new.machine ≡ m.faults old.machine → Taken (Ok Fault)
  input_failed takes ready lines bound empty short cause written kept = record {
    takes = takes;
    ready = ready;
    lines = lines;
    bound = bound;
    written = (empty, short);
    ended = λ no. absurd cc;
    read = record { cause = λ is. cause; exact = λ other. absurd (other refl) };
    write = record { counted = λ no. absurd cc; exact = λ other. written };
    disk = record { counted = λ no. absurd cc; exact = λ other. kept };
    damaged = λ place no. absurd cc;
  }
