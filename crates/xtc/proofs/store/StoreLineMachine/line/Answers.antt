use Rattle.std.proofs.Common.{◌≡◌, OnOk, Option, None, Err, ap, sym, subst, ◌∙◌, refl}
use Rattle.outside_traits.specs.DiskPairs.{PairsLeave}
use Rattle.script_runs.specs.Counts.{DisksCountedWhere}
use Rattle.script_runs.specs.Machine.{HasDoneLine, HoldsEither, IsSettled, StaysSettled}
use Rattle.xtc.specs.Book.{done_by, IsValidLine}
use Rattle.xtc.specs.ReadLines.{line_in}
use Rattle.xtc.specs.ScriptLine.{Line, line_of}
use Rattle.xtc.specs.StoreMachine.{Booked, HasRested, IsBooked, KeptStore, MakesAs, faults_of, store_machine, with_done}
use Rattle.durable_sessions.specs.declared.halt.Halt.TheVariants as halt
use Rattle.xtc.proofs.LineLaws.{line_fixed, line_moments, line_ready, line_settled, line_stands}
use Rattle.xtc.proofs.StoreMachineLaws.{counted_out}
use Rattle.xtc.proofs.store.StoreLineMachine.line.Goals as goal
use Rattle.xtc.proofs.store.StoreLineMachine.line.Goals.{in-Ok-do_line, in-Err-DiskFault, in-Err-NoMemory}

pub do_line-requires : goal.do_line-requires
do_line-requires g c =
    let may = (subst (λ (k : KeptStore g.row.P.Denot). HasRested g.P.Disk.is_known g.P.Disk.history k × MakesAs g.C.MakesCheckpoints.makes k) (sym c.self.view_is) c.requires.ready).0.answered.may in
    record { takes = record { usable = may.usable; next = may.next } }

pub returns-clause-done : goal.returns-clause-done
returns-clause-done g c =
    let P : Type 0 = g.row.P.Denot in
    let known = g.P.Disk.is_known in
    let history = g.P.Disk.history in
    let machine = store_machine g.J.Disk.is_known known g.C.MakesCheckpoints.makes history g.P.Disk.faults in
    let old : KeptStore P = record { core = c.self.inside.core; journal = c.self.inside.journal; checkpoints = c.self.inside.checkpoints } in
    let new : KeptStore P = record { core = c.do_line.new.core; journal = c.do_line.new.journal; checkpoints = c.self.inside.checkpoints } in
    let After : Type 0 = HasDoneLine machine c.args.self.now new c.args.line.now in
    elim c.match-do_line.branch [
      | in-Ok-do_line w ↦
          let state : (b : Booked P) → IsBooked known history c.args.self.now b → IsBooked known history new (with_done b (done_by b.state 0 (line_of c.args.line.now))) = λ b stands.
          let here = (subst (λ (k : KeptStore P). IsBooked known history k b) (sym c.self.view_is) stands).stands in
          subst (λ (l : Line). IsBooked known history new (with_done b (done_by b.state 0 l))) c.in-Ok.ensures.line
          (line_stands g.J.Disk.is_known known g.C.MakesCheckpoints.makes history g.P.Disk.faults c.args.self.now old new c.self.view_is c.do_line.ensures.base refl b stands (done_by b.state 0 (line_in c.in-Ok.line))
          w.in-Ok-do_line.ensures.grown (w.in-Ok-do_line.ensures.state b.state here).stands (w.in-Ok-do_line.ensures.book b.state here)) in
          let settled : StaysSettled machine c.args.self.now new c.args.line.now = λ b stands settled.
          let here = (subst (λ (k : KeptStore P). IsBooked known history k b) (sym c.self.view_is) stands).stands in
          subst (λ (l : Line). IsSettled machine new (with_done b (done_by b.state 0 l))) c.in-Ok.ensures.line
          (line_settled g.J.Disk.is_known known g.C.MakesCheckpoints.makes history g.P.Disk.faults c.args.self.now old new c.self.view_is c.do_line.ensures.base refl b stands (done_by b.state 0 (line_in c.in-Ok.line)) settled
          (w.in-Ok-do_line.ensures.state b.state here)) in
          let after : After = record {
            ready = line_ready g.J.Disk.is_known known g.C.MakesCheckpoints.makes history g.P.Disk.faults c.args.self.now old new c.self.view_is c.do_line.ensures.base refl c.requires.ready
                w.in-Ok-do_line.ensures.grown w.in-Ok-do_line.ensures.takes w.is_legal.ensures.book;
            state = state;
            settled = settled;
          } in
          subst (λ r. OnOk r After) (sym w.result-is) after
      | in-Err-DiskFault w ↦ subst (λ r. OnOk r After) (sym w.result-is) tt
      | in-Err-NoMemory w ↦ subst (λ r. OnOk r After) (sym w.result-is) tt
    ]

pub returns-clause-any_moment : goal.returns-clause-any_moment
returns-clause-any_moment g c = λ b stands settled.
    let P : Type 0 = g.row.P.Denot in
    let known = g.P.Disk.is_known in
    let history = g.P.Disk.history in
    let machine = store_machine g.J.Disk.is_known known g.C.MakesCheckpoints.makes history g.P.Disk.faults in
    let old : KeptStore P = record { core = c.self.inside.core; journal = c.self.inside.journal; checkpoints = c.self.inside.checkpoints } in
    let new : KeptStore P = record { core = c.do_line.new.core; journal = c.do_line.new.journal; checkpoints = c.self.inside.checkpoints } in
    let here = (subst (λ (k : KeptStore P). IsBooked known history k b) (sym c.self.view_is) stands).stands in
    subst (λ (l : Line). PairsLeave (HoldsEither machine b (with_done b (done_by b.state 0 l))) (machine.disks c.args.self.now) (machine.disks new)) c.in-Ok.ensures.line
    (line_moments g.J.Disk.is_known known g.C.MakesCheckpoints.makes history g.P.Disk.faults c.args.self.now old new c.self.view_is c.do_line.ensures.base refl b stands (done_by b.state 0 (line_in c.in-Ok.line)) settled
    (c.do_line.ensures.any_moment b.state here))

pub returns-clause-fixed : goal.returns-clause-fixed
returns-clause-fixed g c =
    let P : Type 0 = g.row.P.Denot in
    let old : KeptStore P = record { core = c.self.inside.core; journal = c.self.inside.journal; checkpoints = c.self.inside.checkpoints } in
    let new : KeptStore P = record { core = c.do_line.new.core; journal = c.do_line.new.journal; checkpoints = c.self.inside.checkpoints } in
    line_fixed g.J.Disk.is_known g.P.Disk.is_known g.C.MakesCheckpoints.makes g.P.Disk.history g.P.Disk.faults c.args.self.now old new c.self.view_is c.do_line.ensures.base refl

pub returns-clause-cause : goal.returns-clause-cause
returns-clause-cause g c =
    let P : Type 0 = g.row.P.Denot in
    let machine = store_machine g.J.Disk.is_known g.P.Disk.is_known g.C.MakesCheckpoints.makes g.P.Disk.history g.P.Disk.faults in
    let new : KeptStore P = record { core = c.do_line.new.core; journal = c.do_line.new.journal; checkpoints = c.self.inside.checkpoints } in
    let none : c.self.inside.checkpoints.pages ≡ None = ap (λ (k : KeptStore P). k.checkpoints.pages) c.self.view_is ∙ c.requires.ready.0.answered.inside in
    let told : DisksCountedWhere (c.do_line.result ≡ Err halt.DiskFault) (machine.faults (record { core = c.self.inside.core; journal = c.self.inside.journal; checkpoints = c.self.inside.checkpoints })) (machine.faults new) =
    subst (λ (o : Option P). DisksCountedWhere (c.do_line.result ≡ Err halt.DiskFault)
    (record { journal = c.self.inside.journal.faults; pages = faults_of g.P.Disk.faults c.self.inside.core.base o }) (record { journal = c.do_line.new.journal.faults; pages = faults_of g.P.Disk.faults c.do_line.new.core.base o })) (sym none) c.do_line.ensures.counts in
    let counts = subst (λ (k : KeptStore P). DisksCountedWhere (c.do_line.result ≡ Err halt.DiskFault) (machine.faults k) (machine.faults new)) c.self.view_is told in
    elim c.match-do_line.branch [
      | in-Ok-do_line w ↦ counted_out _ _ counts (λ is. absurd (cc (is, w.result-is))) (λ never is. cc (is, w.in-Ok-do_line.is))
      | in-Err-DiskFault w ↦ counted_out _ _ counts (λ is. w.in-Err-DiskFault.is ∙ ap Err w.in-Err-DiskFault.field-0-is) (λ never is. never w.result-is)
      | in-Err-NoMemory w ↦ counted_out _ _ counts (λ is. absurd (cc (is, w.result-is))) (λ never is. cc (is, w.in-Err-NoMemory.is, w.in-Err-NoMemory.field-0-is))
    ]

pub returns-clause-damaged : goal.returns-clause-damaged
returns-clause-damaged g c = λ place it.
    elim c.match-do_line.branch [
      | in-Ok-do_line w ↦ absurd (cc (it, w.result-is))
      | in-Err-DiskFault w ↦ absurd (cc (it, w.result-is))
      | in-Err-NoMemory w ↦ absurd (cc (it, w.result-is))
    ]

pub returns-clause-valid : goal.returns-clause-valid
returns-clause-valid g c =
    let valid : IsValidLine (line_of c.args.line.now) = subst IsValidLine c.in-Ok.ensures.line c.in-Ok.ensures.valid in
    elim c.match-do_line.branch [
      | in-Ok-do_line w ↦ subst (λ r. OnOk r (IsValidLine (line_of c.args.line.now))) (sym w.result-is) valid
      | in-Err-DiskFault w ↦ subst (λ r. OnOk r (IsValidLine (line_of c.args.line.now))) (sym w.result-is) tt
      | in-Err-NoMemory w ↦ subst (λ r. OnOk r (IsValidLine (line_of c.args.line.now))) (sym w.result-is) tt
    ]
