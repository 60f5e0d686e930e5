use Rattle.std.proofs.Common.{◌≡◌, ℕ, [], refl, sym, ap, subst, ◌∙◌}
use Rattle.std.specs.Prelude.{Err, IfErr, IfSome, Some}
use Rattle.outside_traits.specs.DiskPairs.{Pair, pair_of}
use Rattle.checkpoint.specs.declared.base.Base.TheVariants.{Paged}
use Rattle.script_runs.specs.Counts.{Counts, DisksCountedWhere}
use Rattle.command_words.specs.Commands.{workers}
use Rattle.xtc.specs.Checkpoints.{may_lose}
use Rattle.xtc.specs.StoreMachine.{faults_of, file_of, pages_of, told}
use Rattle.xtc.specs.TopCall.{WroteWhole}
use Rattle.xtc.specs.declared.checkpoints.Checkpoints.{Checkpoints}
use Rattle.xtc.specs.declared.status.Status.{Status}
use Rattle.xtc.specs.declared.status.Status.TheVariants.{DiskFault}
use Rattle.xtc.specs.Outside.{Input, Output, Disks}
use Rattle.xtc.specs.inside.CommandRuns.{RunsCommand, StandSettled}
use Rattle.xtc.specs.inside.Working.{InputWorked, IsWorkersFault, counts_beside, files_beside}
use Rattle.xtc.proofs.CommandRunLaws.{by_count, document_runs, ends_by, put_within}
use Rattle.xtc.proofs.WorkersLaws.{faults_lose, faults_quiet, whole_at_end, workers_ran}
use Rattle.xtc.proofs.workers.run_workers.Goals as goal

pub work_input-text-requires-clause-begun : goal.work_input-text-requires-clause-begun
work_input-text-requires-clause-begun g c = λ κs within. record {
  paged = refl;
  synced = c.requires.synced;
  takes = c.requires.next;
  inside = ap (λ (k : Checkpoints g.row.P.Denot). k.pages) c.new-checkpoints.ensures;
  opened = ap (λ (k : Checkpoints g.row.P.Denot). k.opened) c.new-checkpoints.ensures;
}

pub work_input-text-requires-clause-tree : goal.work_input-text-requires-clause-tree
work_input-text-requires-clause-tree g c = λ κs within. c.requires.tree

pub written-requires : goal.written-requires
written-requires g c = faults_quiet (may_lose (Some workers) c.new-checkpoints.result.every g.P.Disk.is_known) c.work_input-text.result.text c.work_input-text.ensures.fault

pub disk_beside-requires : goal.disk_beside-requires
disk_beside-requires g c = record { pages = c.work_input-text.ensures.pages }

pub returns : goal.returns
returns g c =
    let run = c.work_input-text in
    let done = run.ensures.done in
    let store = c.args.store in
    let every = c.args.every in
    let begin = c.new-checkpoints in
    let known = g.P.Disk.is_known in
    let history = g.P.Disk.history in
    let faults = g.P.Disk.faults in
    let map = told known history store.base in
    let text = run.result.text in
    let status = c.written.result in
    let fin = c.with_files.result in
    let out = c.with_files.ensures in
    let input : Input = record { left = g.S.Source.left c.args.source.now; given = g.S.Source.given c.args.source.now; asked = g.S.Source.asked c.args.source.now; faults = g.S.Source.faults c.args.source.now } in
    let input_now : Input = record { left = g.S.Source.left run.new.source; given = g.S.Source.given run.new.source; asked = g.S.Source.asked run.new.source; faults = g.S.Source.faults run.new.source } in
    let output : Output = record { held = g.K.Sink.held c.args.sink.now; faults = g.K.Sink.faults c.args.sink.now } in
    let output_now : Output = record { held = g.K.Sink.held c.written.new.sink; faults = g.K.Sink.faults c.written.new.sink } in
    let before : Disks = record { files = pair_of store.journal.history (pages_of history store.base); faults = record { journal = store.journal.faults; pages = faults store.base.base.disk } } in
    let left : Disks = record { files = pair_of (g.J.Disk.history fin.journal) (history fin.pages); faults = record { journal = g.J.Disk.faults fin.journal; pages = faults fin.pages } } in
    let pages_are : history fin.pages ≡ file_of history run.result.base run.result.checkpoints.pages = ap history out.pages ∙ c.disk_beside.ensures.history in
    let faults_are : faults fin.pages ≡ faults_of faults run.result.base run.result.checkpoints.pages = ap faults out.pages ∙ c.disk_beside.ensures.faults in
    let begin_is : files_beside history store.journal (Paged store.base) begin.result ≡ before.files = λ i. files_beside history store.journal (Paged store.base) (begin.ensures i) in
    let left_is : files_beside history run.result.journal run.result.base run.result.checkpoints ≡ left.files = λ i. pair_of (sym out.journal.0 i) (sym pages_are i) in
    let fault : IfErr text (IsWorkersFault (may_lose (Some workers) every known)) = subst (λ (k : Checkpoints g.row.P.Denot). IfErr text (IsWorkersFault (may_lose (Some workers) k.every known))) begin.ensures run.ensures.fault in
    let lost = may_lose (Some workers) every known in
    subst (λ (s : Status). RunsCommand g.J.Disk.is_known known map store.number workers every s input input_now output output_now before left) (sym out.status)
    (document_runs g.J.Disk.is_known known map store.number workers every text status input input_now output output_now before left
    (ends_by text status (output_now.held ≡ output.held) (λ t. WroteWhole status output.held output_now.held t.items) (faults_quiet lost text fault) c.written.ensures.text c.written.ensures.none)
    (faults_lose lost text fault) (
      done.0,
      done.1,
      done.2,
      λ kj kp t is files old.
          let did : InputWorked t store.number every done.0 (IfSome input_now.left (λ rest. rest ≡ [])) before.files left.files (λ t. t.items) text =
          subst (λ (x : ℕ × Pair × Pair). InputWorked t store.number x.0 done.0 (IfSome input_now.left (λ rest. rest ≡ [])) x.1 x.2 (λ t. t.items) text) (λ i. ((begin.ensures i).every, begin_is i, left_is i))
          (done.4 kj kp t is (subst (λ (p : Pair). StandSettled p t store.number) (sym begin_is) files)) in
          workers_ran t store.number every is.valid before.files files _ (out.images.0 kj) (out.images.1 kp) done.3 (λ t. t.items) text status did run.ensures.whole c.written.ensures.text c.written.ensures.none,
    )
    (λ reads. whole_at_end text _ run.ensures.whole)
    (put_within input.given input_now.given done.0 done.2 done.3)
    (by_count _ _ _ _ _ run.ensures.read)
    c.written.ensures.write
    (subst (λ (x : Counts × Counts). DisksCountedWhere (text ≡ Err DiskFault) x.0 x.1) (λ i. (counts_beside faults store.journal (Paged store.base) (begin.ensures i), record { journal = sym out.journal.1 i; pages = sym faults_are i })) run.ensures.counts))
