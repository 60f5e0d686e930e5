use Rattle.std.proofs.Common.{◌≡◌, IsTrue, refl, sym, ap, subst, ◌∙◌}
use Rattle.std.specs.Prelude.{Err}
use Rattle.outside_traits.specs.DiskPairs.{pair_of}
use Rattle.script_runs.specs.Counts.{Counts, DisksCountedWhere}
use Rattle.call_contract.specs.States.{start}
use Rattle.command_words.specs.Commands.{put}
use Rattle.xtc.specs.StoreMachine.{pages_of, told}
use Rattle.xtc.specs.TopCall.{IsWhole, WroteWhole, tx_limit}
use Rattle.xtc.specs.declared.status.Status.{Status}
use Rattle.xtc.specs.declared.status.Status.TheVariants.{DiskFault}
use Rattle.xtc.specs.Outside.{Input, Output, Disks}
use Rattle.xtc.specs.inside.CommandRuns.{RunsCommand}
use Rattle.xtc.proofs.CommandRunLaws.{by_count, document_runs, ends_by, ends_undamaged, not_lost, put_within, quiets, without_checkpoints}
use Rattle.xtc.proofs.DocumentLaws.{document_finished, document_written}
use Rattle.xtc.proofs.OpeningLaws.{opening_holds}
use Rattle.xtc.proofs.document.run_put.Goals as goal

pub returns : goal.returns
returns g c = λ every.
    let run = c.put_over-text in
    let done = run.ensures.done in
    let store = c.args.store in
    let known = g.J.Disk.is_known in
    let history = g.P.Disk.history in
    let map = told g.P.Disk.is_known history store.base in
    let command = put c.args.name.now in
    let text = run.result.text in
    let status = c.written.result in
    let mid = run.new.journal.history in
    let fin = c.with_disks.result in
    let out = c.with_disks.ensures in
    let input : Input = record { left = g.S.Source.left c.args.source.now; given = g.S.Source.given c.args.source.now; asked = g.S.Source.asked c.args.source.now; faults = g.S.Source.faults c.args.source.now } in
    let input_now : Input = record { left = g.S.Source.left run.new.source; given = g.S.Source.given run.new.source; asked = g.S.Source.asked run.new.source; faults = g.S.Source.faults run.new.source } in
    let output : Output = record { held = g.K.Sink.held c.args.sink.now; faults = g.K.Sink.faults c.args.sink.now } in
    let output_now : Output = record { held = g.K.Sink.held c.written.new.sink; faults = g.K.Sink.faults c.written.new.sink } in
    let before : Disks = record { files = pair_of store.journal.history (pages_of history store.base); faults = record { journal = store.journal.faults; pages = g.P.Disk.faults store.base.base.disk } } in
    let left : Disks = record { files = pair_of (g.J.Disk.history fin.journal) (history fin.pages); faults = record { journal = g.J.Disk.faults fin.journal; pages = g.P.Disk.faults fin.pages } } in
    let pages_is : IsTrue g.P.Disk.is_known → history fin.pages ≡ pages_of history store.base = λ kp. ap history out.pages ∙ run.ensures.base.0.0 kp in
    let ends = ends_by text status (output_now.held ≡ output.held) (λ t. WroteWhole status output.held output_now.held t.items) (quiets text run.ensures.unwritten) c.written.ensures.text c.written.ensures.none in
    subst (λ (s : Status). RunsCommand known g.P.Disk.is_known map store.number command every s input input_now output output_now before left) (sym out.status)
    (document_runs known g.P.Disk.is_known map store.number command every text status input input_now output output_now before left
    ends (λ place it. absurd (not_lost text run.ensures.unwritten place it)) (
      done.0,
      done.1,
      done.2,
      λ kj kp t is files old.
          let whole = IsWhole input_now.left done.0 in
          let wrote = document_written known (start t store.number tx_limit) command done.0 whole store.journal.history mid (λ t. t.items) output.held output_now.held text status (done.4 t is) run.ensures.unwritten
          c.written.ensures.text c.written.ensures.none in
          without_checkpoints t store.number tx_limit command every status before.files _ refl
          (document_finished t store.number tx_limit is.valid known command _ whole store.journal.history (pages_of history store.base) mid status kj
          (opening_holds t store.number tx_limit store.journal.history (pages_of history store.base) files) files.pages
          wrote out.journal.0 (pages_is kp) (out.images.0 kj) (out.images.1 kp) (λ no. cc) (λ reads w. w))
          (ends_undamaged command text status (output_now.held ≡ output.held) ends (not_lost text run.ensures.unwritten)) (pages_is kp),
    )
    (λ reads. run.ensures.whole)
    (put_within input.given input_now.given done.0 done.2 done.3)
    (by_count _ _ _ _ _ run.ensures.read)
    c.written.ensures.write
    (subst (λ (k : Counts). DisksCountedWhere (text ≡ Err DiskFault) before.faults k) (λ i. record { journal = sym out.journal.1 i; pages = g.P.Disk.faults (sym out.pages i) }) run.ensures.counts))
