use Rattle.std.proofs.Common.{◌≡◌, refl, sym, ap, subst, ◌∙◌}
use Rattle.std.specs.Prelude.{Err}
use Rattle.outside_traits.specs.DiskPairs.{pair_of}
use Rattle.script_runs.specs.Counts.{Counts, DisksCountedWhere}
use Rattle.command_words.specs.Commands.{query}
use Rattle.xtc.specs.StoreMachine.{pages_of, told}
use Rattle.xtc.specs.declared.status.Status.{Status}
use Rattle.xtc.specs.declared.status.Status.TheVariants.{DiskFault}
use Rattle.xtc.specs.Outside.{Output, Disks}
use Rattle.xtc.specs.inside.CommandRuns.{RunsCommand}
use Rattle.xtc.proofs.ShownLaws.{pages_counted, shown_runs}
use Rattle.xtc.proofs.showing.run_query.Goals as goal

pub returns : goal.returns
returns g c = λ input every.
    let run = c.query_document-text in
    let store = c.args.store in
    let history = g.P.Disk.history in
    let map = told g.P.Disk.is_known history store.base in
    let command = query c.args.name.now c.args.path.now in
    let text = run.result in
    let fin = c.with_disks.result in
    let out = c.with_disks.ensures in
    let output : Output = record { held = g.K.Sink.held c.args.sink.now; faults = g.K.Sink.faults c.args.sink.now } in
    let output_now : Output = record { held = g.K.Sink.held c.written.new.sink; faults = g.K.Sink.faults c.written.new.sink } in
    let before : Disks = record { files = pair_of store.journal.history (pages_of history store.base); faults = record { journal = store.journal.faults; pages = g.P.Disk.faults store.base.base.disk } } in
    let left : Disks = record { files = pair_of (g.J.Disk.history fin.journal) (history fin.pages); faults = record { journal = g.J.Disk.faults fin.journal; pages = g.P.Disk.faults fin.pages } } in
    subst (λ (s : Status). RunsCommand g.J.Disk.is_known g.P.Disk.is_known map store.number command every s input input output output_now before left) (sym out.status)
    (shown_runs g.J.Disk.is_known g.P.Disk.is_known map store.number every command (record { unread = refl; untried = λ e. refl; ran = λ t n limit status opening o r. r }) text (λ t. t.items) c.written.result
    input output output_now store.journal.history (pages_of history store.base) store.journal.history before.faults left.faults left.files run.ensures.stops
    (λ t is. run.ensures.done g.J.Disk.is_known store.journal.history t is)
    c.written.ensures.text c.written.ensures.none out.journal.0 (λ kp. ap history out.pages ∙ run.ensures.unchanged.0.0 kp) out.images c.written.ensures.write
    (subst (λ (k : Counts). DisksCountedWhere (text ≡ Err DiskFault) before.faults k) (λ i. record { journal = sym out.journal.1 i; pages = g.P.Disk.faults (sym out.pages i) }) (pages_counted store.journal.faults _ _ run.ensures.counts)))
