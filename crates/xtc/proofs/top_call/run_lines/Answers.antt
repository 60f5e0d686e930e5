use Rattle.std.proofs.Common.{◌≡◌, None, refl, sym, subst, ap, ◌∙◌}
use Rattle.outside_traits.specs.DiskPairs.{pair_of}
use Rattle.journal.specs.Views.{JournalView}
use Rattle.checkpoint.specs.declared.base.Base.TheVariants.{Paged}
use Rattle.command_words.specs.Commands.{run}
use Rattle.xtc.specs.StoreMachine.{HasRested, KeptStore, MakesAs, faults_of, file_in, file_of, pages_of, told}
use Rattle.xtc.specs.TopCall.{tx_limit}
use Rattle.xtc.specs.declared.status.Status.{Status}
use Rattle.xtc.specs.Outside.{Input, Output, Disks}
use Rattle.xtc.specs.inside.CommandRuns.{RunsCommand}
use Rattle.xtc.specs.inside.Renewing.{ReadsGroups}
use Rattle.xtc.proofs.CommandRunLaws.{disks_moved, nothing_runs, script_runs}
use Rattle.xtc.proofs.OpeningLaws.{first, first_rested}
use Rattle.xtc.proofs.StatusLaws.{loses_by}
use Rattle.xtc.proofs.StoreMachineLaws.{both_known}
use Rattle.xtc.proofs.StoreRuns.{nothing_ran, store_ran}
use Rattle.xtc.proofs.top_call.run_lines.Goals as goal

-- the store that runs is the one that was opened
pub run-run-requires : goal.run-run-requires
run-run-requires g c =
    let store = c.args.store in
    let history = g.P.Disk.history in
    let begun : KeptStore g.row.P.Denot = first g.J.Disk.is_known g.P.Disk.is_known g.C.MakesCheckpoints.makes history g.P.Disk.faults store.base store.number tx_limit c.args.every store.journal in
    let same : c.new-store.result ≡ begun = c.new-store.ensures ∙ (λ i. record { core = c.in-Ok.ensures.ok i; journal = store.journal; checkpoints = c.new-checkpoints.ensures i }) in
    record {
      ready = subst (λ (k : KeptStore g.row.P.Denot). HasRested g.P.Disk.is_known history k × MakesAs g.C.MakesCheckpoints.makes k) (sym same)
          (first_rested g.J.Disk.is_known g.P.Disk.is_known g.C.MakesCheckpoints.makes history g.P.Disk.faults store.base store.number tx_limit c.args.every store.journal c.requires.next c.requires.synced c.requires.tree, c.requires.makes);
    }

pub returns-in-Ok : goal.returns-in-Ok
returns-in-Ok g c =
    let history = g.P.Disk.history in
    let faults = g.P.Disk.faults in
    let makes = g.C.MakesCheckpoints.makes in
    let store = c.args.store in
    let every = c.args.every in
    let map = told g.P.Disk.is_known history in
    let ran = c.run-run.ensures in
    let read = ran.ran in
    let begun : KeptStore g.row.P.Denot = first g.J.Disk.is_known g.P.Disk.is_known makes history faults store.base store.number tx_limit every store.journal in
    let same : c.new-store.result ≡ begun = c.new-store.ensures ∙ (λ i. record { core = c.in-Ok.ensures.ok i; journal = store.journal; checkpoints = c.new-checkpoints.ensures i }) in
    let m : KeptStore g.row.P.Denot = c.run-run.result.machine in
    let parts = c.into_parts-journal.ensures in
    let fin = c.with_files.result in
    let out = c.with_files.ensures in
    let journal_is : g.J.Disk.history fin.journal ≡ m.journal.history = out.journal.0 ∙ ap (λ (j : JournalView). j.history) parts.journal in
    let pages_is : history fin.pages ≡ file_in history m = ap history out.pages ∙ parts.pages in
    let input : Input = record { left = g.S.Source.left c.args.source.now; given = g.S.Source.given c.args.source.now; asked = g.S.Source.asked c.args.source.now; faults = g.S.Source.faults c.args.source.now } in
    let input_now : Input = record { left = g.S.Source.left c.run-run.new.source; given = g.S.Source.given c.run-run.new.source; asked = g.S.Source.asked c.run-run.new.source; faults = g.S.Source.faults c.run-run.new.source } in
    let output : Output = record { held = g.K.Sink.held c.args.sink.now; faults = g.K.Sink.faults c.args.sink.now } in
    let output_now : Output = record { held = g.K.Sink.held c.run-run.new.sink; faults = g.K.Sink.faults c.run-run.new.sink } in
    let before : Disks = record { files = pair_of store.journal.history (pages_of history store.base); faults = record { journal = store.journal.faults; pages = faults store.base.base.disk } } in
    let left : Disks = record { files = pair_of (g.J.Disk.history fin.journal) (history fin.pages); faults = record { journal = g.J.Disk.faults fin.journal; pages = faults fin.pages } } in
    subst (λ (s : Status). RunsCommand g.J.Disk.is_known g.P.Disk.is_known (map store.base) store.number run every s input input_now output output_now before left) (sym (out.status ∙ c.from.ensures))
    (script_runs g.J.Disk.is_known g.P.Disk.is_known (map store.base) store.number every c.run-run.result.end input input_now output output_now before left (
      read.0,
      read.1,
      read.2,
      λ kj kp t is files old.
          store_ran g.J.Disk.is_known g.P.Disk.is_known makes history faults store.base store.number tx_limit every store.journal t is (both_known _ _ kj kp) files
          c.run-run.result.end read.0 _ _ _ _ c.new-store.result m old _ same (record { files = λ i. pair_of (journal_is i) (pages_is i); journal_image = out.images.0 kj; pages_image = out.images.1 kp })
          read.3 ran.damaged c.requires.makes ran.usable (subst (ReadsGroups g.J.Disk.is_known) parts.journal out.groups) _ refl,
    ) ran.whole ran.bound ran.counted.read ran.counted.write
    (disks_moved _ _ _ _ (λ i. record { journal = (same i).journal.faults; pages = faults_of faults (same i).core.base (same i).checkpoints.pages })
    (λ i. record { journal = (out.journal.1 ∙ ap (λ (j : JournalView). j.faults) parts.journal) i; pages = (ap faults out.pages ∙ parts.faults) i }) ran.counted.disk)
    (loses_by every g.P.Disk.is_known makes c.run-run.result.end c.requires.makes ran.damaged))

-- there is no memory for a core, and nothing is read
pub returns-in-Err : goal.returns-in-Err
returns-in-Err g c =
    let history = g.P.Disk.history in
    let faults = g.P.Disk.faults in
    let store = c.args.store in
    let map = told g.P.Disk.is_known history store.base in
    let fin = c.with_files-in-Err.result in
    let out = c.with_files-in-Err.ensures in
    let base : c.in-Err.field-0.base ≡ Paged store.base = c.in-Err.ensures.err in
    let beside = c.disk_beside-pages.ensures in
    let none : c.new-in-Err.result.pages ≡ None = ap (λ x. x.pages) c.new-in-Err.ensures in
    let pages_is : history fin.pages ≡ pages_of history store.base = ap history out.pages ∙ beside.history ∙ (λ i. file_of history (base i) (none i)) in
    let faults_is : faults c.disk_beside-pages.result ≡ faults store.base.base.disk = beside.faults ∙ (λ i. faults_of faults (base i) (none i)) in
    let input : Input = record { left = g.S.Source.left c.args.source.now; given = g.S.Source.given c.args.source.now; asked = g.S.Source.asked c.args.source.now; faults = g.S.Source.faults c.args.source.now } in
    let output : Output = record { held = g.K.Sink.held c.args.sink.now; faults = g.K.Sink.faults c.args.sink.now } in
    let before : Disks = record { files = pair_of store.journal.history (pages_of history store.base); faults = record { journal = store.journal.faults; pages = faults store.base.base.disk } } in
    let left : Disks = record { files = pair_of (g.J.Disk.history fin.journal) (history fin.pages); faults = record { journal = g.J.Disk.faults fin.journal; pages = faults fin.pages } } in
    subst (λ (s : Status). RunsCommand g.J.Disk.is_known g.P.Disk.is_known map store.number run c.args.every s input input output output before left) (sym out.status)
    (nothing_runs g.J.Disk.is_known g.P.Disk.is_known map store.number c.args.every input output before left (λ kj kp t is files old.
    nothing_ran g.J.Disk.is_known g.P.Disk.is_known g.C.MakesCheckpoints.makes history faults store.base store.number tx_limit c.args.every store.journal t is (both_known _ _ kj kp) files
    _ _ _ old _ (record { files = λ i. pair_of (out.journal.0 i) (pages_is i); journal_image = out.images.0 kj; pages_image = out.images.1 kp }) c.requires.makes out.groups)
    (λ i. record { journal = out.journal.1 i; pages = (ap faults out.pages ∙ faults_is) i }))
