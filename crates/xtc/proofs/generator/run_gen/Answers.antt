use Rattle.std.proofs.Common.{◌≡◌, ◌&&◌, not, true, sym, ap, subst, ◌∙◌}
use Rattle.std.specs.Prelude.{Err, IfErr}
use Rattle.outside_traits.specs.DiskPairs.{Pair, pair_of}
use Rattle.checkpoint.specs.declared.base.Base.TheVariants.{Paged}
use Rattle.command_words.specs.Commands.{gen}
use Rattle.script_runs.specs.Counts.{Counts, DisksCountedWhere}
use Rattle.xtc.specs.Checkpoints.{is_positive}
use Rattle.xtc.specs.StoreMachine.{HasRested, faults_of, file_of, pages_of, told}
use Rattle.xtc.specs.TopCall.{tx_limit}
use Rattle.xtc.specs.declared.checkpoints.Checkpoints.{Checkpoints}
use Rattle.xtc.specs.declared.status.Status.{Status}
use Rattle.xtc.specs.declared.status.Status.TheVariants.{DiskFault}
use Rattle.xtc.specs.Outside.{Output}
use Rattle.xtc.specs.inside.CommandRuns.{RunsCommand}
use Rattle.xtc.specs.inside.Counting.{IsStopIf, LeftPages}
use Rattle.xtc.specs.inside.Generating.{DoneOverFiles, FromTree, opened_with}
use Rattle.xtc.proofs.GeneratedLaws.{gen_runs, stops_quiet}
use Rattle.xtc.proofs.OpeningLaws.{first_rested}
use Rattle.xtc.proofs.generator.run_gen.Goals as goal

pub generate_over-text-requires-clause-rested : goal.generate_over-text-requires-clause-rested
generate_over-text-requires-clause-rested g c =
    let store = c.args.store in
    subst (λ (k : Checkpoints g.row.P.Denot). HasRested g.P.Disk.is_known g.P.Disk.history (opened_with g.P.Disk.is_known g.P.Disk.history (Paged store.base) store.number store.journal k)) (sym c.new-checkpoints.ensures)
    (first_rested g.J.Disk.is_known g.P.Disk.is_known true g.P.Disk.history g.P.Disk.faults store.base store.number tx_limit c.args.every store.journal c.requires.next c.requires.synced c.requires.tree)

pub written-requires : goal.written-requires
written-requires g c = stops_quiet (is_positive c.new-checkpoints.result.every && not g.P.Disk.is_known) c.generate_over-text.result.text c.generate_over-text.ensures.stops

pub disk_beside-requires : goal.disk_beside-requires
disk_beside-requires g c = record { pages = c.generate_over-text.ensures.pages.has }

pub returns : goal.returns
returns g c = λ input.
    let run = c.generate_over-text in
    let store = c.args.store in
    let known = g.P.Disk.is_known in
    let history = g.P.Disk.history in
    let faults = g.P.Disk.faults in
    let map = told known history store.base in
    let text = run.result.text in
    let fin = c.with_files.result in
    let out = c.with_files.ensures in
    let disk = c.disk_beside.ensures in
    let output : Output = record { held = g.K.Sink.held c.args.sink.now; faults = g.K.Sink.faults c.args.sink.now } in
    let output_now : Output = record { held = g.K.Sink.held c.written.new.sink; faults = g.K.Sink.faults c.written.new.sink } in
    let old : Pair = pair_of store.journal.history (pages_of history store.base) in
    let now : Pair = pair_of (g.J.Disk.history fin.journal) (history fin.pages) in
    let before : Counts = record { journal = store.journal.faults; pages = faults store.base.base.disk } in
    let left : Counts = record { journal = g.J.Disk.faults fin.journal; pages = faults fin.pages } in
    let pages_is : history fin.pages ≡ file_of history run.result.base run.result.checkpoints.pages = ap history out.pages ∙ disk.history in
    let faults_is : faults fin.pages ≡ faults_of faults run.result.base run.result.checkpoints.pages = ap faults out.pages ∙ disk.faults in
    let first_is = c.new-checkpoints.ensures in
    let left_pages : LeftPages known history c.args.every (pages_of history store.base) run.result.base run.result.checkpoints.pages
    = subst (λ (k : Checkpoints g.row.P.Denot). LeftPages known history k.every (file_of history (Paged store.base) k.pages) run.result.base run.result.checkpoints.pages) first_is run.ensures.pages in
    subst (λ (s : Status). RunsCommand g.J.Disk.is_known known map store.number (gen c.args.seed c.args.count) c.args.every s input input output output_now (record { files = old; faults = before }) (record { files = now; faults = left })) (sym out.status)
    (gen_runs g.J.Disk.is_known known map store.number c.args.seed c.args.count c.args.every text (λ t. t.items) c.written.result input output output_now old now before left
    (subst (λ (k : Checkpoints g.row.P.Denot). IfErr text (IsStopIf (is_positive k.every && not known))) first_is run.ensures.stops)
    (subst (λ (x : Checkpoints g.row.P.Denot × Pair). FromTree g.J.Disk.is_known known map store.number (pair_of store.journal.history (file_of history (Paged store.base) x.0.pages))
    (λ t. DoneOverFiles t store.number (gen c.args.seed c.args.count) x.0.every (pair_of store.journal.history (file_of history (Paged store.base) x.0.pages)) x.1 (λ t. t.items) text))
    (λ i. (first_is i, pair_of (sym out.journal.0 i) (sym pages_is i))) run.ensures.done)
    c.written.ensures.text c.written.ensures.none (λ kp none. pages_is ∙ left_pages.still kp none) out.images c.written.ensures.write
    (subst (λ (x : Checkpoints g.row.P.Denot × Counts). DisksCountedWhere (text ≡ Err DiskFault) (record { journal = store.journal.faults; pages = faults_of faults (Paged store.base) x.0.pages }) x.1)
    (λ i. (first_is i, record { journal = sym out.journal.1 i; pages = sym faults_is i })) run.ensures.counts))
