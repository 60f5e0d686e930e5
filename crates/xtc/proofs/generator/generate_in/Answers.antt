use Rattle.std.proofs.Common.{◌≡◌, sym, subst, refl}
use Rattle.std.specs.Prelude.{Err, false}
use Rattle.outside_traits.specs.DiskPairs.{Pair, pair_of}
use Rattle.checkpoint.specs.Bases.{contents_of}
use Rattle.checkpoint.specs.declared.base.Base.{Base}
use Rattle.call_contract.specs.States.{start}
use Rattle.session_driver.specs.Asking.{BookCall}
use Rattle.command_words.specs.Commands.{gen}
use Rattle.script_runs.specs.Counts.{DisksCountedWhere}
use Rattle.tx_core.specs.Cores.{CoreView}
use Rattle.xtc.specs.Documents.{has_documents}
use Rattle.xtc.specs.StoreMachine.{HasRested, faults_of, file_in, file_of}
use Rattle.xtc.specs.TopCall.{tx_limit}
use Rattle.xtc.specs.declared.status.Status.TheVariants.{DiskFault, NoMemory}
use Rattle.xtc.specs.inside.Counting.{LeftPages}
use Rattle.xtc.specs.inside.Generating.{DoneOverFiles, FromTree, WentOver}
use Rattle.xtc.specs.inside.Renewing.{counts_in, files_of, kept}
use Rattle.xtc.proofs.GeneratedLaws.{nothing_went}
use Rattle.xtc.proofs.LinesKept.{opened_new, pages_rested}
use Rattle.xtc.proofs.generator.generate_in.Goals as goal

pub run_script-text-requires-clause-opened : goal.run_script-text-requires-clause-opened
run_script-text-requires-clause-opened g c = opened_new (contents_of g.P.Disk.is_known g.P.Disk.history) c.args.base c.args.number c.in-Ok.core c.in-Ok.ensures.ok

pub run_script-text-requires-clause-rested : goal.run_script-text-requires-clause-rested
run_script-text-requires-clause-rested g c =
    subst (λ (v : CoreView BookCall (Base g.row.P.Denot)). HasRested g.P.Disk.is_known g.P.Disk.history (kept v c.args.journal.now c.args.checkpoints)) (sym c.in-Ok.ensures.ok) c.requires.rested

pub returns-in-Ok-clause-done : goal.returns-in-Ok-clause-done
returns-in-Ok-clause-done g c =
    let history = g.P.Disk.history in
    let run = c.run_script-text in
    subst (λ (x : CoreView BookCall (Base g.row.P.Denot) × Base g.row.P.Denot).
    FromTree g.J.Disk.is_known g.P.Disk.is_known (contents_of g.P.Disk.is_known history x.0.base) x.0.number (files_of history (kept x.0 c.args.journal.now c.args.checkpoints))
    (λ t. has_documents t ≡ false → DoneOverFiles t x.0.number (gen c.args.seed c.args.count) c.args.checkpoints.every (files_of history (kept x.0 c.args.journal.now c.args.checkpoints))
    (pair_of run.new.journal.history (file_of history x.1 run.new.checkpoints.pages)) (λ text. text.items) run.result))
    (λ i. (c.in-Ok.ensures.ok i, sym c.into_base.ensures i)) run.ensures.done

pub returns-in-Ok-clause-pages : goal.returns-in-Ok-clause-pages
returns-in-Ok-clause-pages g c =
    let history = g.P.Disk.history in
    let run = c.run_script-text in
    subst (λ (x : CoreView BookCall (Base g.row.P.Denot) × Base g.row.P.Denot). LeftPages g.P.Disk.is_known history c.args.checkpoints.every (file_in history (kept x.0 c.args.journal.now c.args.checkpoints)) x.1 run.new.checkpoints.pages)
    (λ i. (c.in-Ok.ensures.ok i, sym c.into_base.ensures i)) run.ensures.pages

pub returns-in-Ok-clause-counts : goal.returns-in-Ok-clause-counts
returns-in-Ok-clause-counts g c =
    let faults = g.P.Disk.faults in
    let run = c.run_script-text in
    subst (λ (x : CoreView BookCall (Base g.row.P.Denot) × Base g.row.P.Denot). DisksCountedWhere (run.result ≡ Err DiskFault) (counts_in faults (kept x.0 c.args.journal.now c.args.checkpoints))
    (record { journal = run.new.journal.faults; pages = faults_of faults x.1 run.new.checkpoints.pages }))
    (λ i. (c.in-Ok.ensures.ok i, sym c.into_base.ensures i)) run.ensures.counts

-- there is no memory for a core

pub returns-in-Err-clause-done : goal.returns-in-Err-clause-done
returns-in-Err-clause-done g c = λ kj kp t is files empty.
    let old : Pair = pair_of c.args.journal.now.history (file_of g.P.Disk.history c.args.base c.args.checkpoints.pages) in
    subst (λ (b : Base g.row.P.Denot). WentOver (start t c.args.number tx_limit) (gen c.args.seed c.args.count) old (pair_of c.args.journal.now.history (file_of g.P.Disk.history b c.args.checkpoints.pages)) NoMemory) (sym c.in-Err.ensures.err)
    (nothing_went (start t c.args.number tx_limit) (gen c.args.seed c.args.count) old files NoMemory tt)

pub returns-in-Err-clause-pages : goal.returns-in-Err-clause-pages
returns-in-Err-clause-pages g c =
    let history = g.P.Disk.history in
    subst (λ (b : Base g.row.P.Denot). LeftPages g.P.Disk.is_known history c.args.checkpoints.every (file_of history c.args.base c.args.checkpoints.pages) b c.args.checkpoints.pages) (sym c.in-Err.ensures.err)
    (pages_rested g.P.Disk.is_known history g.P.Disk.faults (file_of history c.args.base c.args.checkpoints.pages) c.args.checkpoints.every _ c.requires.rested (λ known none. refl))

pub returns-in-Err-clause-counts : goal.returns-in-Err-clause-counts
returns-in-Err-clause-counts g c = record {
  counted = λ it. absurd cc;
  exact = λ never i. record { journal = c.args.journal.now.faults; pages = faults_of g.P.Disk.faults (c.in-Err.ensures.err i) c.args.checkpoints.pages };
}
