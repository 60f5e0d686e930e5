use Rattle.std.proofs.Common.{◌≡◌, sym, subst}
use Rattle.std.specs.Prelude.{Err, IsTrue, Option}
use Rattle.node_seq.specs.Trees.{StandsFor}
use Rattle.checkpoint.specs.Bases.{contents_of}
use Rattle.checkpoint.specs.declared.base.Base.{Base}
use Rattle.script_runs.specs.Counts.{DisksCountedWhere}
use Rattle.session_driver.specs.Asking.{BookCall}
use Rattle.tx_core.specs.Cores.{CoreView}
use Rattle.workers_text.specs.Shown.{lines_in}
use Rattle.xtc.specs.StoreMachine.{HasPages}
use Rattle.xtc.specs.declared.status.Status.TheVariants.{DiskFault}
use Rattle.xtc.specs.inside.CommandRuns.{HasTree, StandSettled}
use Rattle.xtc.specs.inside.Working.{IsBegun, ScriptDone, counts_beside, files_beside}
use Rattle.xtc.proofs.WorkedScripts.{new_core, none_worked}
use Rattle.xtc.proofs.workers.work_over.Goals as goal

pub work-requires-clause-opened : goal.work-requires-clause-opened
work-requires-clause-opened g c = λ κs within. new_core (contents_of g.P.Disk.is_known g.P.Disk.history) c.args.base c.args.number c.in-Ok.core c.in-Ok.ensures.ok

pub work-requires-clause-begun : goal.work-requires-clause-begun
work-requires-clause-begun g c = λ κs within.
    subst (λ (v : CoreView BookCall (Base g.row.P.Denot)). IsBegun g.P.Disk.is_known g.P.Disk.history v.base v.number c.args.journal c.args.checkpoints) (sym c.in-Ok.ensures.ok) c.requires.begun

pub work-requires-clause-tree : goal.work-requires-clause-tree
work-requires-clause-tree g c = λ κs within.
    subst (λ (v : CoreView BookCall (Base g.row.P.Denot)). IsTrue g.P.Disk.is_known → HasTree (contents_of g.P.Disk.is_known g.P.Disk.history v.base)) (sym c.in-Ok.ensures.ok) c.requires.tree

pub returns-in-Ok-clause-done : goal.returns-in-Ok-clause-done
returns-in-Ok-clause-done g c = λ kj kp t.
    let history = g.P.Disk.history in
    let every = c.args.checkpoints.every in
    subst (λ (v : CoreView BookCall (Base g.row.P.Denot)). StandsFor (contents_of g.P.Disk.is_known history v.base) t → StandSettled (files_beside history c.args.journal v.base c.args.checkpoints) t v.number
    → ScriptDone t v.number every (lines_in c.args.script.now.entries) (files_beside history c.args.journal v.base c.args.checkpoints)
    (files_beside history c.work.result.journal c.work.result.base c.work.result.checkpoints) (λ text. text.items) c.work.result.text) c.in-Ok.ensures.ok (c.work.ensures.done kj kp t)

pub returns-in-Ok-clause-counts : goal.returns-in-Ok-clause-counts
returns-in-Ok-clause-counts g c = subst (λ (v : CoreView BookCall (Base g.row.P.Denot)). DisksCountedWhere (c.work.result.text ≡ Err DiskFault)
    (counts_beside g.P.Disk.faults c.args.journal v.base c.args.checkpoints) (counts_beside g.P.Disk.faults c.work.result.journal c.work.result.base c.work.result.checkpoints)) c.in-Ok.ensures.ok c.work.ensures.counts

pub returns-in-Err-clause-done : goal.returns-in-Err-clause-done
returns-in-Err-clause-done g c = λ kj kp t is files.
    none_worked t c.args.number c.args.checkpoints.every is.valid _ _ (λ i. files_beside g.P.Disk.history c.args.journal (c.in-Err.ensures.err i) c.args.checkpoints) (lines_in c.args.script.now.entries)

pub returns-in-Err-clause-pages : goal.returns-in-Err-clause-pages
returns-in-Err-clause-pages g c =
    subst (λ (b : Base g.row.P.Denot). HasPages b c.args.checkpoints.pages) (sym c.in-Err.ensures.err) (subst (λ (p : Option g.row.P.Denot). HasPages c.args.base p) (sym c.requires.begun.inside) c.requires.begun.paged)

pub returns-in-Err-clause-counts : goal.returns-in-Err-clause-counts
returns-in-Err-clause-counts g c = record {
  counted = λ it. absurd cc;
  exact = λ never i. counts_beside g.P.Disk.faults c.args.journal (c.in-Err.ensures.err i) c.args.checkpoints;
}
