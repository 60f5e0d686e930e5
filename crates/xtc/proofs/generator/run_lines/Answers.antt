use Rattle.std.proofs.Common.{◌∷◌, List, not, ◌&&◌, length, refl, ap, subst, ◌∙◌, arith}
use Rattle.std.specs.Prelude.{Err}
use Rattle.workload_gen.specs.declared.line.Line.{Line}
use Rattle.xtc.specs.Checkpoints.{is_positive}
use Rattle.xtc.specs.Statuses.{status_of, status_of_stop}
use Rattle.xtc.specs.StoreMachine.{KeptStore, file_in}
use Rattle.xtc.specs.inside.Counting.{HasRun, IsStopIf}
use Rattle.xtc.specs.inside.Renewing.{kept}
use Rattle.xtc.proofs.CheckpointLaws.{answered_on, file_still}
use Rattle.xtc.proofs.CountedLines.{checkpoint_on, checkpoint_stops_on, line_done_on, line_stops_on, none_run, ran_err, run_ends}
use Rattle.xtc.proofs.LinesKept.{checkpoint_counts, checkpoint_still, damage_lost, err_has, fault_is, goes_on_itself, goes_on_with, line_counts, line_still, line_unfaulted, pages_checkpointed, pages_read, pages_rested, stop_is, takes_rested}
use Rattle.xtc.proofs.generator.run_lines.Goals as goal

pub loop-line-init : goal.loop-line-init
loop-line-init g c =
    let first : KeptStore g.row.P.Denot = kept c.args.core.now c.args.journal.now c.args.checkpoints.now in
    record {
      run = λ kj kp s stands files. none_run g.P.Disk.is_known g.P.Disk.history s c.args.script.now first c.args.summary.now stands files;
      goes_on = goes_on_itself g.P.Disk.is_known g.P.Disk.history first c.requires.rested;
      still = λ known none. refl;
      no_fault = refl;
    }

pub loop-line-smaller : goal.loop-line-smaller
loop-line-smaller g c = let list = ap length c.in-Some.ensures in omega (arith, list)

pub run_line-requires : goal.run_line-requires
run_line-requires g c = record { takes = takes_rested g.P.Disk.is_known g.P.Disk.history (kept c.loop-line.core c.loop-line.journal c.loop-line.checkpoints) c.loop-line.invariant.goes_on.rested }

pub make_if_due-requires : goal.make_if_due-requires
make_if_due-requires g c =
    let mid : KeptStore g.row.P.Denot = kept c.loop-line.core c.loop-line.journal c.loop-line.checkpoints in
    let lined : KeptStore g.row.P.Denot = kept c.run_line.new.core c.run_line.new.journal c.loop-line.checkpoints in
    let did = c.in_ok-run_line.ensures in
    record { answered = answered_on g.P.Disk.is_known g.P.Disk.history g.P.Disk.faults mid lined c.loop-line.invariant.goes_on.rested did.grown did.takes did.base refl c.is_legal.ensures.book }

pub loop-line-preserved : goal.loop-line-preserved
loop-line-preserved g c =
    let inv = c.loop-line.invariant in
    let known = g.P.Disk.is_known in
    let history = g.P.Disk.history in
    let faults = g.P.Disk.faults in
    let rest = c.next.new.self in
    let line = c.in-Some.line in
    let first : KeptStore g.row.P.Denot = kept c.args.core.now c.args.journal.now c.args.checkpoints.now in
    let mid : KeptStore g.row.P.Denot = kept c.loop-line.core c.loop-line.journal c.loop-line.checkpoints in
    let lined : KeptStore g.row.P.Denot = kept c.run_line.new.core c.run_line.new.journal c.loop-line.checkpoints in
    let new : KeptStore g.row.P.Denot = kept c.make_if_due.new.core c.make_if_due.new.journal c.make_if_due.new.self in
    let did = c.in_ok-run_line.ensures in
    let made = c.in_ok-make_if_due.ensures in
    let rested = inv.goes_on.rested in
    record {
      run = λ kj kp s stands files.
          let before : HasRun known history s c.args.script.now (line ∷ rest) first mid c.args.summary.now c.loop-line.summary =
          subst (λ (l : List Line). HasRun known history s c.args.script.now l first mid c.args.summary.now c.loop-line.summary) c.in-Some.ensures (inv.run kj kp s stands files) in
          let done = line_done_on g.J.Disk.is_known known history s c.args.script.now rest line first mid lined c.args.summary.now c.loop-line.summary kj before (file_still known history faults mid.core.base lined.core.base mid.checkpoints.pages did.base kp)
          c.run_line.new.replies.items c.run_line.new.summary did.asked did.book did.counted in
          checkpoint_on known history s c.args.script.now rest first lined new c.args.summary.now c.run_line.new.summary done _ (made.files kj kp) made.left.same_core (λ u stand held. (made.files kj kp u stand held).at_end);
      goes_on = goes_on_with known history first mid new lined.core inv.goes_on did.grown made.left.same_core made.every made.rested;
      still = λ kp none. checkpoint_still known history faults lined new made.left (ap is_positive inv.goes_on.every ∙ none) ∙ line_still known history faults (file_in history first) first.checkpoints.every mid rested inv.still lined.core.base did.base kp none;
      no_fault = made.counts.exact (λ is. cc) ∙ line_unfaulted faults _ mid lined.core lined.journal rested.answered.inside inv.no_fault (did.counts.exact (λ is. cc));
    }

-- ---- a line stopped

pub returns-in_err-run_line-clause-ran : goal.returns-in_err-run_line-clause-ran
returns-in_err-run_line-clause-ran g c = λ kj kp s stands files.
    let known = g.P.Disk.is_known in
    let history = g.P.Disk.history in
    let rest = c.next.new.self in
    let line = c.in-Some.line in
    let first : KeptStore g.row.P.Denot = kept c.args.core.now c.args.journal.now c.args.checkpoints.now in
    let mid : KeptStore g.row.P.Denot = kept c.loop-line.core c.loop-line.journal c.loop-line.checkpoints in
    let lined : KeptStore g.row.P.Denot = kept c.run_line.new.core c.run_line.new.journal c.loop-line.checkpoints in
    let why = c.in_err-run_line.field-0.0 in
    let before : HasRun known history s c.args.script.now (line ∷ rest) first mid c.args.summary.now c.loop-line.summary =
    subst (λ (l : List Line). HasRun known history s c.args.script.now l first mid c.args.summary.now c.loop-line.summary) c.in-Some.ensures (c.loop-line.invariant.run kj kp s stands files) in
    ran_err known history c.from_residual.result (status_of_stop why) s c.args.script.now first lined c.args.summary.now c.run_line.new.summary c.from_residual.ensures.1
    (line_stops_on g.J.Disk.is_known known history s c.args.script.now rest line first mid lined c.args.summary.now c.loop-line.summary kj before
    (file_still known history g.P.Disk.faults mid.core.base lined.core.base mid.checkpoints.pages c.in_err-run_line.ensures.base kp) why c.in_err-run_line.ensures.asked)

pub returns-in_err-run_line-clause-stops : goal.returns-in_err-run_line-clause-stops
returns-in_err-run_line-clause-stops g c =
    let lost = is_positive c.args.checkpoints.now.every && not g.P.Disk.is_known in
    err_has (IsStopIf lost) c.from_residual.result (status_of_stop c.in_err-run_line.field-0.0) c.from_residual.ensures.1 (stop_is lost c.in_err-run_line.field-0.0)

pub returns-in_err-run_line-clause-pages : goal.returns-in_err-run_line-clause-pages
returns-in_err-run_line-clause-pages g c =
    let inv = c.loop-line.invariant in
    pages_read g.P.Disk.is_known g.P.Disk.history g.P.Disk.faults _ c.args.checkpoints.now.every (kept c.loop-line.core c.loop-line.journal c.loop-line.checkpoints) inv.goes_on.rested inv.still c.run_line.new.core.base c.in_err-run_line.ensures.base

pub returns-in_err-run_line-clause-counts : goal.returns-in_err-run_line-clause-counts
returns-in_err-run_line-clause-counts g c =
    let inv = c.loop-line.invariant in
    line_counts g.P.Disk.faults _ (kept c.loop-line.core c.loop-line.journal c.loop-line.checkpoints) c.run_line.new.core c.run_line.new.journal inv.goes_on.rested.answered.inside inv.no_fault
    c.from_residual.result c.in_err-run_line.field-0.0 c.from_residual.ensures.1 (ap Err) (λ it. cc) c.in_err-run_line.ensures.counts

-- ---- a checkpoint failed

pub returns-in_err-make_if_due-clause-ran : goal.returns-in_err-make_if_due-clause-ran
returns-in_err-make_if_due-clause-ran g c = λ kj kp s stands files.
    let known = g.P.Disk.is_known in
    let history = g.P.Disk.history in
    let rest = c.next.new.self in
    let line = c.in-Some.line in
    let first : KeptStore g.row.P.Denot = kept c.args.core.now c.args.journal.now c.args.checkpoints.now in
    let mid : KeptStore g.row.P.Denot = kept c.loop-line.core c.loop-line.journal c.loop-line.checkpoints in
    let lined : KeptStore g.row.P.Denot = kept c.run_line.new.core c.run_line.new.journal c.loop-line.checkpoints in
    let new : KeptStore g.row.P.Denot = kept c.make_if_due.new.core c.make_if_due.new.journal c.make_if_due.new.self in
    let did = c.in_ok-run_line.ensures in
    let fault = c.in_err-make_if_due.field-0.0 in
    let failed = c.in_err-make_if_due.ensures in
    let before : HasRun known history s c.args.script.now (line ∷ rest) first mid c.args.summary.now c.loop-line.summary =
    subst (λ (l : List Line). HasRun known history s c.args.script.now l first mid c.args.summary.now c.loop-line.summary) c.in-Some.ensures (c.loop-line.invariant.run kj kp s stands files) in
    let done = line_done_on g.J.Disk.is_known known history s c.args.script.now rest line first mid lined c.args.summary.now c.loop-line.summary kj before (file_still known history g.P.Disk.faults mid.core.base lined.core.base mid.checkpoints.pages did.base kp)
    c.run_line.new.replies.items c.run_line.new.summary did.asked did.book did.counted in
    ran_err known history c.from_residual-in_err-make_if_due.result (status_of fault) s c.args.script.now first new c.args.summary.now c.run_line.new.summary c.from_residual-in_err-make_if_due.ensures.1
    (checkpoint_stops_on known history s c.args.script.now rest first lined new c.args.summary.now c.run_line.new.summary done _ (failed.files kj kp) fault (λ place it. (failed.damaged place (ap Err it)).1 kp))

pub returns-in_err-make_if_due-clause-stops : goal.returns-in_err-make_if_due-clause-stops
returns-in_err-make_if_due-clause-stops g c =
    let lost = is_positive c.args.checkpoints.now.every && not g.P.Disk.is_known in
    let fault = c.in_err-make_if_due.field-0.0 in
    err_has (IsStopIf lost) c.from_residual-in_err-make_if_due.result (status_of fault) c.from_residual-in_err-make_if_due.ensures.1
    (fault_is lost fault (λ place it. damage_lost g.P.Disk.is_known c.loop-line.checkpoints _ _ c.in_err-make_if_due.ensures.damaged c.args.checkpoints.now.every c.loop-line.invariant.goes_on.every place (ap Err it)))

pub returns-in_err-make_if_due-clause-pages : goal.returns-in_err-make_if_due-clause-pages
returns-in_err-make_if_due-clause-pages g c =
    let inv = c.loop-line.invariant in
    let history = g.P.Disk.history in
    let first : KeptStore g.row.P.Denot = kept c.args.core.now c.args.journal.now c.args.checkpoints.now in
    let mid : KeptStore g.row.P.Denot = kept c.loop-line.core c.loop-line.journal c.loop-line.checkpoints in
    let lined : KeptStore g.row.P.Denot = kept c.run_line.new.core c.run_line.new.journal c.loop-line.checkpoints in
    let new : KeptStore g.row.P.Denot = kept c.make_if_due.new.core c.make_if_due.new.journal c.make_if_due.new.self in
    pages_checkpointed g.P.Disk.is_known history g.P.Disk.faults lined new c.in_err-make_if_due.ensures.left (file_in history first) first.checkpoints.every inv.goes_on.every
    (line_still g.P.Disk.is_known history g.P.Disk.faults (file_in history first) first.checkpoints.every mid inv.goes_on.rested inv.still lined.core.base c.in_ok-run_line.ensures.base)

pub returns-in_err-make_if_due-clause-counts : goal.returns-in_err-make_if_due-clause-counts
returns-in_err-make_if_due-clause-counts g c =
    let inv = c.loop-line.invariant in
    let mid : KeptStore g.row.P.Denot = kept c.loop-line.core c.loop-line.journal c.loop-line.checkpoints in
    let lined : KeptStore g.row.P.Denot = kept c.run_line.new.core c.run_line.new.journal c.loop-line.checkpoints in
    let new : KeptStore g.row.P.Denot = kept c.make_if_due.new.core c.make_if_due.new.journal c.make_if_due.new.self in
    checkpoint_counts g.P.Disk.faults _ lined new (line_unfaulted g.P.Disk.faults _ mid lined.core lined.journal inv.goes_on.rested.answered.inside inv.no_fault (c.in_ok-run_line.ensures.counts.exact (λ is. cc)))
    c.from_residual-in_err-make_if_due.result c.in_err-make_if_due.field-0.0 c.from_residual-in_err-make_if_due.ensures.1 (ap Err) (λ it. cc) c.in_err-make_if_due.ensures.counts

-- ---- all lines were done

pub returns-clause-ran : goal.returns-clause-ran
returns-clause-ran g c = λ kj kp s stands files.
    run_ends g.P.Disk.is_known g.P.Disk.history s c.args.script.now c.loop-line.script (kept c.args.core.now c.args.journal.now c.args.checkpoints.now) (kept c.loop-line.core c.loop-line.journal c.loop-line.checkpoints)
    c.args.summary.now c.loop-line.summary (c.loop-line.invariant.run kj kp s stands files) c.in_default.ensures.0

pub returns-clause-goes_on : goal.returns-clause-goes_on
returns-clause-goes_on g c = c.loop-line.invariant.goes_on

pub returns-clause-reads : goal.returns-clause-reads
returns-clause-reads g c = λ kj unfailed unheld. (c.is_usable.ensures.groups kj unfailed, c.is_usable.ensures.commits kj unfailed unheld)

pub returns-clause-pages : goal.returns-clause-pages
returns-clause-pages g c =
    let inv = c.loop-line.invariant in
    pages_rested g.P.Disk.is_known g.P.Disk.history g.P.Disk.faults _ c.args.checkpoints.now.every (kept c.loop-line.core c.loop-line.journal c.loop-line.checkpoints) inv.goes_on.rested inv.still

pub returns-clause-counts : goal.returns-clause-counts
returns-clause-counts g c = record { counted = λ it. absurd cc; exact = λ never. c.loop-line.invariant.no_fault }
