use Rattle.std.proofs.Common.{List, not, ◌&&◌, refl, ap, subst}
use Rattle.std.specs.Prelude.{Err}
use Rattle.session_driver.specs.Asking.{BookCall}
use Rattle.checkpoint.specs.declared.base.Base.{Base}
use Rattle.command_words.specs.Commands.{gen}
use Rattle.call_contract.specs.States.{State, start}
use Rattle.tx_core.specs.Cores.{CoreView}
use Rattle.workload_gen.specs.Scripts.{script}
use Rattle.workload_gen.specs.Summaries.{nothing_yet}
use Rattle.workload_gen.specs.declared.line.Line.{Line}
use Rattle.workload_gen.specs.declared.summary.Summary.{Summary}
use Rattle.xtc.specs.Checkpoints.{is_positive}
use Rattle.xtc.specs.Generated.{generated}
use Rattle.xtc.specs.StoreMachine.{KeptStore}
use Rattle.xtc.specs.TopCall.{tx_limit}
use Rattle.xtc.specs.declared.status.Status.TheVariants.{NoMemory}
use Rattle.xtc.specs.inside.Counting.{AllCounted, IsStopIf, StoppedOver}
use Rattle.xtc.specs.inside.Renewing.{files_of, kept}
use Rattle.xtc.proofs.GeneratedLaws.{done_failed, goes_to_text, stopped_went, unwritten_went}
use Rattle.xtc.proofs.LinesKept.{counted_err, err_has, new_stands, new_tree}
use Rattle.xtc.proofs.generator.run_script.Goals as goal

pub returns-in_err-run_lines-clause-done : goal.returns-in_err-run_lines-clause-done
returns-in_err-run_lines-clause-done g c = λ kj kp t is files empty.
    let history = g.P.Disk.history in
    let n = c.args.core.now.number in
    let first : KeptStore g.row.P.Denot = kept c.args.core.now c.args.journal.now c.args.checkpoints.now in
    let new : KeptStore g.row.P.Denot = kept c.run_lines.new.core c.run_lines.new.journal c.run_lines.new.checkpoints in
    let status = c.in_err-run_lines.field-0.0 in
    let s : State BookCall = start t n tx_limit in
    done_failed c.from_residual.result status t n (gen c.args.seed c.args.count) c.args.checkpoints.now.every (files_of history first) (files_of history new) (λ text. text.items) c.from_residual.ensures.1
    (stopped_went s c.args.seed c.args.count empty (files_of history first) (files_of history new) status
    (subst (λ (l : List Line). StoppedOver s (generated l) (files_of history first) (files_of history new) status) c.new-script.ensures
    (c.in_err-run_lines.ensures.ran kj kp s (new_stands g.P.Disk.is_known history first.core c.requires.opened t is) files)))

pub returns-in_err-run_lines-clause-stops : goal.returns-in_err-run_lines-clause-stops
returns-in_err-run_lines-clause-stops g c =
    err_has (IsStopIf (is_positive c.args.checkpoints.now.every && not g.P.Disk.is_known)) c.from_residual.result c.in_err-run_lines.field-0.0 c.from_residual.ensures.1 c.in_err-run_lines.ensures.stops

pub returns-in_err-run_lines-clause-counts : goal.returns-in_err-run_lines-clause-counts
returns-in_err-run_lines-clause-counts g c =
    counted_err c.from_residual.result c.in_err-run_lines.field-0.0 c.from_residual.ensures.1 (ap Err) (λ it. cc) _ _ c.in_err-run_lines.ensures.counts

pub returns-in_err-line_of-clause-done : goal.returns-in_err-line_of-clause-done
returns-in_err-line_of-clause-done g c = λ kj kp t is files empty.
    let known = g.P.Disk.is_known in
    let history = g.P.Disk.history in
    let n = c.args.core.now.number in
    let first : KeptStore g.row.P.Denot = kept c.args.core.now c.args.journal.now c.args.checkpoints.now in
    let new : KeptStore g.row.P.Denot = kept c.run_lines.new.core c.run_lines.new.journal c.run_lines.new.checkpoints in
    let s : State BookCall = start t n tx_limit in
    let ran : AllCounted known history s (script c.args.seed c.args.count) first new (nothing_yet c.args.count) c.run_lines.new.summary =
    subst (λ (x : List Line × Summary). AllCounted known history s x.0 first new x.1 c.run_lines.new.summary) (λ i. (c.new-script.ensures i, c.new-summary.ensures i))
    (c.in_ok-run_lines.ensures.ran kj kp s (new_stands known history first.core c.requires.opened t is) files) in
    done_failed c.from_residual-in_err-line_of.result NoMemory t n (gen c.args.seed c.args.count) c.args.checkpoints.now.every (files_of history first) (files_of history new) (λ text. text.items) c.from_residual-in_err-line_of.ensures.1
    (unwritten_went s c.args.seed c.args.count empty known history first new ran.answered)

pub returns-in_err-line_of-clause-stops : goal.returns-in_err-line_of-clause-stops
returns-in_err-line_of-clause-stops g c =
    err_has (IsStopIf (is_positive c.args.checkpoints.now.every && not g.P.Disk.is_known)) c.from_residual-in_err-line_of.result NoMemory c.from_residual-in_err-line_of.ensures.1 tt

pub returns-in_err-line_of-clause-counts : goal.returns-in_err-line_of-clause-counts
returns-in_err-line_of-clause-counts g c =
    counted_err c.from_residual-in_err-line_of.result NoMemory c.from_residual-in_err-line_of.ensures.1 (λ it. absurd cc) (λ it. absurd cc) _ _ c.in_ok-run_lines.ensures.counts

pub returns-clause-counts : goal.returns-clause-counts
returns-clause-counts g c = record { counted = λ it. absurd cc; exact = λ never. c.in_ok-run_lines.ensures.counts.exact (λ it. cc) }

pub returns-clause-done : goal.returns-clause-done
returns-clause-done g c = λ kj kp t is files empty.
    let known = g.P.Disk.is_known in
    let history = g.P.Disk.history in
    let n = c.args.core.now.number in
    let first : KeptStore g.row.P.Denot = kept c.args.core.now c.args.journal.now c.args.checkpoints.now in
    let new : KeptStore g.row.P.Denot = kept c.run_lines.new.core c.run_lines.new.journal c.run_lines.new.checkpoints in
    let s : State BookCall = start t n tx_limit in
    let ran : AllCounted known history s (script c.args.seed c.args.count) first new (nothing_yet c.args.count) c.run_lines.new.summary =
    subst (λ (x : List Line × Summary). AllCounted known history s x.0 first new x.1 c.run_lines.new.summary) (λ i. (c.new-script.ensures i, c.new-summary.ensures i))
    (c.in_ok-run_lines.ensures.ran kj kp s (new_stands known history first.core c.requires.opened t is) files) in
    goes_to_text known history t n c.args.seed c.args.count c.args.checkpoints.now.every empty first new c.run_lines.new.summary ran c.in_ok-line_of.field-0.items c.in_ok-line_of.ensures
    kp (new_tree known history first.core c.requires.opened t is) refl (ap (λ (v : CoreView BookCall (Base g.row.P.Denot)). v.book) c.requires.opened) refl c.in_ok-run_lines.ensures.goes_on (λ known. c.in_ok-run_lines.ensures.reads kj)
