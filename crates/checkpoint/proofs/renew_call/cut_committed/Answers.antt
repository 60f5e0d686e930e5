use Rattle.std.proofs.Common.{Some, sym, ap, ◌∙◌}
use Rattle.tx_core.specs.Cores.{state_from}
use Rattle.checkpoint.proofs.RefusedLaws.{not_ok}
use Rattle.checkpoint.proofs.RenewAnswers.{copy_cause, map_cause}
use Rattle.checkpoint.proofs.RenewLaws.{committed_valid}
use Rattle.checkpoint.proofs.renew_call.cut_committed.Goals as goal

-- ---- nothing was copied, or cut

pub returns-in_err-copy-clause-copy : goal.returns-in_err-copy-clause-copy
returns-in_err-copy-clause-copy g c = not_ok _ c.from_residual.result c.in_err-copy.field-0.0 c.from_residual.ensures.1

pub returns-in_err-copy-clause-cut : goal.returns-in_err-copy-clause-cut
returns-in_err-copy-clause-cut g c = not_ok _ c.from_residual.result c.in_err-copy.field-0.0 c.from_residual.ensures.1

pub returns-in_err-copy-clause-cause : goal.returns-in_err-copy-clause-cause
returns-in_err-copy-clause-cause g c = map_cause c.copy_committed.result c.from_residual.result c.in_err-copy.field-0.0 _ _ c.from_residual.ensures.1 c.in_err-copy.was c.copy_committed.ensures.cause

pub returns-in_err-cut-clause-copy : goal.returns-in_err-cut-clause-copy
returns-in_err-cut-clause-copy g c = not_ok _ c.from_residual-in_err-cut.result c.in_err-cut.field-0.0 c.from_residual-in_err-cut.ensures.1

pub returns-in_err-cut-clause-cut : goal.returns-in_err-cut-clause-cut
returns-in_err-cut-clause-cut g c = not_ok _ c.from_residual-in_err-cut.result c.in_err-cut.field-0.0 c.from_residual-in_err-cut.ensures.1

pub returns-in_err-cut-clause-cause : goal.returns-in_err-cut-clause-cause
returns-in_err-cut-clause-cause g c = copy_cause c.cut_pages.result c.from_residual-in_err-cut.result c.in_err-cut.field-0.0 _ _ c.from_residual-in_err-cut.ensures.1 c.in_err-cut.was c.cut_pages.ensures.cause c.in_ok-copy.ensures.cause.exact

-- ---- both were

pub returns-clause-copy : goal.returns-clause-copy
returns-clause-copy g c t opened =
    record {
      valid = committed_valid g.C.TreeCall.is_valid g.C.TreeCall.meaning g.met.C.TreeCall.laws c.args.core.now t (c.is_legal.ensures.book t opened);
      map = ap Some (sym c.cut_pages.ensures.unchanged ∙ c.in_ok-copy.ensures.map t opened);
    }

pub returns-clause-cut : goal.returns-clause-cut
returns-clause-cut g c t opened =
    c.in_ok-cut.ensures.tree (state_from g.C.TreeCall.meaning t c.args.core.now).tree (record {
      valid = committed_valid g.C.TreeCall.is_valid g.C.TreeCall.meaning g.met.C.TreeCall.laws c.args.core.now t (c.is_legal.ensures.book t opened);
      map = ap Some (c.in_ok-copy.ensures.map t opened);
    })
