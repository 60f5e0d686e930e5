use Rattle.std.proofs.Common.{[], take, take_all, sym, ap, subst, ◌∙◌}
use Rattle.std.specs.List.{AllByRecursion}
use Rattle.tree_model.proofs.ChangeLists.{all_of_laid}
use Rattle.overlays.specs.Stretches.{IsOut}
use Rattle.overlays.specs.inside.Runs.{all_laid, joint}
use Rattle.overlays.proofs.Laying.{all_laid_next}
use Rattle.overlays.proofs.StretchLaws.{all_out_within}
use Rattle.overlays.proofs.gaps.Gaps.forget_puts.Goals as goal

pub loop-run-preserved : goal.loop-run-preserved
loop-run-preserved c =
    let runs = c.runs-run-items.result.now in
    let so_far = all_laid [] (take c.loop-run.run-index runs) in
    record {
      within = λ j h. c.loop-run.invariant.within j (c.forget_run.ensures.within j h);
      out = subst (AllByRecursion (IsOut c.forget_run.new.self)) (sym (all_laid_next c.run-item.result [] runs c.loop-run.run-index c.loop-run-test.true c.run-item.is))
          (all_of_laid (IsOut c.forget_run.new.self) c.run-item.result so_far c.forget_run.ensures.out (all_out_within so_far _ _ c.forget_run.ensures.within c.loop-run.invariant.out));
    }

pub returns-clause-out : goal.returns-clause-out
returns-clause-out c =
    subst (AllByRecursion (IsOut c.loop-run.self)) (ap joint (take_all c.loop-run.run-index c.runs-run-items.result.now c.loop-run-test.false) ∙ c.runs-run-items.ensures.changes) c.loop-run.invariant.out
