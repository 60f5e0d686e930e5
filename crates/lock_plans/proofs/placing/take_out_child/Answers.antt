use Rattle.std.proofs.Common.{◌≡◌, None, sym, ap, ◌++◌, ◌∙◌, append-nil, refl}
use Rattle.std.proofs.lemmas.Result.{IfOk-from_err}
use Rattle.tree_model.specs.Tree.{at, next_of, prev_of}
use Rattle.dom_reads.proofs.ReplyLaws.{later}
use Rattle.lock_plans.specs.Plans.{ends, take_out}
use Rattle.lock_plans.specs.inside.PlanSteps.{takes_out}
use Rattle.lock_plans.proofs.Causes.{answer_cause, fault_cause, memory_cause}
use Rattle.lock_plans.proofs.GapLaws.{out_taken}
use Rattle.lock_plans.proofs.placing.take_out_child.Goals as goal

pub returns-in_err-left : goal.returns-in_err-left
returns-in_err-left g c = record {
  value = IfOk-from_err _ _ c.from_residual.ensures.0;
  unchanged = c.previous_sibling.ensures.unchanged;
  cause = fault_cause _ refl c.in_err-left.ensures.cause c.from_residual.ensures.1;
}

pub returns-in_err-right : goal.returns-in_err-right
returns-in_err-right g c = record {
  value = IfOk-from_err _ _ c.from_residual-in_err-right.ensures.0;
  unchanged = g.met.S.NodeRead.unchanged_onward _ _ _ c.previous_sibling.ensures.unchanged c.next_sibling.ensures.unchanged;
  cause = fault_cause _ c.in_ok-left.ensures.cause.exact c.in_err-right.ensures.cause c.from_residual-in_err-right.ensures.1;
}

pub returns-in_err-take_out : goal.returns-in_err-take_out
returns-in_err-take_out g c = record {
  value = IfOk-from_err _ _ c.from_residual-in_err-take_out.ensures.0;
  unchanged = g.met.S.NodeRead.unchanged_onward _ _ _ c.previous_sibling.ensures.unchanged c.next_sibling.ensures.unchanged;
  cause = memory_cause _ (c.in_ok-right.ensures.cause.exact ∙ c.in_ok-left.ensures.cause.exact) c.from_residual-in_err-take_out.ensures.1;
}

pub returns : goal.returns
returns g c = record {
  value = λ t stands is_there end.
      let p = c.args.at.now in
      let k = c.args.old.now in
      let left = c.in_ok-left.left in
      let right = c.in_ok-right.right in
      let now = later _ _ t (g.met.S.NodeRead.unchanged_contents _ _ c.previous_sibling.ensures.unchanged) stands in
      let left_is : left ≡ prev_of None k t.documents = c.in_ok-left.ensures.found t stands is_there in
      let right_is : right ≡ next_of (at k t.documents) = c.in_ok-right.ensures.found t now is_there in
      c.in_ok-take_out.ensures
      ∙ ap (λ v. c.args.plan ++ v) (sym (out_taken p k left right (ends end) ∙ append-nil (takes_out p k left right)))
      ∙ (λ i. c.args.plan ++ (take_out p k (left_is i) (right_is i) (ends end)).requests);
  unchanged = g.met.S.NodeRead.unchanged_onward _ _ _ c.previous_sibling.ensures.unchanged c.next_sibling.ensures.unchanged;
  cause = answer_cause _ (c.in_ok-right.ensures.cause.exact ∙ c.in_ok-left.ensures.cause.exact);
}
