use Rattle.std.proofs.Common.{◌≡◌, Some, refl, sym, ap, ◌++◌, ◌∙◌}
use Rattle.std.proofs.lemmas.Result.{IfOk-from_err}
use Rattle.tree_model.specs.declared.dom_call.DomCall.TheVariants as call
use Rattle.tree_model.specs.DomCalls.{dom}
use Rattle.tree_model.specs.Texts.{is_past}
use Rattle.tree_model.specs.Tree.{at, record_of}
use Rattle.dom_reads.proofs.ReplyLaws.{later}
use Rattle.lock_plans.specs.DomPlans.{data_of}
use Rattle.lock_plans.specs.inside.PlanSteps.{asked_by, split_end, text_data}
use Rattle.lock_plans.proofs.Causes.{answer_cause, fault_cause, rest_cause}
use Rattle.lock_plans.proofs.GapLaws.{onward}
use Rattle.lock_plans.proofs.PlanLaws.{begun, past, past_text, sees, stopped, stopped_at_text, text_there}
use Rattle.lock_plans.proofs.texts.split_text.Goals as goal

pub returns-in_err-old : goal.returns-in_err-old
returns-in_err-old g c = record {
  value = IfOk-from_err _ _ c.from_residual.ensures.0;
  unchanged = c.see_text.ensures.unchanged;
  cause = fault_cause _ refl c.in_err-old.ensures.cause c.from_residual.ensures.1;
}

pub returns-in_default : goal.returns-in_default
returns-in_default g c = record {
  value = λ t stands.
      stopped_at_text _ (at c.args.at.now t.documents) (sym c.in_default.is ∙ c.in_ok-old.ensures.found t stands) (begun _ c.new-plan.ensures c.in_ok-old.ensures.asks);
  unchanged = c.see_text.ensures.unchanged;
  cause = answer_cause _ c.in_ok-old.ensures.cause.exact;
}

pub returns-in_default-cut : goal.returns-in_default-cut
returns-in_default-cut g c = record {
  value = λ t stands.
      let l = c.args.at.now in
      let node = at l t.documents in
      let e : Some c.in-Some.old ≡ text_data (record_of node) = sym c.in-Some.is ∙ c.in_ok-old.ensures.found t stands in
      let data_is : data_of node ≡ c.as_str.result.now = (text_there node c.in-Some.old e).2 ∙ sym c.as_str.ensures.bytes in
      let w = sees l in
      let seen = begun _ c.new-plan.ensures c.in_ok-old.ensures.asks in
      past_text w _ node c.in-Some.old e (stopped _ (ap (is_past c.args.offset) data_is ∙ c.in_default-cut.ensures) seen);
  unchanged = c.see_text.ensures.unchanged;
  cause = answer_cause _ c.in_ok-old.ensures.cause.exact;
}

pub returns : goal.returns
returns g c = record {
  value = onward _ _ c.split.result _ _ (λ t stands. later _ _ t (g.met.S.NodeRead.unchanged_contents _ _ c.see_text.ensures.unchanged) stands) (λ t whole stands h.
      let l = c.args.at.now in
      let node = at l t.documents in
      let e : Some c.in-Some.old ≡ text_data (record_of node) = sym c.in-Some.is ∙ c.in_ok-old.ensures.found t stands in
      let data_is : data_of node ≡ c.as_str.result.now = (text_there node c.in-Some.old e).2 ∙ sym c.as_str.ensures.bytes in
      let w = sees l in
      let seen = begun _ c.new-plan.ensures c.in_ok-old.ensures.asks in
      let end = dom (call.SplitText l c.args.offset) t in
      let rest = asked_by (split_end l t) end in
      past_text w _ node c.in-Some.old e (past w _ (ap (is_past c.args.offset) data_is ∙ c.in-Some-cut.ensures.0) (h (text_there node c.in-Some.old e).0 end ∙ ap (λ v. v ++ rest) seen))) c.split.ensures.value;
  unchanged = g.met.S.NodeRead.unchanged_onward _ _ _ c.see_text.ensures.unchanged c.split.ensures.unchanged;
  cause = rest_cause _ c.in_ok-old.ensures.cause.exact c.split.ensures.cause;
}
