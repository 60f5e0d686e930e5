use Rattle.std.proofs.Common.{◌≡◌, true, None, Some, is_some, not, sym, ap, ◌++◌, ◌∙◌, refl}
use Rattle.std.proofs.lemmas.Result.{IfOk-from_err}
use Rattle.dewey_labels.specs.Labels.{root}
use Rattle.lock_modes.specs.declared.mode.Mode.TheVariants.{NR, SX}
use Rattle.tree_model.specs.declared.dom_call.DomCall.TheVariants as call
use Rattle.tree_model.specs.DomCalls.{dom}
use Rattle.tree_model.specs.Tree.{at, beside, next_of, prev_of}
use Rattle.tree_changes.proofs.DocumentLaws.{dropped_there}
use Rattle.dom_reads.proofs.ReplyLaws.{later}
use Rattle.lock_plans.specs.Plans.{ends, take_out}
use Rattle.lock_plans.specs.DomPlans.{take_document}
use Rattle.lock_plans.proofs.Causes.{answer_cause, fault_cause, memory_cause, rest_cause}
use Rattle.lock_plans.proofs.GapLaws.{onward}
use Rattle.lock_plans.proofs.PlanLaws.{attribute_asks, begun, grown, joined, past, stopped}
use Rattle.lock_plans.proofs.documents.drop_document.Goals as goal

pub returns-in_err-root : goal.returns-in_err-root
returns-in_err-root g c = record {
  value = IfOk-from_err _ _ c.from_residual.ensures.0;
  unchanged = g.met.S.NodeRead.unchanged_itself _;
  cause = memory_cause _ refl c.from_residual.ensures.1;
}

pub returns-in_err-read_attribute : goal.returns-in_err-read_attribute
returns-in_err-read_attribute g c = record {
  value = IfOk-from_err _ _ c.from_residual-in_err-read_attribute.ensures.0;
  unchanged = g.met.S.NodeRead.unchanged_itself _;
  cause = memory_cause _ refl c.from_residual-in_err-read_attribute.ensures.1;
}

pub returns-in_err-document : goal.returns-in_err-document
returns-in_err-document g c = record {
  value = IfOk-from_err _ _ c.from_residual-in_err-document.ensures.0;
  unchanged = c.document_named.ensures.unchanged;
  cause = fault_cause _ refl c.in_err-document.ensures.cause c.from_residual-in_err-document.ensures.1;
}

pub returns-in_default : goal.returns-in_default
returns-in_default g c = record {
  value = λ t stands.
      let n = c.args.name.now in
      let none : beside n t.catalogue ≡ None = sym (c.in_ok-document.ensures.found t stands) ∙ c.in_default.is in
      stopped _ (ap not (ap is_some none)) (begun _ c.new-plan.ensures c.in_ok-read_attribute.ensures ∙ ap (λ l. attribute_asks l n NR) c.in_ok-root.ensures);
  unchanged = c.document_named.ensures.unchanged;
  cause = answer_cause _ c.in_ok-document.ensures.cause.exact;
}

pub returns-in_err-take_attribute : goal.returns-in_err-take_attribute
returns-in_err-take_attribute g c = record {
  value = IfOk-from_err _ _ c.from_residual-in_err-take_attribute.ensures.0;
  unchanged = c.document_named.ensures.unchanged;
  cause = memory_cause _ c.in_ok-document.ensures.cause.exact c.from_residual-in_err-take_attribute.ensures.1;
}

pub returns : goal.returns
returns g c = record {
  value = onward _ _ c.take_out_child.result _ _ (λ t stands. later _ _ t (g.met.S.NodeRead.unchanged_contents _ _ c.document_named.ensures.unchanged) stands) (λ t whole stands h.
      let n = c.args.name.now in
      let l = c.in-Some.document in
      let is = c.in_ok-root.ensures in
      let e : beside n t.catalogue ≡ Some l = sym (c.in_ok-document.ensures.found t stands) ∙ c.in-Some.is in
      let r = attribute_asks root n NR in
      let x = attribute_asks root n SX in
      let asked = grown _ (begun _ c.new-plan.ensures c.in_ok-read_attribute.ensures) c.in_ok-take_attribute.ensures ∙ (λ i. attribute_asks (is i) n NR ++ attribute_asks (is i) n SX) in
      let end = dom (call.Drop n) t in
      let left = prev_of None l t.documents in
      let right = next_of (at l t.documents) in
      past r _ (ap not (ap is_some e)) (joined r x _
      (h (dropped_there n t l stands.valid e) end
      ∙ (λ i. asked i ++ (take_out (is i) l left right (ends end)).requests)
      ∙ ap (λ o. (r ++ x) ++ (take_document o t (ends end)).requests) (sym e)))) c.take_out_child.ensures.value;
  unchanged = g.met.S.NodeRead.unchanged_onward _ _ _ c.document_named.ensures.unchanged c.take_out_child.ensures.unchanged;
  cause = rest_cause _ c.in_ok-document.ensures.cause.exact c.take_out_child.ensures.cause;
}
