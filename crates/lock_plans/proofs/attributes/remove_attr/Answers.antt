use Rattle.std.proofs.Common.{◌≡◌, true, false, not, is_some, sym, ap, ◌++◌, ◌∙◌, refl}
use Rattle.std.proofs.lemmas.Result.{IfOk-from_err}
use Rattle.lock_modes.specs.declared.mode.Mode.TheVariants.{NR, SX}
use Rattle.tree_model.specs.NodeKinds.{is_element}
use Rattle.tree_model.specs.Tree.{at, attributes_of, beside}
use Rattle.tree_model.proofs.PlaceLaws.{not_root}
use Rattle.dom_reads.proofs.ReplyLaws.{later}
use Rattle.dom_reads.proofs.StepLaws.{attributes_there}
use Rattle.lock_plans.proofs.Causes.{answer_cause, fault_cause, memory_cause}
use Rattle.lock_plans.proofs.PlanLaws.{attribute_asks, begun, element_there, ended, grown, joined, past, past_element, sees, stopped, stopped_at_element}
use Rattle.lock_plans.proofs.attributes.remove_attr.Goals as goal

pub returns-in_err-see_element : goal.returns-in_err-see_element
returns-in_err-see_element g c = record {
  value = IfOk-from_err _ _ c.from_residual.ensures.0;
  unchanged = c.see_element.ensures.unchanged;
  cause = fault_cause _ refl c.in_err-see_element.ensures.cause c.from_residual.ensures.1;
}

pub returns-then-not-branch : goal.returns-then-not-branch
returns-then-not-branch g c = record {
  value = λ t stands.
      stopped_at_element _ (at c.args.at.now t.documents) (sym (c.in_ok-see_element.ensures.found t stands) ∙ c.if-not-branch.true) (begun _ c.new-plan.ensures c.in_ok-see_element.ensures.asks);
  unchanged = c.see_element.ensures.unchanged;
  cause = answer_cause _ c.in_ok-see_element.ensures.cause.exact;
}

pub returns-then-not-is_name : goal.returns-then-not-is_name
returns-then-not-is_name g c = record {
  value = λ t stands.
      let l = c.args.at.now in
      let node = at l t.documents in
      let kind : is_element node ≡ true = sym (c.in_ok-see_element.ensures.found t stands) ∙ c.if-not-branch.false in
      let w = sees l in
      let seen = begun _ c.new-plan.ensures c.in_ok-see_element.ensures.asks in
      let no_name = sym c.is_name.ensures.exact ∙ c.if-not-is_name.true in
      past_element w _ node kind (stopped _ (ap not no_name) seen);
  unchanged = c.see_element.ensures.unchanged;
  cause = answer_cause _ c.in_ok-see_element.ensures.cause.exact;
}

pub returns-in_err-read_attribute : goal.returns-in_err-read_attribute
returns-in_err-read_attribute g c = record {
  value = IfOk-from_err _ _ c.from_residual-in_err-read_attribute.ensures.0;
  unchanged = c.see_element.ensures.unchanged;
  cause = memory_cause _ c.in_ok-see_element.ensures.cause.exact c.from_residual-in_err-read_attribute.ensures.1;
}

pub returns-in_err-attribute_at : goal.returns-in_err-attribute_at
returns-in_err-attribute_at g c = record {
  value = IfOk-from_err _ _ c.from_residual-in_err-attribute_at.ensures.0;
  unchanged = g.met.S.NodeRead.unchanged_onward _ _ _ c.see_element.ensures.unchanged c.attribute_at.ensures.unchanged;
  cause = fault_cause _ c.in_ok-see_element.ensures.cause.exact c.in_err-attribute_at.ensures.cause c.from_residual-in_err-attribute_at.ensures.1;
}

pub returns-then-is_none : goal.returns-then-is_none
returns-then-is_none g c = record {
  value = λ t stands.
      let l = c.args.at.now in
      let node = at l t.documents in
      let kind : is_element node ≡ true = sym (c.in_ok-see_element.ensures.found t stands) ∙ c.if-not-branch.false in
      let w = sees l in
      let seen = begun _ c.new-plan.ensures c.in_ok-see_element.ensures.asks in
      let name = sym c.is_name.ensures.exact ∙ c.if-not-is_name.false in
      let now = later _ _ t (g.met.S.NodeRead.unchanged_contents _ _ c.see_element.ensures.unchanged) stands in
      let n = c.args.name.now in
      let value = c.in_ok-attribute_at.ensures.found t now ∙ ap (beside n) (attributes_there l t (not_root l t stands.valid (element_there node kind))) in
      let r = attribute_asks l n NR in
      let asked = grown _ seen c.in_ok-read_attribute.ensures in
      let none = sym (ap is_some value) ∙ c.is_none.ensures ∙ ap not c.if-is_none.true in
      past_element w _ node kind (past w _ (ap not name) (joined w r _ (stopped _ (ap not none) asked)));
  unchanged = g.met.S.NodeRead.unchanged_onward _ _ _ c.see_element.ensures.unchanged c.attribute_at.ensures.unchanged;
  cause = answer_cause _ (c.in_ok-attribute_at.ensures.cause.exact ∙ c.in_ok-see_element.ensures.cause.exact);
}

pub returns-in_err-take_attribute : goal.returns-in_err-take_attribute
returns-in_err-take_attribute g c = record {
  value = IfOk-from_err _ _ c.from_residual-in_err-take_attribute.ensures.0;
  unchanged = g.met.S.NodeRead.unchanged_onward _ _ _ c.see_element.ensures.unchanged c.attribute_at.ensures.unchanged;
  cause = memory_cause _ (c.in_ok-attribute_at.ensures.cause.exact ∙ c.in_ok-see_element.ensures.cause.exact) c.from_residual-in_err-take_attribute.ensures.1;
}

pub returns : goal.returns
returns g c = record {
  value = λ t stands.
      let l = c.args.at.now in
      let node = at l t.documents in
      let kind : is_element node ≡ true = sym (c.in_ok-see_element.ensures.found t stands) ∙ c.if-not-branch.false in
      let w = sees l in
      let seen = begun _ c.new-plan.ensures c.in_ok-see_element.ensures.asks in
      let name = sym c.is_name.ensures.exact ∙ c.if-not-is_name.false in
      let now = later _ _ t (g.met.S.NodeRead.unchanged_contents _ _ c.see_element.ensures.unchanged) stands in
      let n = c.args.name.now in
      let value = c.in_ok-attribute_at.ensures.found t now ∙ ap (beside n) (attributes_there l t (not_root l t stands.valid (element_there node kind))) in
      let r = attribute_asks l n NR in
      let asked = grown _ seen c.in_ok-read_attribute.ensures in
      let some = sym (ap is_some value) ∙ c.is_none.ensures ∙ ap not c.if-is_none.false in
      past_element w _ node kind (past w _ (ap not name) (joined w r _ (past (w ++ r) _ (ap not some) (joined (w ++ r) (attribute_asks l n SX) _ (ended (grown _ asked c.in_ok-take_attribute.ensures))))));
  unchanged = g.met.S.NodeRead.unchanged_onward _ _ _ c.see_element.ensures.unchanged c.attribute_at.ensures.unchanged;
  cause = answer_cause _ (c.in_ok-attribute_at.ensures.cause.exact ∙ c.in_ok-see_element.ensures.cause.exact);
}
