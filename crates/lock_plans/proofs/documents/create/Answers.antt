use Rattle.std.proofs.Common.{◌≡◌, true, [], None, Some, is_some, nat_lt, ◌+◌, not, sym, ap, ◌++◌, ◌∙◌, refl}
use Rattle.std.proofs.lemmas.Result.{IfOk-from_err}
use Rattle.dewey_labels.specs.Labels.{root}
use Rattle.lock_modes.specs.declared.mode.Mode.TheVariants.{NR, SX}
use Rattle.tree_model.specs.declared.dom_call.DomCall.TheVariants as call
use Rattle.tree_model.specs.DomCalls.{dom}
use Rattle.tree_model.specs.Fragments.{depth, is_text_fragment, plain_or_none}
use Rattle.tree_model.specs.Limits.{deepest_level}
use Rattle.dom_reads.proofs.ReplyLaws.{later}
use Rattle.lock_plans.specs.inside.PlanSteps.{asked_by, create_end}
use Rattle.lock_plans.proofs.Causes.{answer_cause, fault_cause, memory_cause, rest_cause}
use Rattle.lock_plans.proofs.GapLaws.{onward}
use Rattle.lock_plans.proofs.PlanLaws.{attribute_asks, begun, grown, joined, past, stopped}
use Rattle.lock_plans.proofs.documents.create.Goals as goal

pub returns-then-not-is_name : goal.returns-then-not-is_name
returns-then-not-is_name g c = record {
  value = λ t stands. stopped _ (ap not (sym c.is_name.ensures.exact ∙ c.if-not-is_name.true)) c.new-plan.ensures;
  unchanged = g.met.S.NodeRead.unchanged_itself _;
  cause = answer_cause _ refl;
}

pub returns-then-is_text_document : goal.returns-then-is_text_document
returns-then-is_text_document g c = record {
  value = λ t stands.
      past [] _ (ap not (sym c.is_name.ensures.exact ∙ c.if-not-is_name.false)) (stopped _ (sym (c.is_text_document.ensures ∙ ap (λ o. is_text_fragment (plain_or_none o)) c.as_ref.ensures.value) ∙ c.if-is_text_document.true) c.new-plan.ensures);
  unchanged = g.met.S.NodeRead.unchanged_itself _;
  cause = answer_cause _ refl;
}

pub returns-in_err-root : goal.returns-in_err-root
returns-in_err-root g c = record {
  value = IfOk-from_err _ _ c.from_residual.ensures.0;
  unchanged = g.met.S.NodeRead.unchanged_itself _;
  cause = memory_cause _ refl c.from_residual.ensures.1;
}

pub returns-in_err-read_attribute : goal.returns-in_err-read_attribute
returns-in_err-read_attribute g c = record {
  value = IfOk-from_err _ _ c.from_residual-in_err-read_attribute.ensures.0;
  unchanged = g.met.S.NodeRead.unchanged_itself _;
  cause = memory_cause _ refl c.from_residual-in_err-read_attribute.ensures.1;
}

pub returns-in_err-document_named : goal.returns-in_err-document_named
returns-in_err-document_named g c = record {
  value = IfOk-from_err _ _ c.from_residual-in_err-document_named.ensures.0;
  unchanged = c.document_named.ensures.unchanged;
  cause = fault_cause _ refl c.in_err-document_named.ensures.cause c.from_residual-in_err-document_named.ensures.1;
}

pub returns-then-is_some : goal.returns-then-is_some
returns-then-is_some g c = record {
  value = λ t stands.
      let n = c.args.name.now in
      let name = sym c.is_name.ensures.exact ∙ c.if-not-is_name.false in
      let element = sym (c.is_text_document.ensures ∙ ap (λ o. is_text_fragment (plain_or_none o)) c.as_ref.ensures.value) ∙ c.if-is_text_document.false in
      let there = sym (ap is_some (c.in_ok-document_named.ensures.found t stands)) ∙ sym c.is_some.ensures ∙ c.if-is_some.true in
      let r = attribute_asks root n NR in
      let asked = begun _ c.new-plan.ensures c.in_ok-read_attribute.ensures ∙ ap (λ l. attribute_asks l n NR) c.in_ok-root.ensures in
      past [] _ (ap not name) (past [] _ element (joined [] r _ (stopped _ there asked)));
  unchanged = c.document_named.ensures.unchanged;
  cause = answer_cause _ c.in_ok-document_named.ensures.cause.exact;
}

pub returns-then-is_too_deep_document : goal.returns-then-is_too_deep_document
returns-then-is_too_deep_document g c = record {
  value = λ t stands.
      let n = c.args.name.now in
      let name = sym c.is_name.ensures.exact ∙ c.if-not-is_name.false in
      let element = sym (c.is_text_document.ensures ∙ ap (λ o. is_text_fragment (plain_or_none o)) c.as_ref.ensures.value) ∙ c.if-is_text_document.false in
      let there = sym (ap is_some (c.in_ok-document_named.ensures.found t stands)) ∙ sym c.is_some.ensures ∙ c.if-is_some.false in
      let r = attribute_asks root n NR in
      let asked = begun _ c.new-plan.ensures c.in_ok-read_attribute.ensures ∙ ap (λ l. attribute_asks l n NR) c.in_ok-root.ensures in
      past [] _ (ap not name) (past [] _ element (joined [] r _ (past r _ there (stopped _ (sym (c.is_too_deep_document.ensures ∙ ap (λ o. nat_lt deepest_level (1 + depth (plain_or_none o))) c.as_ref-2.ensures.value) ∙ c.if-is_too_deep_document.true) asked))));
  unchanged = c.document_named.ensures.unchanged;
  cause = answer_cause _ c.in_ok-document_named.ensures.cause.exact;
}

pub returns-in_err-take_attribute : goal.returns-in_err-take_attribute
returns-in_err-take_attribute g c = record {
  value = IfOk-from_err _ _ c.from_residual-in_err-take_attribute.ensures.0;
  unchanged = c.document_named.ensures.unchanged;
  cause = memory_cause _ c.in_ok-document_named.ensures.cause.exact c.from_residual-in_err-take_attribute.ensures.1;
}

pub returns : goal.returns
returns g c = record {
  value = onward _ _ c.place_document.result _ _ (λ t stands. later _ _ t (g.met.S.NodeRead.unchanged_contents _ _ c.document_named.ensures.unchanged) stands) (λ t whole stands h.
      let n = c.args.name.now in
      let is = c.in_ok-root.ensures in
      let name = sym c.is_name.ensures.exact ∙ c.if-not-is_name.false in
      let element = sym (c.is_text_document.ensures ∙ ap (λ o. is_text_fragment (plain_or_none o)) c.as_ref.ensures.value) ∙ c.if-is_text_document.false in
      let there = sym (ap is_some (c.in_ok-document_named.ensures.found t stands)) ∙ sym c.is_some.ensures ∙ c.if-is_some.false in
      let shallow = sym (c.is_too_deep_document.ensures ∙ ap (λ o. nat_lt deepest_level (1 + depth (plain_or_none o))) c.as_ref-2.ensures.value) ∙ c.if-is_too_deep_document.false in
      let r = attribute_asks root n NR in
      let x = attribute_asks root n SX in
      let asked = grown _ (begun _ c.new-plan.ensures c.in_ok-read_attribute.ensures) c.in_ok-take_attribute.ensures ∙ (λ i. attribute_asks (is i) n NR ++ attribute_asks (is i) n SX) in
      let end = dom (call.Create n c.args.fragment.now) t in
      let rest = asked_by (create_end (plain_or_none c.args.fragment.now) t) end in
      past [] _ (ap not name) (past [] _ element (joined [] r _ (past r _ there (past r _ shallow (joined r x _ (h end ∙ ap (λ v. v ++ rest) asked))))))) c.place_document.ensures.value;
  unchanged = g.met.S.NodeRead.unchanged_onward _ _ _ c.document_named.ensures.unchanged c.place_document.ensures.unchanged;
  cause = rest_cause _ c.in_ok-document_named.ensures.cause.exact c.place_document.ensures.cause;
}
