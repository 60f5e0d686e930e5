use Rattle.std.proofs.Common.{◌≡◌, true, false, Some, [], ◌&&◌, if◌then◌else◌, not, sym, ap, ◌++◌, ◌∙◌, refl}
use Rattle.std.proofs.lemmas.Result.{IfOk-from_err}
use Rattle.dewey_labels.specs.Labels.{parent}
use Rattle.dewey_labels.proofs.Codes.{second_of_both}
use Rattle.tree_model.specs.declared.dom_call.DomCall.TheVariants as call
use Rattle.tree_model.specs.DomCalls.{dom}
use Rattle.tree_model.specs.Fragments.{is_text_fragment, plain}
use Rattle.tree_model.specs.Placing.{has_child}
use Rattle.tree_model.specs.StoredTree.{is_document_record}
use Rattle.tree_model.specs.Tree.{at, found, record_of}
use Rattle.tree_model.specs.ValidTrees.{same_label}
use Rattle.dom_reads.proofs.ReplyLaws.{later}
use Rattle.dom_reads.proofs.StepLaws.{root_not_found}
use Rattle.lock_plans.specs.inside.PlanSteps.{asked_by, insert_end, remove_end, replace_end}
use Rattle.lock_plans.proofs.Causes.{answer_cause, fault_cause, rest_cause}
use Rattle.lock_plans.proofs.GapLaws.{onward, past_child, stopped_at_child}
use Rattle.lock_plans.proofs.PlanLaws.{begun, document_is, grown, not_there, past, sees, stopped, text_is, there}
use Rattle.lock_plans.proofs.placing.replace.Goals as goal

pub returns-in_err-found : goal.returns-in_err-found
returns-in_err-found g c = record {
  value = IfOk-from_err _ _ c.from_residual.ensures.0;
  unchanged = c.see.ensures.unchanged;
  cause = fault_cause _ refl c.in_err-found.ensures.cause c.from_residual.ensures.1;
}

pub returns-in_default : goal.returns-in_default
returns-in_default g c = record {
  value = λ t stands.
      stopped _ (ap not (not_there (at c.args.at.now t.documents) (sym c.in_default.is ∙ c.in_ok-found.ensures.found t stands))) (begun _ c.new-plan.ensures c.in_ok-found.ensures.asks);
  unchanged = c.see.ensures.unchanged;
  cause = answer_cause _ c.in_ok-found.ensures.cause.exact;
}

pub returns-in_err-see_child : goal.returns-in_err-see_child
returns-in_err-see_child g c = record {
  value = IfOk-from_err _ _ c.from_residual-in_err-see_child.ensures.0;
  unchanged = g.met.S.NodeRead.unchanged_onward _ _ _ c.see.ensures.unchanged c.see_child.ensures.unchanged;
  cause = fault_cause _ c.in_ok-found.ensures.cause.exact c.in_err-see_child.ensures.cause c.from_residual-in_err-see_child.ensures.1;
}

pub returns-then-not-branch : goal.returns-then-not-branch
returns-then-not-branch g c = record {
  value = λ t stands.
      let l = c.args.at.now in
      let k = c.args.old.now in
      let node = at l t.documents in
      let e : Some c.in-Some.found ≡ record_of node = sym c.in-Some.is ∙ c.in_ok-found.ensures.found t stands in
      let is_there = there node c.in-Some.found e in
      let below_root = root_not_found l t stands.valid is_there in
      let w = sees l in
      let seen = begun _ c.new-plan.ensures c.in_ok-found.ensures.asks in
      let now = later _ _ t (g.met.S.NodeRead.unchanged_contents _ _ c.see.ensures.unchanged) stands in
      let child : has_child l k t ≡ false = sym (c.in_ok-see_child.ensures.found t now below_root) ∙ c.if-not-branch.true in
      let s = same_label (parent k) l in
      let f = found (at k t.documents) in
      let asked = grown _ seen (c.in_ok-see_child.ensures.asks below_root) in
      past w _ (ap not is_there) (stopped_at_child s f w (sees k) _ child asked);
  unchanged = g.met.S.NodeRead.unchanged_onward _ _ _ c.see.ensures.unchanged c.see_child.ensures.unchanged;
  cause = answer_cause _ (c.in_ok-see_child.ensures.cause.exact ∙ c.in_ok-found.ensures.cause.exact);
}

pub returns-then-is_text_in_document : goal.returns-then-is_text_in_document
returns-then-is_text_in_document g c = record {
  value = λ t stands.
      let l = c.args.at.now in
      let k = c.args.old.now in
      let node = at l t.documents in
      let e : Some c.in-Some.found ≡ record_of node = sym c.in-Some.is ∙ c.in_ok-found.ensures.found t stands in
      let is_there = there node c.in-Some.found e in
      let below_root = root_not_found l t stands.valid is_there in
      let w = sees l in
      let seen = begun _ c.new-plan.ensures c.in_ok-found.ensures.asks in
      let now = later _ _ t (g.met.S.NodeRead.unchanged_contents _ _ c.see.ensures.unchanged) stands in
      let child : has_child l k t ≡ true = sym (c.in_ok-see_child.ensures.found t now below_root) ∙ c.if-not-branch.false in
      let s = same_label (parent k) l in
      let f = found (at k t.documents) in
      let asked = grown _ seen (c.in_ok-see_child.ensures.asks below_root) in
      let document = (λ i. sym (document_is node) i) ∙ ap is_document_record (sym e) in
      let room = ap (λ b. b && is_text_fragment (plain c.args.fragment.now)) document ∙ sym c.is_text_in_document.ensures ∙ c.if-is_text_in_document.true in
      past w _ (ap not is_there) (past_child s f w (sees k) _ child (stopped _ room asked));
  unchanged = g.met.S.NodeRead.unchanged_onward _ _ _ c.see.ensures.unchanged c.see_child.ensures.unchanged;
  cause = answer_cause _ (c.in_ok-see_child.ensures.cause.exact ∙ c.in_ok-found.ensures.cause.exact);
}

pub returns : goal.returns
returns g c = record {
  value = onward _ _ c.replace_child.result _ _ (λ t stands. later _ _ t (g.met.S.NodeRead.unchanged_contents _ _ c.see_child.ensures.unchanged) (later _ _ t (g.met.S.NodeRead.unchanged_contents _ _ c.see.ensures.unchanged) stands)) (λ t whole stands h.
      let l = c.args.at.now in
      let k = c.args.old.now in
      let node = at l t.documents in
      let e : Some c.in-Some.found ≡ record_of node = sym c.in-Some.is ∙ c.in_ok-found.ensures.found t stands in
      let is_there = there node c.in-Some.found e in
      let below_root = root_not_found l t stands.valid is_there in
      let w = sees l in
      let seen = begun _ c.new-plan.ensures c.in_ok-found.ensures.asks in
      let now = later _ _ t (g.met.S.NodeRead.unchanged_contents _ _ c.see.ensures.unchanged) stands in
      let child : has_child l k t ≡ true = sym (c.in_ok-see_child.ensures.found t now below_root) ∙ c.if-not-branch.false in
      let s = same_label (parent k) l in
      let f = found (at k t.documents) in
      let asked = grown _ seen (c.in_ok-see_child.ensures.asks below_root) in
      let document = (λ i. sym (document_is node) i) ∙ ap is_document_record (sym e) in
      let room = ap (λ b. b && is_text_fragment (plain c.args.fragment.now)) document ∙ sym c.is_text_in_document.ensures ∙ c.if-is_text_in_document.false in
      let end = dom (call.Replace l k c.args.fragment.now) t in
      let rest = asked_by (replace_end l k (plain c.args.fragment.now) t) end in
      past w _ (ap not is_there) (past_child s f w (sees k) _ child (past (w ++ (if s then sees k else [])) _ room (h (second_of_both s f child) end ∙ ap (λ v. v ++ rest) asked)))) c.replace_child.ensures.value;
  unchanged = g.met.S.NodeRead.unchanged_onward _ _ _ (g.met.S.NodeRead.unchanged_onward _ _ _ c.see.ensures.unchanged c.see_child.ensures.unchanged) c.replace_child.ensures.unchanged;
  cause = rest_cause _ (c.in_ok-see_child.ensures.cause.exact ∙ c.in_ok-found.ensures.cause.exact) c.replace_child.ensures.cause;
}
