use Rattle.std.proofs.Common.{◌≡◌, Some, is_some, not, refl, sym, ap, ◌++◌, ◌∙◌}
use Rattle.std.proofs.lemmas.Result.{IfOk-from_err}
use Rattle.lock_modes.specs.declared.edge_mode.EdgeMode.TheVariants.{ER}
use Rattle.lock_resources.specs.declared.resource.Side.TheVariants.{First}
use Rattle.tree_model.specs.declared.dom_call.DomCall.TheVariants as call
use Rattle.tree_model.specs.DomCalls.{dom}
use Rattle.tree_model.specs.Fragments.{plain}
use Rattle.tree_model.specs.StoredTree.{is_document_record}
use Rattle.tree_model.specs.Tree.{at, head_label, record_of}
use Rattle.tree_model.specs.NodeKinds.{is_text_record}
use Rattle.tree_model.proofs.PlaceLaws.{not_root}
use Rattle.dom_reads.proofs.ReplyLaws.{later}
use Rattle.dom_reads.proofs.StepLaws.{row_of}
use Rattle.lock_plans.specs.inside.PlanSteps.{append_end, asked_by}
use Rattle.lock_plans.proofs.Causes.{answer_cause, fault_cause, memory_cause, rest_cause}
use Rattle.lock_plans.proofs.GapLaws.{one_way, onward, other_way}
use Rattle.lock_plans.proofs.PlanLaws.{begun, document_is, edge_asks, ended, grown, joined, not_there, past, sees, stopped, text_is, there}
use Rattle.lock_plans.proofs.placing.append.Goals as goal

pub returns-in_err-found : goal.returns-in_err-found
returns-in_err-found g c = record {
  append = IfOk-from_err _ _ c.from_residual.ensures.0;
  insert = IfOk-from_err _ _ c.from_residual.ensures.0;
  unchanged = c.see.ensures.unchanged;
  cause = fault_cause _ refl c.in_err-found.ensures.cause c.from_residual.ensures.1;
}

pub returns-in_default-clause-append : goal.returns-in_default-clause-append
returns-in_default-clause-append g c = λ t stands.
    stopped _ (ap not (not_there (at c.args.at.now t.documents) (sym c.in_default.is ∙ c.in_ok-found.ensures.found t stands))) (begun _ c.new-plan.ensures c.in_ok-found.ensures.asks)

pub returns-in_default-clause-insert : goal.returns-in_default-clause-insert
returns-in_default-clause-insert g c = returns-in_default-clause-append g c

pub returns-in_default-clause-unchanged : goal.returns-in_default-clause-unchanged
returns-in_default-clause-unchanged g c = c.see.ensures.unchanged

pub returns-in_default-clause-cause : goal.returns-in_default-clause-cause
returns-in_default-clause-cause g c = answer_cause _ c.in_ok-found.ensures.cause.exact

pub returns-then-is_text-clause-append : goal.returns-then-is_text-clause-append
returns-then-is_text-clause-append g c = λ t stands.
    let l = c.args.at.now in
    let node = at l t.documents in
    let e : Some c.in-Some.found ≡ record_of node = sym c.in-Some.is ∙ c.in_ok-found.ensures.found t stands in
    let is_there = there node c.in-Some.found e in
    let w = sees l in
    let seen = begun _ c.new-plan.ensures c.in_ok-found.ensures.asks in
    let text = sym (text_is node) ∙ ap is_text_record (sym e) ∙ sym c.is_text.ensures ∙ c.if-is_text.true in
    past w _ (ap not is_there) (stopped _ text seen)

pub returns-then-is_text-clause-insert : goal.returns-then-is_text-clause-insert
returns-then-is_text-clause-insert g c = returns-then-is_text-clause-append g c

pub returns-then-is_text-clause-unchanged : goal.returns-then-is_text-clause-unchanged
returns-then-is_text-clause-unchanged g c = c.see.ensures.unchanged

pub returns-then-is_text-clause-cause : goal.returns-then-is_text-clause-cause
returns-then-is_text-clause-cause g c = answer_cause _ c.in_ok-found.ensures.cause.exact

pub returns-then-not-is_document-clause-append : goal.returns-then-not-is_document-clause-append
returns-then-not-is_document-clause-append g c =
    onward _ _ c.append_last.result _ _ (λ t stands. later _ _ t (g.met.S.NodeRead.unchanged_contents _ _ c.see.ensures.unchanged) stands) (λ t whole stands h.
    let l = c.args.at.now in
    let node = at l t.documents in
    let e : Some c.in-Some.found ≡ record_of node = sym c.in-Some.is ∙ c.in_ok-found.ensures.found t stands in
    let is_there = there node c.in-Some.found e in
    let w = sees l in
    let seen = begun _ c.new-plan.ensures c.in_ok-found.ensures.asks in
    let text = sym (text_is node) ∙ ap is_text_record (sym e) ∙ sym c.is_text.ensures ∙ c.if-is_text.false in
    let document = sym (document_is node) ∙ ap is_document_record (sym e) ∙ sym c.is_document.ensures ∙ c.if-not-is_document.true in
    let end = dom (call.Append l c.args.fragment.now) t in
    let rest = asked_by (append_end l (plain c.args.fragment.now) t) end in
    past w _ (ap not is_there) (past w _ text (other_way w _ rest document (h is_there end ∙ ap (λ v. v ++ rest) seen)))) c.append_last.ensures.value

pub returns-then-not-is_document-clause-insert : goal.returns-then-not-is_document-clause-insert
returns-then-not-is_document-clause-insert g c = returns-then-not-is_document-clause-append g c

pub returns-then-not-is_document-clause-unchanged : goal.returns-then-not-is_document-clause-unchanged
returns-then-not-is_document-clause-unchanged g c = g.met.S.NodeRead.unchanged_onward _ _ _ c.see.ensures.unchanged c.append_last.ensures.unchanged

pub returns-then-not-is_document-clause-cause : goal.returns-then-not-is_document-clause-cause
returns-then-not-is_document-clause-cause g c = rest_cause _ c.in_ok-found.ensures.cause.exact c.append_last.ensures.cause

pub returns-then-is_text-2-clause-append : goal.returns-then-is_text-2-clause-append
returns-then-is_text-2-clause-append g c = λ t stands.
    let l = c.args.at.now in
    let node = at l t.documents in
    let e : Some c.in-Some.found ≡ record_of node = sym c.in-Some.is ∙ c.in_ok-found.ensures.found t stands in
    let is_there = there node c.in-Some.found e in
    let w = sees l in
    let seen = begun _ c.new-plan.ensures c.in_ok-found.ensures.asks in
    let text = sym (text_is node) ∙ ap is_text_record (sym e) ∙ sym c.is_text.ensures ∙ c.if-is_text.false in
    let document = sym (document_is node) ∙ ap is_document_record (sym e) ∙ sym c.is_document.ensures ∙ c.if-not-is_document.false in
    past w _ (ap not is_there) (past w _ text (one_way w _ _ document (stopped _ (sym c.is_text-2.ensures ∙ c.if-is_text-2.true) seen)))

pub returns-then-is_text-2-clause-insert : goal.returns-then-is_text-2-clause-insert
returns-then-is_text-2-clause-insert g c = returns-then-is_text-2-clause-append g c

pub returns-then-is_text-2-clause-unchanged : goal.returns-then-is_text-2-clause-unchanged
returns-then-is_text-2-clause-unchanged g c = c.see.ensures.unchanged

pub returns-then-is_text-2-clause-cause : goal.returns-then-is_text-2-clause-cause
returns-then-is_text-2-clause-cause g c = answer_cause _ c.in_ok-found.ensures.cause.exact

pub returns-in_err-read_edge : goal.returns-in_err-read_edge
returns-in_err-read_edge g c = record {
  append = IfOk-from_err _ _ c.from_residual-in_err-read_edge.ensures.0;
  insert = IfOk-from_err _ _ c.from_residual-in_err-read_edge.ensures.0;
  unchanged = c.see.ensures.unchanged;
  cause = memory_cause _ c.in_ok-found.ensures.cause.exact c.from_residual-in_err-read_edge.ensures.1;
}

pub returns-in_err-first_child : goal.returns-in_err-first_child
returns-in_err-first_child g c = record {
  append = IfOk-from_err _ _ c.from_residual-in_err-first_child.ensures.0;
  insert = IfOk-from_err _ _ c.from_residual-in_err-first_child.ensures.0;
  unchanged = g.met.S.NodeRead.unchanged_onward _ _ _ c.see.ensures.unchanged c.first_child.ensures.unchanged;
  cause = fault_cause _ c.in_ok-found.ensures.cause.exact c.in_err-first_child.ensures.cause c.from_residual-in_err-first_child.ensures.1;
}

pub returns-then-is_some-clause-append : goal.returns-then-is_some-clause-append
returns-then-is_some-clause-append g c = λ t stands.
    let l = c.args.at.now in
    let node = at l t.documents in
    let e : Some c.in-Some.found ≡ record_of node = sym c.in-Some.is ∙ c.in_ok-found.ensures.found t stands in
    let is_there = there node c.in-Some.found e in
    let w = sees l in
    let seen = begun _ c.new-plan.ensures c.in_ok-found.ensures.asks in
    let text = sym (text_is node) ∙ ap is_text_record (sym e) ∙ sym c.is_text.ensures ∙ c.if-is_text.false in
    let document = sym (document_is node) ∙ ap is_document_record (sym e) ∙ sym c.is_document.ensures ∙ c.if-not-is_document.false in
    let now = later _ _ t (g.met.S.NodeRead.unchanged_contents _ _ c.see.ensures.unchanged) stands in
    let child = c.in_ok-first_child.ensures.found t now ∙ ap head_label (row_of l t (not_root l t stands.valid is_there)) in
    let taken = sym (ap is_some child) ∙ sym c.is_some.ensures ∙ c.if-is_some.true in
    let element = sym c.is_text-2.ensures ∙ c.if-is_text-2.false in
    let r = edge_asks l First ER in
    let asked = grown _ seen c.in_ok-read_edge.ensures in
    past w _ (ap not is_there) (past w _ text (one_way w _ _ document (past w _ element (joined w r _ (stopped _ taken asked)))))

pub returns-then-is_some-clause-insert : goal.returns-then-is_some-clause-insert
returns-then-is_some-clause-insert g c = returns-then-is_some-clause-append g c

pub returns-then-is_some-clause-unchanged : goal.returns-then-is_some-clause-unchanged
returns-then-is_some-clause-unchanged g c = g.met.S.NodeRead.unchanged_onward _ _ _ c.see.ensures.unchanged c.first_child.ensures.unchanged

pub returns-then-is_some-clause-cause : goal.returns-then-is_some-clause-cause
returns-then-is_some-clause-cause g c = answer_cause _ (c.in_ok-first_child.ensures.cause.exact ∙ c.in_ok-found.ensures.cause.exact)

pub returns-clause-append : goal.returns-clause-append
returns-clause-append g c =
    onward _ _ c.append_last-2.result _ _ (λ t stands. later _ _ t (g.met.S.NodeRead.unchanged_contents _ _ c.first_child.ensures.unchanged) (later _ _ t (g.met.S.NodeRead.unchanged_contents _ _ c.see.ensures.unchanged) stands)) (λ t whole stands h.
    let l = c.args.at.now in
    let node = at l t.documents in
    let e : Some c.in-Some.found ≡ record_of node = sym c.in-Some.is ∙ c.in_ok-found.ensures.found t stands in
    let is_there = there node c.in-Some.found e in
    let w = sees l in
    let seen = begun _ c.new-plan.ensures c.in_ok-found.ensures.asks in
    let text = sym (text_is node) ∙ ap is_text_record (sym e) ∙ sym c.is_text.ensures ∙ c.if-is_text.false in
    let document = sym (document_is node) ∙ ap is_document_record (sym e) ∙ sym c.is_document.ensures ∙ c.if-not-is_document.false in
    let now = later _ _ t (g.met.S.NodeRead.unchanged_contents _ _ c.see.ensures.unchanged) stands in
    let child = c.in_ok-first_child.ensures.found t now ∙ ap head_label (row_of l t (not_root l t stands.valid is_there)) in
    let taken = sym (ap is_some child) ∙ sym c.is_some.ensures ∙ c.if-is_some.false in
    let element = sym c.is_text-2.ensures ∙ c.if-is_text-2.false in
    let r = edge_asks l First ER in
    let asked = grown _ seen c.in_ok-read_edge.ensures in
    let end = dom (call.Append l c.args.fragment.now) t in
    let rest = asked_by (append_end l (plain c.args.fragment.now) t) end in
    past w _ (ap not is_there) (past w _ text (one_way w _ _ document (past w _ element (joined w r _ (past (w ++ r) _ taken (h is_there end ∙ ap (λ v. v ++ rest) asked))))))) c.append_last-2.ensures.value

pub returns-clause-insert : goal.returns-clause-insert
returns-clause-insert g c = returns-clause-append g c

pub returns-clause-unchanged : goal.returns-clause-unchanged
returns-clause-unchanged g c = g.met.S.NodeRead.unchanged_onward _ _ _ (g.met.S.NodeRead.unchanged_onward _ _ _ c.see.ensures.unchanged c.first_child.ensures.unchanged) c.append_last-2.ensures.unchanged

pub returns-clause-cause : goal.returns-clause-cause
returns-clause-cause g c = rest_cause _ (c.in_ok-first_child.ensures.cause.exact ∙ c.in_ok-found.ensures.cause.exact) c.append_last-2.ensures.cause
