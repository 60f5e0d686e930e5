use Rattle.std.proofs.Common.{◌≡◌, Some, None, sym, ap, not, ◌++◌, ◌∙◌}
use Rattle.lock_modes.specs.declared.edge_mode.EdgeMode.TheVariants.{ER}
use Rattle.lock_resources.specs.declared.resource.Side.TheVariants.{Prev}
use Rattle.tree_model.specs.declared.dom_call.DomCall.TheVariants as call
use Rattle.tree_model.specs.declared.reply.Reply.TheVariants.{Place}
use Rattle.tree_model.specs.DomCalls.{dom}
use Rattle.tree_model.specs.Navigation.{unless_document}
use Rattle.tree_model.specs.Tree.{at, prev_of, record_of}
use Rattle.tree_model.specs.StoredTree.{is_document_record}
use Rattle.dom_reads.proofs.ReplyLaws.{beside_reply, document_reply, later, nothing_seen}
use Rattle.lock_plans.specs.inside.PlanSteps.{reads_found}
use Rattle.lock_plans.proofs.Causes.{answer_cause, fault_cause, memory_cause}
use Rattle.lock_plans.proofs.PlanLaws.{begun, document_is, edge_asks, grown, past, joined, found_at_end, sees, there}
use Rattle.lock_plans.proofs.navigation.prev.Goals as goal

pub returns-clause-value : goal.returns-clause-value
returns-clause-value g c = λ t stands.
    let l = c.args.at.now in
    let e : Some c.in-Some.found ≡ record_of (at l t.documents) = sym c.in-Some.is ∙ c.in_ok-found.ensures.found t stands in
    let is_there = there (at l t.documents) c.in-Some.found e in
    let other = sym (document_is (at l t.documents)) ∙ ap is_document_record (sym e) ∙ sym c.is_document.ensures ∙ c.if-is_document.false in
    let now = later _ _ t (g.met.S.NodeRead.unchanged_contents _ _ c.see.ensures.unchanged) stands in
    let sibling = c.in_ok-sibling.ensures.found t now is_there in
    let asked = grown _ (grown _ (begun _ c.new-plan.ensures c.in_ok-found.ensures.asks) c.in_ok-read_edge.ensures) c.in_ok-read_found.ensures in
    let w = sees l in
    let r = edge_asks l Prev ER in
    c.answered-2.ensures.plan ∙ past w _ (ap not is_there) (past w _ other (joined w r _ (found_at_end (w ++ r) (prev_of None l t.documents) (dom (call.Prev l) t) (asked ∙ ap (λ o. (w ++ r) ++ reads_found o) sibling))))

pub returns-clause-reply : goal.returns-clause-reply
returns-clause-reply g c = λ t stands.
    let l = c.args.at.now in
    let node = at l t.documents in
    let e : Some c.in-Some.found ≡ record_of node = sym c.in-Some.is ∙ c.in_ok-found.ensures.found t stands in
    let now = later _ _ t (g.met.S.NodeRead.unchanged_contents _ _ c.see.ensures.unchanged) stands in
    let sibling = c.in_ok-sibling.ensures.found t now (there node c.in-Some.found e) in
    c.answered-2.ensures.reply ∙ ap Some (ap Place sibling ∙ beside_reply (λ _. prev_of None l t.documents) node c.in-Some.found e (sym c.is_document.ensures ∙ c.if-is_document.false))

pub returns-then-is_document-clause-reply : goal.returns-then-is_document-clause-reply
returns-then-is_document-clause-reply g c = λ t stands.
    let l = c.args.at.now in
    let node = at l t.documents in
    let e : Some c.in-Some.found ≡ record_of node = sym c.in-Some.is ∙ c.in_ok-found.ensures.found t stands in
    c.answered-then-is_document.ensures.reply ∙ ap Some (document_reply (λ _. prev_of None l t.documents) node c.in-Some.found e (sym c.is_document.ensures ∙ c.if-is_document.true))

pub returns-in_default-clause-reply : goal.returns-in_default-clause-reply
returns-in_default-clause-reply g c = λ t stands.
    let l = c.args.at.now in
    let node = at l t.documents in
    let e : None ≡ record_of node = sym c.in_default.is ∙ c.in_ok-found.ensures.found t stands in
    c.answered.ensures.reply ∙ ap Some (c.not_found.ensures ∙ nothing_seen (unless_document (prev_of None l t.documents)) node e)

pub returns-clause-unchanged : goal.returns-clause-unchanged
returns-clause-unchanged g c = g.met.S.NodeRead.unchanged_onward _ _ _ c.see.ensures.unchanged c.previous_sibling.ensures.unchanged

pub returns-clause-cause : goal.returns-clause-cause
returns-clause-cause g c = answer_cause _ (c.in_ok-sibling.ensures.cause.exact ∙ c.in_ok-found.ensures.cause.exact)

pub returns-in_err-sibling-clause-unchanged : goal.returns-in_err-sibling-clause-unchanged
returns-in_err-sibling-clause-unchanged g c = g.met.S.NodeRead.unchanged_onward _ _ _ c.see.ensures.unchanged c.previous_sibling.ensures.unchanged

pub returns-in_err-sibling-clause-cause : goal.returns-in_err-sibling-clause-cause
returns-in_err-sibling-clause-cause g c = fault_cause _ c.in_ok-found.ensures.cause.exact c.in_err-sibling.ensures.cause c.from_residual-in_err-sibling.ensures.1

pub returns-in_err-read_found-clause-unchanged : goal.returns-in_err-read_found-clause-unchanged
returns-in_err-read_found-clause-unchanged g c = g.met.S.NodeRead.unchanged_onward _ _ _ c.see.ensures.unchanged c.previous_sibling.ensures.unchanged

pub returns-in_err-read_found-clause-cause : goal.returns-in_err-read_found-clause-cause
returns-in_err-read_found-clause-cause g c = memory_cause _ (c.in_ok-sibling.ensures.cause.exact ∙ c.in_ok-found.ensures.cause.exact) c.from_residual-in_err-read_found.ensures.1
