use Rattle.std.proofs.Common.{◌≡◌, true, not, Some, is_some, IfSome, sym, ap, subst, ◌++◌, ◌∙◌}
use Rattle.lock_modes.specs.declared.edge_mode.EdgeMode.TheVariants.{ER}
use Rattle.lock_resources.specs.declared.resource.Side.TheVariants.{Last}
use Rattle.tree_model.specs.declared.dom_call.DomCall.TheVariants as call
use Rattle.tree_model.specs.declared.reply.Reply.TheVariants.{Place}
use Rattle.tree_model.specs.DomCalls.{dom}
use Rattle.tree_model.specs.Tree.{at, found, last_child_of}
use Rattle.dom_reads.proofs.ReplyLaws.{seen}
use Rattle.lock_plans.specs.inside.PlanSteps.{reads_found}
use Rattle.lock_plans.proofs.PlanLaws.{begun, edge_asks, grown, past, joined, found_at_end, sees}
use Rattle.lock_plans.proofs.navigation.last.Goals as goal

pub returns-clause-value : goal.returns-clause-value
returns-clause-value g c = λ t stands.
    let l = c.args.at.now in
    let there : found (at l t.documents) ≡ true = sym (c.in_ok-child.ensures.there t stands) ∙ ap is_some c.in-Some.is in
    let child = subst (λ o. IfSome o (λ child. child ≡ last_child_of (at l t.documents))) c.in-Some.is (c.in_ok-child.ensures.child t stands) in
    let asked = grown _ (grown _ (begun _ c.new-plan.ensures c.in_ok-read_node.ensures) c.in_ok-read_edge.ensures) c.in_ok-read_found.ensures in
    let w = sees l in
    let r = edge_asks l Last ER in
    c.answered-2.ensures.plan ∙ past w _ (ap not there) (joined w r _ (found_at_end (w ++ r) (last_child_of (at l t.documents)) (dom (call.Last l) t) (asked ∙ ap (λ o. (w ++ r) ++ reads_found o) child)))

pub returns-clause-reply : goal.returns-clause-reply
returns-clause-reply g c = λ t stands.
    let node = at c.args.at.now t.documents in
    let there : found node ≡ true = sym (c.in_ok-child.ensures.there t stands) ∙ ap is_some c.in-Some.is in
    let child = subst (λ o. IfSome o (λ child. child ≡ last_child_of node)) c.in-Some.is (c.in_ok-child.ensures.child t stands) in
    c.answered-2.ensures.reply ∙ ap Some (ap Place child ∙ seen (λ f. Place (last_child_of f)) node there)
