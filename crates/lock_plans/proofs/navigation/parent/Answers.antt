use Rattle.std.proofs.Common.{◌≡◌, IfSome, true, is_some, not, sym, ap, subst, ◌++◌, ◌∙◌}
use Rattle.dewey_labels.specs.Labels.{parent}
use Rattle.tree_model.specs.Tree.{at, found}
use Rattle.dom_reads.proofs.StepLaws.{root_not_found}
use Rattle.lock_plans.proofs.PlanLaws.{begun, ended, grown, past, joined, sees}
use Rattle.lock_plans.proofs.navigation.parent.Goals as goal

pub returns-in_default-clause-value : goal.returns-in_default-clause-value
returns-in_default-clause-value g c = λ t stands.
    let there : found (at c.args.at.now t.documents) ≡ true = sym (c.in_ok-see_node.ensures.found t stands) ∙ c.if-not-branch.false in
    absurd (root_not_found c.args.at.now t stands.valid there (c.in_ok-parent.ensures.root.0 (ap is_some c.in_default.is)))

pub returns-clause-value : goal.returns-clause-value
returns-clause-value g c = λ t stands.
    let l = c.args.at.now in
    let there : found (at l t.documents) ≡ true = sym (c.in_ok-see_node.ensures.found t stands) ∙ c.if-not-branch.false in
    let is : c.in-Some.parent ≡ parent l = subst (λ o. IfSome o (λ p. p ≡ parent l)) c.in-Some.is c.in_ok-parent.ensures.parent in
    let asked = grown _ (begun _ c.new-plan.ensures c.in_ok-see_node.ensures.asks) c.in_ok-read_node.ensures in
    let w = sees l in
    past w _ (ap not there) (joined w (sees (parent l)) _ (ended (asked ∙ ap (λ p. w ++ sees p) is)))
