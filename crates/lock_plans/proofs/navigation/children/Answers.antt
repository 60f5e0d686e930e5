use Rattle.std.proofs.Common.{◌≡◌, true, not, sym, ap, ◌∙◌}
use Rattle.lock_modes.specs.declared.mode.Mode.TheVariants.{LR}
use Rattle.tree_model.specs.Tree.{at, found}
use Rattle.lock_plans.proofs.PlanLaws.{begun, ended, grown, joined, node_asks, past, sees}
use Rattle.lock_plans.proofs.navigation.children.Goals as goal

pub returns-clause-value : goal.returns-clause-value
returns-clause-value g c = λ t stands.
    let l = c.args.at.now in
    let there : found (at l t.documents) ≡ true = sym (c.in_ok-see_node.ensures.found t stands) ∙ c.if-not-branch.false in
    past (sees l) _ (ap not there) (joined (sees l) (node_asks l LR) _ (ended (grown _ (begun _ c.new-plan.ensures c.in_ok-see_node.ensures.asks) c.in_ok-read_level.ensures)))
