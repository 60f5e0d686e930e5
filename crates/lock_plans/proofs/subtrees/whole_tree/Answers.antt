use Rattle.std.proofs.Common.{◌≡◌, true, not, sym, ap, ◌∙◌}
use Rattle.lock_modes.specs.declared.mode.Mode.TheVariants.{SR}
use Rattle.tree_model.specs.Tree.{at, found}
use Rattle.lock_plans.proofs.PlanLaws.{begun, ended, grown, joined, node_asks, past, sees, stopped}
use Rattle.lock_plans.proofs.subtrees.whole_tree.Goals as goal

pub returns-then-not-branch-clause-dump : goal.returns-then-not-branch-clause-dump
returns-then-not-branch-clause-dump g c = λ t stands.
    stopped _ (ap not (sym (c.in_ok-see_node.ensures.found t stands) ∙ c.if-not-branch.true)) (begun _ c.new-plan.ensures c.in_ok-see_node.ensures.asks)

pub returns-then-not-branch-clause-tags : goal.returns-then-not-branch-clause-tags
returns-then-not-branch-clause-tags g c = λ t stands name. returns-then-not-branch-clause-dump g c t stands

pub returns-clause-dump : goal.returns-clause-dump
returns-clause-dump g c = λ t stands.
    let l = c.args.at.now in
    let there : found (at l t.documents) ≡ true = sym (c.in_ok-see_node.ensures.found t stands) ∙ c.if-not-branch.false in
    past (sees l) _ (ap not there) (joined (sees l) (node_asks l SR) _ (ended (grown _ (begun _ c.new-plan.ensures c.in_ok-see_node.ensures.asks) c.in_ok-read_tree.ensures)))

pub returns-clause-tags : goal.returns-clause-tags
returns-clause-tags g c = λ t stands name. returns-clause-dump g c t stands
