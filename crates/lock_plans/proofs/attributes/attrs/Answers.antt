use Rattle.std.proofs.Common.{◌≡◌, true, sym, ◌∙◌}
use Rattle.lock_modes.specs.declared.ask.Ask.TheVariants as ask
use Rattle.lock_modes.specs.declared.mode.Mode.TheVariants.{LR}
use Rattle.lock_resources.specs.declared.resource.Resource.TheVariants.{AttrRoot}
use Rattle.lock_resources.specs.Intentions.{with_intentions}
use Rattle.tree_model.specs.NodeKinds.{is_element}
use Rattle.tree_model.specs.Tree.{at}
use Rattle.lock_plans.proofs.PlanLaws.{begun, ended, grown, joined, past_element, sees, stopped_at_element}
use Rattle.lock_plans.proofs.attributes.attrs.Goals as goal

pub returns-then-not-branch-clause-value : goal.returns-then-not-branch-clause-value
returns-then-not-branch-clause-value g c = λ t stands.
    stopped_at_element _ (at c.args.at.now t.documents) (sym (c.in_ok-see_element.ensures.found t stands) ∙ c.if-not-branch.true) (begun _ c.new-plan.ensures c.in_ok-see_element.ensures.asks)

pub returns-clause-value : goal.returns-clause-value
returns-clause-value g c = λ t stands.
    let l = c.args.at.now in
    let node = at l t.documents in
    let kind : is_element node ≡ true = sym (c.in_ok-see_element.ensures.found t stands) ∙ c.if-not-branch.false in
    let w = sees l in
    let seen = begun _ c.new-plan.ensures c.in_ok-see_element.ensures.asks in
    past_element w _ node kind (joined w (with_intentions (AttrRoot l) (ask.Node LR)) _ (ended (grown _ seen c.in_ok-read_attributes.ensures)))
