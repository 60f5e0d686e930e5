use Rattle.std.proofs.Common.{◌≡◌, true, not, sym, ap, ◌∙◌}
use Rattle.lock_modes.specs.declared.mode.Mode.TheVariants.{NR}
use Rattle.tree_model.specs.NodeKinds.{is_element}
use Rattle.tree_model.specs.Tree.{at}
use Rattle.lock_plans.proofs.PlanLaws.{attribute_asks, begun, ended, grown, joined, past, past_element, sees, stopped, stopped_at_element}
use Rattle.lock_plans.proofs.attributes.attr.Goals as goal

pub returns-then-not-branch-clause-attr : goal.returns-then-not-branch-clause-attr
returns-then-not-branch-clause-attr g c = λ t stands.
    stopped_at_element _ (at c.args.at.now t.documents) (sym (c.in_ok-see_element.ensures.found t stands) ∙ c.if-not-branch.true) (begun _ c.new-plan.ensures c.in_ok-see_element.ensures.asks)

pub returns-then-not-branch-clause-has_attr : goal.returns-then-not-branch-clause-has_attr
returns-then-not-branch-clause-has_attr g c = λ t stands. returns-then-not-branch-clause-attr g c t stands

pub returns-then-not-is_name-clause-attr : goal.returns-then-not-is_name-clause-attr
returns-then-not-is_name-clause-attr g c = λ t stands.
    let l = c.args.at.now in
    let node = at l t.documents in
    let kind : is_element node ≡ true = sym (c.in_ok-see_element.ensures.found t stands) ∙ c.if-not-branch.false in
    let w = sees l in
    let seen = begun _ c.new-plan.ensures c.in_ok-see_element.ensures.asks in
    let no_name = sym c.is_name.ensures.exact ∙ c.if-not-is_name.true in
    past_element w _ node kind (stopped _ (ap not no_name) seen)

pub returns-then-not-is_name-clause-has_attr : goal.returns-then-not-is_name-clause-has_attr
returns-then-not-is_name-clause-has_attr g c = λ t stands. returns-then-not-is_name-clause-attr g c t stands

pub returns-clause-attr : goal.returns-clause-attr
returns-clause-attr g c = λ t stands.
    let l = c.args.at.now in
    let node = at l t.documents in
    let kind : is_element node ≡ true = sym (c.in_ok-see_element.ensures.found t stands) ∙ c.if-not-branch.false in
    let w = sees l in
    let seen = begun _ c.new-plan.ensures c.in_ok-see_element.ensures.asks in
    let name = sym c.is_name.ensures.exact ∙ c.if-not-is_name.false in
    past_element w _ node kind (past w _ (ap not name) (joined w (attribute_asks l c.args.name.now NR) _ (ended (grown _ seen c.in_ok-read_attribute.ensures))))

pub returns-clause-has_attr : goal.returns-clause-has_attr
returns-clause-has_attr g c = λ t stands. returns-clause-attr g c t stands
