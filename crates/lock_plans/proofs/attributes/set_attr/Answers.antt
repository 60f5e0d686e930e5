use Rattle.std.proofs.Common.{◌≡◌, true, not, sym, ap, ◌∙◌}
use Rattle.lock_modes.specs.declared.mode.Mode.TheVariants.{SX}
use Rattle.tree_model.specs.NodeKinds.{is_element}
use Rattle.tree_model.specs.Tree.{at}
use Rattle.lock_plans.proofs.PlanLaws.{attribute_asks, begun, ended, fits_limit, grown, joined, passes_limit, past, past_element, sees, stopped, stopped_at_element}
use Rattle.lock_plans.proofs.attributes.set_attr.Goals as goal

pub returns-then-not-branch-clause-value : goal.returns-then-not-branch-clause-value
returns-then-not-branch-clause-value g c = λ t stands.
    stopped_at_element _ (at c.args.at.now t.documents) (sym (c.in_ok-see_element.ensures.found t stands) ∙ c.if-not-branch.true) (begun _ c.new-plan.ensures c.in_ok-see_element.ensures.asks)

pub returns-then-not-is_name-clause-value : goal.returns-then-not-is_name-clause-value
returns-then-not-is_name-clause-value g c = λ t stands.
    let l = c.args.at.now in
    let node = at l t.documents in
    let kind : is_element node ≡ true = sym (c.in_ok-see_element.ensures.found t stands) ∙ c.if-not-branch.false in
    let w = sees l in
    let seen = begun _ c.new-plan.ensures c.in_ok-see_element.ensures.asks in
    let no_name = sym c.is_name.ensures.exact ∙ c.if-not-is_name.true in
    past_element w _ node kind (stopped _ (ap not no_name) seen)

pub returns-then-as_str-gt-MOST_TEXT_BYTES-clause-value : goal.returns-then-as_str-gt-MOST_TEXT_BYTES-clause-value
returns-then-as_str-gt-MOST_TEXT_BYTES-clause-value g c = λ t stands.
    let l = c.args.at.now in
    let node = at l t.documents in
    let kind : is_element node ≡ true = sym (c.in_ok-see_element.ensures.found t stands) ∙ c.if-not-branch.false in
    let w = sees l in
    let seen = begun _ c.new-plan.ensures c.in_ok-see_element.ensures.asks in
    let name = sym c.is_name.ensures.exact ∙ c.if-not-is_name.false in
    let long = passes_limit c.args.value.now c.as_str.result.now c.as_str.ensures.bytes c.if-as_str-gt-MOST_TEXT_BYTES.true in
    past_element w _ node kind (past w _ (ap not name) (stopped _ long seen))

pub returns-clause-value : goal.returns-clause-value
returns-clause-value g c = λ t stands.
    let l = c.args.at.now in
    let node = at l t.documents in
    let kind : is_element node ≡ true = sym (c.in_ok-see_element.ensures.found t stands) ∙ c.if-not-branch.false in
    let w = sees l in
    let seen = begun _ c.new-plan.ensures c.in_ok-see_element.ensures.asks in
    let name = sym c.is_name.ensures.exact ∙ c.if-not-is_name.false in
    let fits = fits_limit c.args.value.now c.as_str.result.now c.as_str.ensures.bytes c.if-as_str-gt-MOST_TEXT_BYTES.false in
    past_element w _ node kind (past w _ (ap not name) (past w _ fits (joined w (attribute_asks l c.args.name.now SX) _ (ended (grown _ seen c.in_ok-take_attribute.ensures)))))
