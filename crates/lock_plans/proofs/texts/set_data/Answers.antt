use Rattle.std.proofs.Common.{◌≡◌, Some, sym, ap, ◌∙◌}
use Rattle.lock_modes.specs.declared.mode.Mode.TheVariants.{SX}
use Rattle.tree_model.specs.Tree.{at, record_of}
use Rattle.lock_plans.specs.inside.PlanSteps.{text_data}
use Rattle.lock_plans.proofs.PlanLaws.{begun, ended, fits_limit, grown, joined, node_asks, passes_limit, past, past_text, sees, stopped, stopped_at_text}
use Rattle.lock_plans.proofs.texts.set_data.Goals as goal

pub returns-in_default-clause-value : goal.returns-in_default-clause-value
returns-in_default-clause-value g c = λ t stands.
    stopped_at_text _ (at c.args.at.now t.documents) (sym c.in_default.is ∙ c.in_ok-_old.ensures.found t stands) (begun _ c.new-plan.ensures c.in_ok-_old.ensures.asks)

pub returns-then-as_str-gt-MOST_TEXT_BYTES-clause-value : goal.returns-then-as_str-gt-MOST_TEXT_BYTES-clause-value
returns-then-as_str-gt-MOST_TEXT_BYTES-clause-value g c = λ t stands.
    let l = c.args.at.now in
    let node = at l t.documents in
    let e : Some c.in-Some._old ≡ text_data (record_of node) = sym c.in-Some.is ∙ c.in_ok-_old.ensures.found t stands in
    let w = sees l in
    let seen = begun _ c.new-plan.ensures c.in_ok-_old.ensures.asks in
    let long = passes_limit c.args.text.now c.as_str.result.now c.as_str.ensures.bytes c.if-as_str-gt-MOST_TEXT_BYTES.true in
    past_text w _ node c.in-Some._old e (stopped _ long seen)

pub returns-clause-value : goal.returns-clause-value
returns-clause-value g c = λ t stands.
    let l = c.args.at.now in
    let node = at l t.documents in
    let e : Some c.in-Some._old ≡ text_data (record_of node) = sym c.in-Some.is ∙ c.in_ok-_old.ensures.found t stands in
    let w = sees l in
    let seen = begun _ c.new-plan.ensures c.in_ok-_old.ensures.asks in
    let fits = fits_limit c.args.text.now c.as_str.result.now c.as_str.ensures.bytes c.if-as_str-gt-MOST_TEXT_BYTES.false in
    past_text w _ node c.in-Some._old e (past w _ fits (joined w (node_asks l SX) _ (ended (grown _ seen c.in_ok-take_tree.ensures))))
