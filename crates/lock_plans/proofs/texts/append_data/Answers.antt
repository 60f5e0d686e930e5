use Rattle.std.proofs.Common.{◌≡◌, [], Some, sym, ap, ◌++◌, ◌∙◌, append-nil}
use Rattle.lock_modes.specs.declared.mode.Mode.TheVariants.{SX}
use Rattle.tree_model.specs.Tree.{at, record_of}
use Rattle.lock_plans.specs.inside.PlanSteps.{text_data}
use Rattle.lock_plans.proofs.PlanLaws.{begun, ended, grown, joined, long_as, node_asks, past, past_text, sees, stopped, stopped_at_text}
use Rattle.lock_plans.proofs.texts.append_data.Goals as goal

pub returns-in_default-clause-value : goal.returns-in_default-clause-value
returns-in_default-clause-value g c = λ t stands.
    stopped_at_text _ (at c.args.at.now t.documents) (sym c.in_default.is ∙ c.in_ok-old.ensures.found t stands) (begun _ c.new-plan.ensures c.in_ok-old.ensures.asks)

pub returns-then-is_too_long-clause-value : goal.returns-then-is_too_long-clause-value
returns-then-is_too_long-clause-value g c = λ t stands.
    let l = c.args.at.now in
    let node = at l t.documents in
    let e : Some c.in-Some.old ≡ text_data (record_of node) = sym c.in-Some.is ∙ c.in_ok-old.ensures.found t stands in
    let w = sees l in
    let seen = begun _ c.new-plan.ensures c.in_ok-old.ensures.asks in
    let joint = (λ i. c.as_str.ensures.bytes i ++ (c.as_str-2.ensures.bytes i ++ [])) ∙ ap (λ v. c.in-Some.old ++ v) (append-nil c.args.text.now) in
    let long = sym (long_as (λ old. old ++ c.args.text.now) node c.in-Some.old _ _ e c.is_too_long.ensures joint) ∙ c.if-is_too_long.true in
    past_text w _ node c.in-Some.old e (stopped _ long seen)

pub returns-clause-value : goal.returns-clause-value
returns-clause-value g c = λ t stands.
    let l = c.args.at.now in
    let node = at l t.documents in
    let e : Some c.in-Some.old ≡ text_data (record_of node) = sym c.in-Some.is ∙ c.in_ok-old.ensures.found t stands in
    let w = sees l in
    let seen = begun _ c.new-plan.ensures c.in_ok-old.ensures.asks in
    let joint = (λ i. c.as_str.ensures.bytes i ++ (c.as_str-2.ensures.bytes i ++ [])) ∙ ap (λ v. c.in-Some.old ++ v) (append-nil c.args.text.now) in
    let fits = sym (long_as (λ old. old ++ c.args.text.now) node c.in-Some.old _ _ e c.is_too_long.ensures joint) ∙ c.if-is_too_long.false in
    past_text w _ node c.in-Some.old e (past w _ fits (joined w (node_asks l SX) _ (ended (grown _ seen c.in_ok-take_tree.ensures))))
