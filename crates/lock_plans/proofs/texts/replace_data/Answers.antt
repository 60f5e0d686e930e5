use Rattle.std.proofs.Common.{◌≡◌, ℕ, List, ◌+◌, Some, sym, ap, ◌++◌, ◌∙◌}
use Rattle.lock_modes.specs.declared.mode.Mode.TheVariants.{SX}
use Rattle.tree_model.specs.Texts.{data_before, data_from, is_past}
use Rattle.tree_model.specs.Tree.{at, record_of}
use Rattle.lock_plans.specs.DomPlans.{data_of}
use Rattle.lock_plans.specs.inside.PlanSteps.{text_data}
use Rattle.lock_plans.proofs.PlanLaws.{begun, ended, grown, joined, long_as, node_asks, past, past_text, sees, stopped, stopped_at_text, text_there}
use Rattle.lock_plans.proofs.TextLaws.{from_on}
use Rattle.lock_plans.proofs.texts.replace_data.Goals as goal

pub returns-in_default-clause-value : goal.returns-in_default-clause-value
returns-in_default-clause-value g c = λ t stands.
    stopped_at_text _ (at c.args.at.now t.documents) (sym c.in_default.is ∙ c.in_ok-old.ensures.found t stands) (begun _ c.new-plan.ensures c.in_ok-old.ensures.asks)

pub returns-in_default-cut-clause-value : goal.returns-in_default-cut-clause-value
returns-in_default-cut-clause-value g c = λ t stands.
    let l = c.args.at.now in
    let node = at l t.documents in
    let e : Some c.in-Some.old ≡ text_data (record_of node) = sym c.in-Some.is ∙ c.in_ok-old.ensures.found t stands in
    let data_is : data_of node ≡ c.as_str.result.now = (text_there node c.in-Some.old e).2 ∙ sym c.as_str.ensures.bytes in
    let w = sees l in
    let seen = begun _ c.new-plan.ensures c.in_ok-old.ensures.asks in
    past_text w _ node c.in-Some.old e (stopped _ (ap (is_past c.args.offset) data_is ∙ c.in_default-cut.ensures) seen)

pub returns-then-is_too_long-clause-value : goal.returns-then-is_too_long-clause-value
returns-then-is_too_long-clause-value g c = λ t stands.
    let l = c.args.at.now in
    let node = at l t.documents in
    let e : Some c.in-Some.old ≡ text_data (record_of node) = sym c.in-Some.is ∙ c.in_ok-old.ensures.found t stands in
    let data_is : data_of node ≡ c.as_str.result.now = (text_there node c.in-Some.old e).2 ∙ sym c.as_str.ensures.bytes in
    let w = sees l in
    let seen = begun _ c.new-plan.ensures c.in_ok-old.ensures.asks in
    let make : List ℕ → List ℕ = λ old. data_before c.args.offset old ++ (c.args.text.now ++ data_from (c.args.offset + c.args.count) old) in
    let joint = (λ i. c.in-Some-cut.ensures.1 i ++ (c.args.text.now ++ c.behind_first.ensures i)) ∙ ap (λ v. data_before c.args.offset c.as_str.result.now ++ (c.args.text.now ++ v)) (ap (data_from c.args.count) c.in-Some-cut.ensures.2 ∙ from_on c.args.offset c.args.count c.as_str.result.now c.as_str.utf8) ∙ ap make c.as_str.ensures.bytes in
    let size = sym (long_as make node c.in-Some.old _ _ e c.is_too_long.ensures joint) ∙ c.if-is_too_long.true in
    let offset = ap (is_past c.args.offset) data_is ∙ c.in-Some-cut.ensures.0 in
    past_text w _ node c.in-Some.old e (past w _ offset (stopped _ size seen))

pub returns-clause-value : goal.returns-clause-value
returns-clause-value g c = λ t stands.
    let l = c.args.at.now in
    let node = at l t.documents in
    let e : Some c.in-Some.old ≡ text_data (record_of node) = sym c.in-Some.is ∙ c.in_ok-old.ensures.found t stands in
    let data_is : data_of node ≡ c.as_str.result.now = (text_there node c.in-Some.old e).2 ∙ sym c.as_str.ensures.bytes in
    let w = sees l in
    let seen = begun _ c.new-plan.ensures c.in_ok-old.ensures.asks in
    let make : List ℕ → List ℕ = λ old. data_before c.args.offset old ++ (c.args.text.now ++ data_from (c.args.offset + c.args.count) old) in
    let joint = (λ i. c.in-Some-cut.ensures.1 i ++ (c.args.text.now ++ c.behind_first.ensures i)) ∙ ap (λ v. data_before c.args.offset c.as_str.result.now ++ (c.args.text.now ++ v)) (ap (data_from c.args.count) c.in-Some-cut.ensures.2 ∙ from_on c.args.offset c.args.count c.as_str.result.now c.as_str.utf8) ∙ ap make c.as_str.ensures.bytes in
    let size = sym (long_as make node c.in-Some.old _ _ e c.is_too_long.ensures joint) ∙ c.if-is_too_long.false in
    let offset = ap (is_past c.args.offset) data_is ∙ c.in-Some-cut.ensures.0 in
    past_text w _ node c.in-Some.old e (past w _ offset (past w _ size (joined w (node_asks l SX) _ (ended (grown _ seen c.in_ok-take_tree.ensures)))))
