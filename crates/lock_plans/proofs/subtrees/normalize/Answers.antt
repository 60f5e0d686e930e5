use Rattle.std.proofs.Common.{◌≡◌, Some, Bool, true, false, [], ◌++◌, if◌then◌else◌, not, sym, ap, ◌∙◌}
use Rattle.lock_modes.specs.declared.mode.Mode.TheVariants.{SX}
use Rattle.tree_model.specs.Tree.{at, record_of}
use Rattle.tree_model.specs.NodeKinds.{is_text_record}
use Rattle.lock_plans.proofs.PlanLaws.{begun, ended, grown, joined, last_test, node_asks, not_there, past, sees, stopped, text_is, there}
use Rattle.lock_plans.proofs.subtrees.normalize.Goals as goal

pub returns-in_default-clause-value : goal.returns-in_default-clause-value
returns-in_default-clause-value g c = λ t stands.
    stopped _ (ap not (not_there (at c.args.at.now t.documents) (sym c.in_default.is ∙ c.in_ok-found.ensures.found t stands))) (begun _ c.new-plan.ensures c.in_ok-found.ensures.asks)

pub returns-then-is_text-clause-value : goal.returns-then-is_text-clause-value
returns-then-is_text-clause-value g c = λ t stands.
    let l = c.args.at.now in
    let node = at l t.documents in
    let e : Some c.in-Some.found ≡ record_of node = sym c.in-Some.is ∙ c.in_ok-found.ensures.found t stands in
    let is_there = there node c.in-Some.found e in
    let w = sees l in
    let seen = begun _ c.new-plan.ensures c.in_ok-found.ensures.asks in
    let kind = sym (text_is node) ∙ ap is_text_record (sym e) ∙ sym c.is_text.ensures ∙ c.if-is_text.true in
    past w _ (ap not is_there) (stopped _ kind seen)

pub returns-clause-value : goal.returns-clause-value
returns-clause-value g c = λ t stands.
    let l = c.args.at.now in
    let node = at l t.documents in
    let e : Some c.in-Some.found ≡ record_of node = sym c.in-Some.is ∙ c.in_ok-found.ensures.found t stands in
    let is_there = there node c.in-Some.found e in
    let w = sees l in
    let seen = begun _ c.new-plan.ensures c.in_ok-found.ensures.asks in
    let kind = sym (text_is node) ∙ ap is_text_record (sym e) ∙ sym c.is_text.ensures ∙ c.if-is_text.false in
    past w _ (ap not is_there) (past w _ kind (joined w (node_asks l SX) _ (last_test _ (grown _ seen c.in_ok-take_tree.ensures))))
