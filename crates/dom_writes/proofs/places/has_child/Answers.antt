use Rattle.std.proofs.Common.{◌≡◌, ◌≢◌, IfSome, is_some, true, false, true≢false, sym, ap, subst, ◌∙◌}
use Rattle.std.specs.Cmp.Lexicographic.{texts_ties}
use Rattle.dewey_labels.specs.Labels.{parent, root}
use Rattle.tree_model.specs.ValidTrees.{same_label}
use Rattle.dom_writes.proofs.PlacedCalls.{child_by_label, child_there, other_no_child, root_no_child}
use Rattle.dom_writes.proofs.places.has_child.Goals as goal

pub returns-in_default-clause-there : goal.returns-in_default-clause-there
returns-in_default-clause-there g c = λ t stands.
    root_no_child c.args.parent.now c.args.child.now t stands.valid (c.in_ok-above.ensures.root.0 (ap is_some c.in_default.is))

pub returns-then-eq-clause-there : goal.returns-then-eq-clause-there
returns-then-eq-clause-there g c = λ t stands.
    let p = c.args.parent.now in
    let above = c.in-Some.above in
    let is_parent : above ≡ parent c.args.child.now = subst (λ o. IfSome o (λ v. v ≡ parent c.args.child.now)) c.in-Some.is c.in_ok-above.ensures.parent in
    let same : same_label above p ≡ true = sym (texts_ties above p) ∙ sym c.eq.ensures ∙ c.if-eq.true in
    c.is_some.ensures ∙ child_there p c.args.child.now above t c.in_ok-record_at.field-0 is_parent same (c.in_ok-record_at.ensures.found t stands)

pub returns-then-eq-clause-child : goal.returns-then-eq-clause-child
returns-then-eq-clause-child g c = λ _.
    let p = c.args.parent.now in
    let above = c.in-Some.above in
    let is_parent : above ≡ parent c.args.child.now = subst (λ o. IfSome o (λ v. v ≡ parent c.args.child.now)) c.in-Some.is c.in_ok-above.ensures.parent in
    let same : same_label above p ≡ true = sym (texts_ties above p) ∙ sym c.eq.ensures ∙ c.if-eq.true in
    let below_root : c.args.child.now ≢ root = λ e. true≢false (sym (ap is_some c.in-Some.is) ∙ c.in_ok-above.ensures.root.1 e) in
    child_by_label p c.args.child.now above c.divisions-divisions.ensures.label below_root is_parent same

pub returns-clause-there : goal.returns-clause-there
returns-clause-there g c = λ t stands.
    let p = c.args.parent.now in
    let above = c.in-Some.above in
    let is_parent : above ≡ parent c.args.child.now = subst (λ o. IfSome o (λ v. v ≡ parent c.args.child.now)) c.in-Some.is c.in_ok-above.ensures.parent in
    let other : same_label above p ≡ false = sym (texts_ties above p) ∙ sym c.eq.ensures ∙ c.if-eq.false in
    other_no_child p c.args.child.now above t is_parent other
