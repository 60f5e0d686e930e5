use Rattle.std.proofs.Common.{◌≡◌, true, IfSome, is_some, sym, ap, subst, ◌∙◌}
use Rattle.std.proofs.lemmas.Result.{IfOk-weaker}
use Rattle.std.specs.Cmp.Lexicographic.{texts_ties}
use Rattle.dewey_labels.specs.Labels.{Label, parent}
use Rattle.tree_model.specs.ValidTrees.{same_label}
use Rattle.dom_writes.proofs.RemovalLaws.{its_parent, other_parent, root_child}
use Rattle.dom_writes.proofs.removals.parent_record.Goals as goal

pub returns-in_default-clause-parent : goal.returns-in_default-clause-parent
returns-in_default-clause-parent g c = λ t stands. root_child c.args.at.now c.args.child.now t stands.valid (c.in_ok-parent.ensures.root.0 (ap is_some c.in_default.is))

pub returns-then-eq-clause-parent : goal.returns-then-eq-clause-parent
returns-then-eq-clause-parent g c =
    let at : Label = c.args.at.now in
    let child : Label = c.args.child.now in
    let above : Label = c.in-Some.parent in
    let is : above ≡ parent child = subst (λ o. IfSome o (λ v. v ≡ parent child)) c.in-Some.is c.in_ok-parent.ensures.parent in
    let same : same_label (parent child) at ≡ true = ap (λ l. same_label l at) (sym is) ∙ sym (texts_ties above at) ∙ sym c.eq.ensures ∙ c.if-eq.true in
    IfOk-weaker c.record_at.result _ _ (λ found h t stands. h t stands ∙ its_parent at child t same) c.record_at.ensures.found

pub returns-clause-parent : goal.returns-clause-parent
returns-clause-parent g c t stands =
    let at : Label = c.args.at.now in
    let child : Label = c.args.child.now in
    let above : Label = c.in-Some.parent in
    let is : above ≡ parent child = subst (λ o. IfSome o (λ v. v ≡ parent child)) c.in-Some.is c.in_ok-parent.ensures.parent in
    other_parent at child t (ap (λ l. same_label l at) (sym is) ∙ sym (texts_ties above at) ∙ sym c.eq.ensures ∙ c.if-eq.false)
