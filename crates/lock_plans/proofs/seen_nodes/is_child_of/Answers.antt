use Rattle.std.proofs.Common.{◌≡◌, true, is_some, Some, true≢false, sym, ap, subst, ◌∙◌, IfSome, nat_eq}
use Rattle.std.specs.Cmp.Lexicographic.{texts_ties, pointwise}
use Rattle.dewey_labels.specs.Labels.{is_child, parent, root}
use Rattle.dewey_labels.proofs.Labels.{child_of_parent}
use Rattle.tree_model.specs.ValidTrees.{same_label}
use Rattle.tree_model.proofs.StoredCatalogues.{same_label_is}
use Rattle.lock_plans.proofs.seen_nodes.is_child_of.Goals as goal

pub returns-in-Some-clause-same : goal.returns-in-Some-clause-same
returns-in-Some-clause-same c = λ _.
    let at = c.args.at.now in
    let is : c.in-Some.parent ≡ parent c.args.child.now = subst (λ o. IfSome o (λ p. p ≡ parent c.args.child.now)) c.in-Some.is c.in_ok-parent.ensures.parent in
    c.eq.ensures ∙ texts_ties c.in-Some.parent at ∙ ap (λ p. same_label p at) is

pub returns-in-Some-clause-child : goal.returns-in-Some-clause-child
returns-in-Some-clause-child c = λ same.
    let at = c.args.at.now in
    let child = c.args.child.now in
    let is : c.in-Some.parent ≡ parent child = subst (λ o. IfSome o (λ p. p ≡ parent child)) c.in-Some.is c.in_ok-parent.ensures.parent in
    let here : parent child ≡ at = sym is ∙ same_label_is c.in-Some.parent at (sym (texts_ties c.in-Some.parent at) ∙ sym c.eq.ensures ∙ same) in
    subst (λ p. is_child p child ≡ true) here (child_of_parent child c.divisions-divisions.ensures.label.0 (λ e. true≢false (sym (ap is_some c.in-Some.is) ∙ c.in_ok-parent.ensures.root.1 e)))
