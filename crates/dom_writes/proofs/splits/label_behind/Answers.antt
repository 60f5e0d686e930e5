use Rattle.std.proofs.Common.{◌≡◌, Less, nat_cmp, true, IfSome, is_some, sym, ap, subst, ◌∙◌, true≢false}
use Rattle.std.specs.Cmp.Lexicographic.{slice_cmp}
use Rattle.dewey_labels.specs.Labels.{parent, is_child}
use Rattle.dom_reads.proofs.StepLaws.{root_not_found}
use Rattle.dom_writes.proofs.SplitOutcomes.{is_child_there, same_levels}
use Rattle.dom_writes.proofs.splits.label_behind.Goals as goal

pub returns-in_default-clause-label : goal.returns-in_default-clause-label
returns-in_default-clause-label g c = λ t stands there. absurd (root_not_found c.args.at.now t stands.valid there (c.in_ok-parent.ensures.root.0 (ap is_some c.in_default.is)))

pub child_beside-requires-clause-left_child : goal.child_beside-requires-clause-left_child
child_beside-requires-clause-left_child g c =
    let l = c.args.at.now in
    let of_parent : c.in-Some.parent ≡ parent l = subst (λ o. IfSome o (λ v. v ≡ parent l)) c.in-Some.is c.in_ok-parent.ensures.parent in
    let child = is_child_there l c.divisions-divisions.ensures.label (λ e. true≢false (sym (ap is_some c.in-Some.is) ∙ c.in_ok-parent.ensures.root.1 e)) in
    subst (λ k. is_child c.in-Some.parent k ≡ true) (sym c.in_ok-copy.ensures) (subst (λ p. is_child p l ≡ true) (sym of_parent) child)

pub returns-clause-level : goal.returns-clause-level
returns-clause-level g c =
    let l = c.args.at.now in
    let of_parent : c.in-Some.parent ≡ parent l = subst (λ o. IfSome o (λ v. v ≡ parent l)) c.in-Some.is c.in_ok-parent.ensures.parent in
    same_levels c.in-Some.parent l c.in_ok-child_beside.field-0 of_parent c.divisions-divisions.ensures.label
    (is_child_there l c.divisions-divisions.ensures.label (λ e. true≢false (sym (ap is_some c.in-Some.is) ∙ c.in_ok-parent.ensures.root.1 e))) c.in_ok-child_beside.ensures.label c.in_ok-child_beside.ensures.child

pub returns-clause-behind : goal.returns-clause-behind
returns-clause-behind g c = subst (λ l. IfSome c.in_ok-child_beside.field-0 (λ n. slice_cmp nat_cmp l n ≡ Less)) c.in_ok-copy.ensures c.in_ok-child_beside.ensures.behind
