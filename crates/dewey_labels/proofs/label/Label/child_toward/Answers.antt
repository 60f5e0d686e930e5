use Rattle.std.proofs.Common.{◌≡◌, true, false, cond, ◌++◌, Some, None, sym, ap, subst, ◌∙◌}
use Rattle.dewey_labels.specs.Labels.{IsLabel, is_child}
use Rattle.dewey_labels.specs.Sides.{side, is_under, rest, first_code}
use Rattle.dewey_labels.proofs.Sides.{ancestor_under}
use Rattle.dewey_labels.proofs.Toward.{toward_is_child, toward_is_label}
use Rattle.dewey_labels.proofs.label.Label.child_toward.Goals as goal

pub returns-then-not-is_ancestor_of-clause-toward : goal.returns-then-not-is_ancestor_of-clause-toward
returns-then-not-is_ancestor_of-clause-toward c =
    let p = c.args.self.now in
    let l = c.args.below.now in
    let apart : is_under (side p l) ≡ false = sym (ancestor_under p l) ∙ sym c.is_ancestor_of.ensures.prefix ∙ c.if-not-is_ancestor_of.true in
    sym (ap (λ b. cond b (Some (p ++ first_code (rest p l))) None) apart)

under_is : (c : goal.In_ok-divisions) → is_under (side c.args.self.now c.args.below.now) ≡ true
under_is c = sym (ancestor_under c.args.self.now c.args.below.now) ∙ sym c.is_ancestor_of.ensures.prefix ∙ c.if-not-is_ancestor_of.false

divisions_are : (c : goal.In_ok-divisions) → c.in_ok-divisions.divisions ≡ c.args.self.now ++ first_code (rest c.args.self.now c.args.below.now)
divisions_are c =
    let above = c.divisions.ensures.divisions in
    c.in_ok-divisions.ensures ∙ c.cut_toward-way.ensures ∙ (λ i. above i ++ first_code (rest (above i) (c.divisions-2.ensures.divisions i)))

pub invariant_of-result : goal.invariant_of-result
invariant_of-result c = subst IsLabel (sym (divisions_are c)) (toward_is_label c.args.self.now c.args.below.now c.divisions.ensures.label c.divisions-2.ensures.label (under_is c))

pub returns-clause-child : goal.returns-clause-child
returns-clause-child c =
    subst (λ v. is_child c.args.self.now v ≡ true) (sym (divisions_are c)) (toward_is_child c.args.self.now c.args.below.now c.divisions.ensures.label.0 c.divisions-2.ensures.label.0 (under_is c))

pub returns-clause-toward : goal.returns-clause-toward
returns-clause-toward c =
    let p = c.args.self.now in
    let l = c.args.below.now in
    ap Some (divisions_are c) ∙ sym (ap (λ b. cond b (Some (p ++ first_code (rest p l))) None) (under_is c))
