use Rattle.std.proofs.Common.{◌≡◌, ◌≢◌, sym, ◌∙◌, ap, subst, length, take, arith, rules}
use Rattle.dewey_labels.specs.Labels.{IsLabel, parent, root}
use Rattle.dewey_labels.proofs.Labels.{parent_is_taken, IsLabel-parent}
use Rattle.dewey_labels.proofs.label.Label.parent.Goals as goal

cut_is_parent : (c : goal.In_ok-divisions) → c.in_ok-divisions.divisions ≡ parent c.args.self.now
cut_is_parent c =
    let l = c.divisions-own.result.now in
    let is_label : IsLabel l = subst IsLabel (sym c.divisions-own.ensures.divisions) c.divisions-own.ensures.label in
    let below : l ≢ root = λ e. omega (arith, ap length e, c.if-own-eq1.false) in
    let taken : c.in_ok-divisions.divisions ≡ take (length (parent l)) l = search rules in
    taken ∙ (parent_is_taken l is_label.0 below).1 ∙ ap parent c.divisions-own.ensures.divisions

pub invariant_of-result : goal.invariant_of-result
invariant_of-result c = subst IsLabel (sym (cut_is_parent c)) (IsLabel-parent _ c.divisions-own.ensures.label)

pub returns-clause-parent : goal.returns-clause-parent
returns-clause-parent c = cut_is_parent c
