use Rattle.std.proofs.Common.{rules, ◌≡◌, true, ◌≤◌, ◌-◌, length, take, drop, sym, subst, ◌∙◌, take_all, arith, length-drop}
use Rattle.dewey_labels.specs.Labels.{Label, is_child}
use Rattle.dewey_labels.specs.Sides.{rest}
use Rattle.dewey_labels.specs.inside.Codes.{IsCode}
use Rattle.dewey_labels.proofs.Codes.{child_longer, child_drop}
use Rattle.dewey_labels.proofs.NewLabels.{code_within}
use Rattle.dewey_labels.proofs.new_labels.code.Goals as goal

-- the part of l from the length of p on, for p and l as they were read
longer : (p l xs ys : Label) → xs ≡ p → ys ≡ l → is_child p l ≡ true → length xs ≤ length ys
longer p l xs ys e f h = subst (λ v. length v ≤ length ys) (sym e) (subst (λ v. length p ≤ length v) (sym f) (child_longer p l h))

part_is : (p l xs ys : Label) → xs ≡ p → ys ≡ l → is_child p l ≡ true → take (length ys - length xs) (drop (length xs) ys) ≡ rest p l
part_is p l xs ys e f h =
    subst (λ v. take (length ys - length v) (drop (length v) ys) ≡ rest p l) (sym e)
    (subst (λ v. take (length v - length p) (drop (length p) v) ≡ rest p l) (sym f)
    (take_all (length l - length p) (drop (length p) l) (omega (arith, length-drop (length p) l)) ∙ child_drop p l h))

pub slice_bounds-result-count : goal.slice_bounds-result-count
slice_bounds-result-count c = longer c.args.parent.now c.args.child.now _ _ c.divisions-2.ensures.divisions c.divisions.ensures.divisions c.requires

pub slice_bounds-result-start : goal.slice_bounds-result-start
slice_bounds-result-start c = let within = slice_bounds-result-count c in search (rules, within)

pub returns-clause-rest : goal.returns-clause-rest
returns-clause-rest c = part_is c.args.parent.now c.args.child.now _ _ c.divisions-2.ensures.divisions c.divisions.ensures.divisions c.requires

pub returns-clause-code : goal.returns-clause-code
returns-clause-code c = subst IsCode (sym (returns-clause-rest c)) (code_within c.args.parent.now c.args.child.now c.requires c.divisions.ensures.label.1)
