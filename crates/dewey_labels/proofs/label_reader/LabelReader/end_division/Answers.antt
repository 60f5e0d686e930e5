use Rattle.std.proofs.Common.{◌≡◌, ◌+◌, true, false, refl, sym, ap, subst, ◌∙◌, ◌++◌, ◌∷◌, [], length, length-append, arith}
use Rattle.dewey_labels.specs.LabelText.{BeginsLabelText}
use Rattle.dewey_labels.specs.inside.LabelReader.{ends_division, text_so_far, CanGoOn}
use Rattle.dewey_labels.proofs.Reading.{refused_point, taken_point, goes_on_by_point, ended_some, short}
use Rattle.dewey_labels.proofs.label_reader.LabelReader.end_division.Goals as goal

pub returns-then-not-ends_division-clause-refused : goal.returns-then-not-ends_division-clause-refused
returns-then-not-ends_division-clause-refused c =
    let l = c.self.inside.divisions in
    let k : length l ≡ c.len.result = sym c.len.ensures in
    let e : ends_division (length l) c.self.inside.number ≡ false = ap (λ m. ends_division m c.self.inside.number) k ∙ sym c.ends_division.ensures ∙ c.if-not-ends_division.true in
    (refl, λ b. refused_point l c.self.inside.number c.self.invariant.0 e (subst (λ v. BeginsLabelText (v ++ 46 ∷ [])) (sym c.self.view_is) b))

pub overflow_add-self : goal.overflow_add-self
overflow_add-self c = omega (arith, c.self.invariant.1, short _ _ c.self.invariant.0)

ends : (c : goal.After-self-2-1) → ends_division (length c.self.inside.divisions) c.self.inside.number ≡ true
ends c =
    let k : length c.self.inside.divisions ≡ c.len.result = sym c.len.ensures in
    ap (λ m. ends_division m c.self.inside.number) k ∙ sym c.ends_division.ensures ∙ c.if-not-ends_division.false

pub invariant_of-self-2 : goal.invariant_of-self-2
invariant_of-self-2 c =
    let l = c.self.inside.divisions in
    let n = c.self.inside.number in
    let t = taken_point l n (ended_some l n (ends c)) in
    let p : c.self.inside.place + 1 ≡ length (text_so_far (l ++ n ∷ []) 0) = omega (arith, c.self.invariant.1, ap length t, length-append (text_so_far l n) (46 ∷ [])) in
    subst (λ v. CanGoOn v 0 × (c.self.inside.place + 1 ≡ length (text_so_far v 0))) (sym c.in_ok-push.ensures.ok) (goes_on_by_point l n c.self.invariant.0 (ends c), p)

pub returns-clause-taken : goal.returns-clause-taken
returns-clause-taken c =
    let l = c.self.inside.divisions in
    let n = c.self.inside.number in
    ap (λ v. text_so_far v 0) c.in_ok-push.ensures.ok ∙ taken_point l n (ended_some l n (ends c)) ∙ ap (λ v. v ++ 46 ∷ []) c.self.view_is
