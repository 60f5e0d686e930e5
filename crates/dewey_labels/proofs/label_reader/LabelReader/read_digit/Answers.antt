use Rattle.std.proofs.Common.{◌≡◌, ◌+◌, ◌*◌, true, false, refl, sym, ap, subst, ◌∙◌, ◌++◌, ◌∷◌, [], length, length-append, arith}
use Rattle.dewey_labels.specs.LabelText.{BeginsLabelText}
use Rattle.dewey_labels.specs.inside.LabelReader.{begins_division, text_so_far, CanGoOn}
use Rattle.dewey_labels.proofs.Reading.{refused_digit, taken_digit, goes_on_by_digit, short}
use Rattle.dewey_labels.proofs.label_reader.LabelReader.read_digit.Goals as goal

pub returns-then-not-begins_division-clause-refused : goal.returns-then-not-begins_division-clause-refused
returns-then-not-begins_division-clause-refused c =
    let l = c.self.inside.divisions in
    let n = c.self.inside.number in
    let k : length l ≡ c.len.result = sym c.len.ensures in
    let q : n * 10 + c.args.digit ≡ c.from.result * 10 + c.from-2.result = omega arith in
    let e : begins_division (length l) (n * 10 + c.args.digit) ≡ false =
    (λ i. begins_division (k i) (q i)) ∙ sym c.begins_division.ensures ∙ c.if-not-begins_division.true in
    (refl, λ b. refused_digit l n c.args.digit c.self.invariant.0 (omega arith) e (subst (λ v. BeginsLabelText (v ++ (48 + c.args.digit) ∷ [])) (sym c.self.view_is) b))

pub overflow_add-self : goal.overflow_add-self
overflow_add-self c = omega (arith, c.self.invariant.1, short _ _ c.self.invariant.0)

begins : (c : goal.After-self-2-1) → begins_division (length c.self.inside.divisions) (c.self.inside.number * 10 + c.args.digit) ≡ true
begins c =
    let k : length c.self.inside.divisions ≡ c.len.result = sym c.len.ensures in
    let q : c.self.inside.number * 10 + c.args.digit ≡ c.from.result * 10 + c.from-2.result = omega arith in
    (λ i. begins_division (k i) (q i)) ∙ sym c.begins_division.ensures ∙ c.if-not-begins_division.false

pub invariant_of-self : goal.invariant_of-self
invariant_of-self c =
    let l = c.self.inside.divisions in
    let n = c.self.inside.number in
    let q : n * 10 + c.args.digit ≡ c.from.result * 10 + c.from-2.result = omega arith in
    let t = taken_digit l n c.args.digit c.self.invariant.0 (omega arith) (begins c) in
    let p : c.self.inside.place + 1 ≡ length (text_so_far l (n * 10 + c.args.digit)) = omega (arith, c.self.invariant.1, ap length t, length-append (text_so_far l n) ((48 + c.args.digit) ∷ [])) in
    subst (λ m. CanGoOn l m × (c.self.inside.place + 1 ≡ length (text_so_far l m))) q (goes_on_by_digit l n (n * 10 + c.args.digit) c.self.invariant.0 (begins c), p)

pub returns-clause-taken : goal.returns-clause-taken
returns-clause-taken c =
    let l = c.self.inside.divisions in
    let q : c.from.result * 10 + c.from-2.result ≡ c.self.inside.number * 10 + c.args.digit = omega arith in
    ap (text_so_far l) q ∙ taken_digit l c.self.inside.number c.args.digit c.self.invariant.0 (omega arith) (begins c) ∙ ap (λ v. v ++ (48 + c.args.digit) ∷ []) c.self.view_is
