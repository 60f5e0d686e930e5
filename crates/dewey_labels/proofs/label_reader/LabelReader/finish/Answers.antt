use Rattle.std.proofs.Common.{◌≡◌, sym, ap, subst, ◌∙◌, ◌++◌, ◌∷◌, []}
use Rattle.dewey_labels.specs.Labels.{IsLabel}
use Rattle.dewey_labels.specs.LabelText.{label_text, IsLabelText}
use Rattle.dewey_labels.specs.inside.LabelReader.{text_so_far, CanGoOn}
use Rattle.dewey_labels.proofs.Reading.{not_begun, not_whole, whole_text, found_whole, found_none}
use Rattle.dewey_labels.proofs.label_reader.LabelReader.finish.Goals as goal

pub returns-then-number-eq0-clause-none : goal.returns-then-number-eq0-clause-none
returns-then-number-eq0-clause-none c = λ t.
    let z = c.if-number-eq0.true in
    let g : CanGoOn c.self.inside.divisions 0 = subst (λ n. CanGoOn c.self.inside.divisions n) z c.self.invariant.0 in
    not_begun c.self.inside.divisions g (subst IsLabelText (sym c.self.view_is ∙ ap (text_so_far c.self.inside.divisions) z) t)

-- the divisions that were read
read : (c : goal.After-of) → c.push.new.self ≡ c.self.inside.divisions ++ c.self.inside.number ∷ []
read c = c.in_ok-push.ensures.ok

pub returns-clause-label : goal.returns-clause-label
returns-clause-label c =
    found_whole c.of.result c.push.new.self c.args.self c.of.ensures.label.0 c.of.ensures.divisions
    (sym c.self.view_is ∙ whole_text c.self.inside.divisions c.self.inside.number c.if-number-eq0.false ∙ ap label_text (sym (read c)))

pub returns-clause-none : goal.returns-clause-none
returns-clause-none c =
    found_none c.of.result c.push.new.self c.args.self c.of.ensures.label.1
    (λ h t. not_whole c.self.inside.divisions c.self.inside.number c.self.invariant.0 c.if-number-eq0.false (λ i. h (subst IsLabel (sym (read c)) i)) (subst IsLabelText (sym c.self.view_is) t))
