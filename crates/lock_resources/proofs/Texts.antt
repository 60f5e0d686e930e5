-- The text of a label with 1 behind its divisions.
use Rattle.std.proofs.Common.{◌≡◌, true, [], ◌∷◌, ◌++◌, refl, sym, ap, ◌∙◌, append_assoc, true≢false}
use Rattle.std.specs.Fmt.{decimal, digits}
use Rattle.dewey_labels.specs.Labels.{Label, is_label}
use Rattle.dewey_labels.specs.LabelText.{label_text}
use Rattle.dewey_labels.proofs.LabelTexts.{label_text-cons, after}

one : decimal 1 ≡ 49 ∷ []
unfolding digits
one = refl

after_and_one : (l : Label) → after (l ++ 1 ∷ []) ≡ after l ++ (46 ∷ 49 ∷ [])
after_and_one [] = ap (λ v. 46 ∷ v) one
after_and_one (d ∷ l) =
    ap (λ v. 46 ∷ v) (label_text-cons d (l ++ 1 ∷ []) ∙ ap (λ v. decimal d ++ v) (after_and_one l) ∙ sym (append_assoc (decimal d) (after l) (46 ∷ 49 ∷ [])) ∙ ap (λ v. v ++ (46 ∷ 49 ∷ [])) (sym (label_text-cons d l)))

pub text_and_one : (l : Label) → is_label l ≡ true → label_text (l ++ 1 ∷ []) ≡ label_text l ++ (46 ∷ 49 ∷ [])
text_and_one [] h = absurd (true≢false (sym h))
text_and_one (d ∷ l) h =
    label_text-cons d (l ++ 1 ∷ []) ∙ ap (λ v. decimal d ++ v) (after_and_one l) ∙ sym (append_assoc (decimal d) (after l) (46 ∷ 49 ∷ [])) ∙ ap (λ v. v ++ (46 ∷ 49 ∷ [])) (sym (label_text-cons d l))
