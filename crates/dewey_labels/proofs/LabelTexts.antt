-- Laws of label texts: each is that of one label alone.
use Rattle.std.proofs.Common.{◌≡◌, ℕ, suc, ◌+◌, ◌≤◌, ◌<◌, false, List, [], ◌∷◌, ◌++◌, ◌⊎◌, inl, inr, length, refl, sym, ap, subst, ◌∙◌, arith, true≢false, append_assoc, append-nil, take, get_or}
use Rattle.std.specs.List.{AllByRecursion}
use Rattle.std.specs.Fmt.{decimal}
use Rattle.std.proofs.lemmas.Fmt.{decimal_nonempty, decimal_injective}
use Rattle.std.proofs.lemmas.List.{length-take-le}
use Rattle.std.proofs.Math.Seq.{take-suc}
use Rattle.dewey_labels.specs.Labels.{Label, greatest}
use Rattle.dewey_labels.specs.LabelText.{label_text}
use Rattle.dewey_labels.specs.inside.LabelReader.{ended_text}
use Rattle.dewey_labels.proofs.Decimals.{IsDigit, Digits, NoDigitFirst, decimal_digits, same_digits}
use Rattle.dewey_labels.specs.Lists.{is_empty}

abbrev pub AllSmall : List ℕ → Type 0
AllSmall l = AllByRecursion (λ d. d ≤ greatest) l

of_digits : (ds : List ℕ) → Digits ds → AllByRecursion (λ c. IsDigit c ⊎ (c ≡ 46)) ds
of_digits [] d = tt
of_digits (x ∷ ds) d = (inl d.0, of_digits ds d.1)

behind : (a b : List ℕ) → AllByRecursion (λ c. IsDigit c ⊎ (c ≡ 46)) a → AllByRecursion (λ c. IsDigit c ⊎ (c ≡ 46)) b → AllByRecursion (λ c. IsDigit c ⊎ (c ≡ 46)) (a ++ b)
behind [] b d e = e
behind (x ∷ a) b d e = (d.0, behind a b d.1 e)

-- what follows the first division of a label's text
abbrev pub after : Label → List ℕ
after [] = []
after (d ∷ l) = 46 ∷ label_text (d ∷ l)

pub label_text-cons : (d : ℕ) (l : Label) → label_text (d ∷ l) ≡ decimal d ++ after l
label_text-cons d [] = sym (append-nil (decimal d))
label_text-cons d (e ∷ l) = refl

pub after_no_digit : (l : Label) → NoDigitFirst (after l)
after_no_digit [] = tt
after_no_digit (d ∷ l) = λ h. omega arith

decimal_some : (d : ℕ) → d ≤ greatest → decimal d ≡ [] → ⊥
decimal_some d s e = omega (arith, decimal_nonempty d (omega arith), ap length e)

pub text_some : (d : ℕ) (l : Label) → d ≤ greatest → label_text (d ∷ l) ≡ [] → ⊥
text_some d l s e = decimal_some d s (begins_nothing (decimal d) (after l) (sym (label_text-cons d l) ∙ e))
  where
    begins_nothing : (a b : List ℕ) → a ++ b ≡ [] → a ≡ []
    begins_nothing [] b h = refl
    begins_nothing (x ∷ a) b h = absurd (cc)

-- two texts with the same first division
same_first : (d e : ℕ) (v w : List ℕ) → d ≤ greatest → e ≤ greatest → NoDigitFirst v → NoDigitFirst w → decimal d ++ v ≡ decimal e ++ w → (d ≡ e) × (v ≡ w)
same_first d e v w s t nv nw h =
    let r = same_digits (decimal d) (decimal e) v w (decimal_digits d (omega arith)) (decimal_digits e (omega arith)) nv nw h in
    (decimal_injective d e (omega arith) (omega arith) r.0, r.1)

texts_behind : (a b : Label) → after a ≡ after b → label_text a ≡ label_text b
texts_behind [] [] h = refl
texts_behind [] (e ∷ b) h = absurd (cc)
texts_behind (d ∷ a) [] h = absurd (cc)
texts_behind (d ∷ a) (e ∷ b) h = cc

-- no two labels have the same text
pub label_text-injective : (a b : Label) → AllSmall a → AllSmall b → label_text a ≡ label_text b → a ≡ b
label_text-injective [] [] s t h = refl
label_text-injective [] (e ∷ b) s t h = absurd (text_some e b t.0 (sym h))
label_text-injective (d ∷ a) [] s t h = absurd (text_some d a s.0 h)
label_text-injective (d ∷ a) (e ∷ b) s t h =
    let r = same_first d e (after a) (after b) s.0 t.0 (after_no_digit a) (after_no_digit b) (sym (label_text-cons d a) ∙ h ∙ label_text-cons e b) in
    let k = label_text-injective a b s.1 t.1 (texts_behind a b r.1) in
    λ i. r.0 i ∷ k i

-- l begins with the divisions ds, and r is the text of what follows them
pub record GoesOn (ds r l : List ℕ) : Type 0 where
  pub behind : Label
  pub is : l ≡ ds ++ behind
  pub text : r ≡ label_text behind
  pub some : is_empty ds ≡ false → is_empty behind ≡ false

-- a label's text that begins with ended divisions is that of a label with these
pub goes_on : (ds r l : List ℕ) → AllSmall ds → AllSmall l → ended_text ds ++ r ≡ label_text l → GoesOn ds r l
goes_on [] r l s t h = record { behind = l; is = refl; text = h; some = λ e. absurd (true≢false e) }
goes_on (d ∷ ds) r [] s t h = absurd (decimal_some d s.0 (begins_nothing (decimal d) _ (sym (append_assoc (decimal d) (46 ∷ ended_text ds) r) ∙ h)))
  where
    begins_nothing : (a b : List ℕ) → a ++ b ≡ [] → a ≡ []
    begins_nothing [] b h = refl
    begins_nothing (x ∷ a) b h = absurd (cc)
goes_on (d ∷ ds) r (e ∷ []) s t h =
    let k = same_first d e (46 ∷ (ended_text ds ++ r)) [] s.0 t.0 (λ g. omega arith) tt (sym (append_assoc (decimal d) (46 ∷ ended_text ds) r) ∙ h ∙ label_text-cons e []) in
    absurd (no_point (ended_text ds ++ r) k.1)
  where
    no_point : (x : List ℕ) → 46 ∷ x ≡ [] → ⊥
    no_point x g = cc
goes_on (d ∷ ds) r (e ∷ f ∷ l) s t h =
    let k = same_first d e (46 ∷ (ended_text ds ++ r)) (after (f ∷ l)) s.0 t.0 (λ g. omega arith) (after_no_digit (f ∷ l)) (sym (append_assoc (decimal d) (46 ∷ ended_text ds) r) ∙ h) in
    let m : ended_text ds ++ r ≡ label_text (f ∷ l) = tail_is _ _ k.1 in
    let at = goes_on ds r (f ∷ l) s.1 t.1 m in
    record { behind = at.behind; is = λ i. sym k.0 i ∷ at.is i; text = at.text; some = λ _. some_behind ds at.behind at.is at.some }
  where
    tail_is : (x y : List ℕ) → 46 ∷ x ≡ 46 ∷ y → x ≡ y
    tail_is x y g = cc

    some_behind : (ds b : List ℕ) → f ∷ l ≡ ds ++ b → (is_empty ds ≡ false → is_empty b ≡ false) → is_empty b ≡ false
    some_behind [] b g some = ap is_empty (sym g)
    some_behind (x ∷ ds) b g some = some refl

-- the text of ended divisions and a label's text behind them
pub text_behind : (ds : List ℕ) (e : ℕ) (l : Label) → label_text (ds ++ e ∷ l) ≡ ended_text ds ++ label_text (e ∷ l)
text_behind [] e l = refl
text_behind (d ∷ []) e l = sym (append_assoc (decimal d) (46 ∷ []) (label_text (e ∷ l)))
text_behind (d ∷ x ∷ ds) e l = ap (λ v. decimal d ++ (46 ∷ v)) (text_behind (x ∷ ds) e l) ∙ sym (append_assoc (decimal d) (46 ∷ ended_text (x ∷ ds)) (label_text (e ∷ l)))

abbrev pub IsTextByte : ℕ → Type 0
IsTextByte c = IsDigit c ⊎ (c ≡ 46)

-- a label's text is of digits and points
pub text_bytes : (l : Label) → AllSmall l → AllByRecursion IsTextByte (label_text l)
text_bytes [] s = tt
text_bytes (d ∷ []) s = of_digits (decimal d) (decimal_digits d (omega arith))
text_bytes (d ∷ e ∷ l) s = behind (decimal d) (46 ∷ label_text (e ∷ l)) (of_digits (decimal d) (decimal_digits d (omega arith))) (inr refl, text_bytes (e ∷ l) s.1)

-- one more division
label_text-push : (e : ℕ) (l : Label) (d : ℕ) → label_text ((e ∷ l) ++ d ∷ []) ≡ (label_text (e ∷ l) ++ 46 ∷ []) ++ decimal d
label_text-push e [] d = sym (append_assoc (decimal e) (46 ∷ []) (decimal d))
label_text-push e (f ∷ l) d =
    ap (λ v. decimal e ++ (46 ∷ v)) (label_text-push f l d)
    ∙ sym (append_assoc (decimal e) (46 ∷ (label_text (f ∷ l) ++ 46 ∷ [])) (decimal d))
    ∙ ap (λ v. v ++ decimal d) (sym (append_assoc (decimal e) (46 ∷ label_text (f ∷ l)) (46 ∷ [])))

push_some : (w : Label) (d : ℕ) → 0 < length w → label_text (w ++ d ∷ []) ≡ (label_text w ++ 46 ∷ []) ++ decimal d
push_some [] d h = absurd (omega arith)
push_some (e ∷ w) d h = label_text-push e w d

-- the text of the divisions so far, and one more
pub more_text : (l : Label) (i : ℕ) (s : List ℕ) → i < length l → 0 < i → s ≡ label_text (take i l) → (s ++ 46 ∷ []) ++ decimal (get_or l i 0) ≡ label_text (take (i + 1) l)
more_text l i s h p e =
    let next : suc i ≡ i + 1 = omega arith in
    ap (λ v. (v ++ 46 ∷ []) ++ decimal (get_or l i 0)) e
    ∙ sym (push_some (take i l) (get_or l i 0) (omega (arith, length-take-le i l (omega arith))))
    ∙ ap label_text (sym (take-suc l i 0 h) ∙ ap (λ k. take k l) next)

pub first_text : (l : Label) (i : ℕ) (s : List ℕ) → i < length l → i ≡ 0 → s ≡ label_text (take i l) → s ++ decimal (get_or l i 0) ≡ label_text (take (i + 1) l)
first_text [] i s h z e = absurd (omega arith)
first_text (d ∷ l) i s h z e = subst (λ k. s ≡ label_text (take k (d ∷ l)) → s ++ decimal (get_or (d ∷ l) k 0) ≡ label_text (take (k + 1) (d ∷ l))) (sym z) (λ f. ap (λ v. v ++ decimal d) f) e
