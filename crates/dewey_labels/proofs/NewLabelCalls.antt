-- From what the calls for new labels put together to what they answer.
use Rattle.std.proofs.Common.{◌≡◌, IsTrue, Option, Some, None, IsSome, IfSome, Result, Ok, Err, IfOk, ◌↔◌, ℕ, true, false, true≢false, if◌then◌else◌, List, ◌++◌, Less, nat_cmp, refl, sym, ap, subst, ◌∙◌}
use Rattle.std.specs.Cmp.Lexicographic.{slice_cmp}
use Rattle.std.specs.Option.{ok_or}
use Rattle.dewey_labels.specs.Labels.{Label, is_child, is_label, is_within, IsLabel}
use Rattle.dewey_labels.specs.Sides.{rest}
use Rattle.dewey_labels.specs.NewLabels.{alone, after, before, between, new_divisions, AreNeighbours}
use Rattle.dewey_labels.proofs.Labels.{child_label}
use Rattle.dewey_labels.proofs.NewLabels.{new_child, new_behind, new_ahead}
use Rattle.dewey_labels.proofs.Limits.{within_of_test, test_of_within}

-- the new divisions as each call puts them together, from the parent's and the neighbours' codes as it read them
pub first_made : (p ds out : List ℕ) → ds ≡ p → out ≡ ds ++ alone → out ≡ new_divisions p None None
first_made p ds out e made = made ∙ ap (λ v. v ++ alone) e

pub after_made : (p l ds a out : List ℕ) → ds ≡ p → a ≡ rest p l → out ≡ ds ++ after a → out ≡ new_divisions p (Some l) None
after_made p l ds a out e f made = made ∙ ap (λ v. v ++ after a) e ∙ ap (λ v. p ++ after v) f

pub before_made : (p r ds b out : List ℕ) → ds ≡ p → b ≡ rest p r → out ≡ ds ++ before b → out ≡ new_divisions p None (Some r)
before_made p r ds b out e f made = made ∙ ap (λ v. v ++ before b) e ∙ ap (λ v. p ++ before v) f

pub between_made : (p l r ds a b out : List ℕ) → ds ≡ p → a ≡ rest p l → b ≡ rest p r → out ≡ ds ++ between a b → out ≡ new_divisions p (Some l) (Some r)
between_made p l r ds a b out e f g made =
    made ∙ ap (λ v. v ++ between a b) e ∙ ap (λ v. p ++ between v b) f ∙ ap (λ v. p ++ between (rest p l) v) g

-- they are those of a label
pub made_label : (p : Label) (l r : Option Label) (d : Label) → is_label p ≡ true → AreNeighbours p l r → d ≡ new_divisions p l r → is_label d ≡ true
made_label p l r d label n made =
    subst (λ v. is_label v ≡ true) (sym made) (child_label p (new_divisions p l r) label (new_child p l r n))

-- an answer by the label's own test is an answer by the limits
pub found_within : {E : Type 0} (d : Label) (e : E) (found : Option Label)
    → is_label d ≡ true → (IsSome found ↔ IsLabel d) → IfSome found (λ l. l ≡ d) → ok_or found e ≡ (if is_within d then Ok d else Err e)
found_within d e None label is same =
    elim (is_within d) as (λ b. is_within d ≡ b → Err e ≡ (if b then Ok d else Err e)) [
      | true ↦ λ t. absurd (true≢false (sym (is.1 (label, within_of_test d t))))
      | false ↦ λ _. refl
    ] refl
found_within d e (Some l) label is same = ap Ok same ∙ sym (ap (λ b. if b then Ok d else Err e) (test_of_within d (is.0 refl).1))

-- the divisions, unless they pass a limit
abbrev pub AnswersWithin : {E : Type 0} → Label → E → Result Label E → Type 0
AnswersWithin d e result = result ≡ (if is_within d then Ok d else Err e)

-- what holds of the new divisions holds of the label that is answered
answered : {E : Type 0} (P : Label → Type 0) (new d : Label) (e : E) (result : Result Label E) → d ≡ new → P new → AnswersWithin d e result → IfOk result P
answered P new d e result made h is =
    subst (λ r. IfOk r P) (sym is) (elim (is_within d) as (λ b. IfOk (if b then Ok d else Err e) P) [
      | true ↦ subst P (sym made) h
      | false ↦ tt
    ])

pub answered_child : {E : Type 0} (p : Label) (l r : Option Label) (d : Label) (e : E) (result : Result Label E)
    → AreNeighbours p l r → d ≡ new_divisions p l r → AnswersWithin d e result → IfOk result (λ new. IsTrue (is_child p new))
answered_child p l r d e result n made = answered (λ new. IsTrue (is_child p new)) _ d e result made (new_child p l r n)

pub answered_behind : {E : Type 0} (p l : Label) (r : Option Label) (d : Label) (e : E) (result : Result Label E)
    → AreNeighbours p (Some l) r → d ≡ new_divisions p (Some l) r → AnswersWithin d e result → IfOk result (λ new. slice_cmp nat_cmp l new ≡ Less)
answered_behind p l r d e result n made = answered (λ new. slice_cmp nat_cmp l new ≡ Less) _ d e result made (new_behind p l r n)

pub answered_ahead : {E : Type 0} (p r : Label) (l : Option Label) (d : Label) (e : E) (result : Result Label E)
    → AreNeighbours p l (Some r) → d ≡ new_divisions p l (Some r) → AnswersWithin d e result → IfOk result (λ new. slice_cmp nat_cmp new r ≡ Less)
answered_ahead p r l d e result n made = answered (λ new. slice_cmp nat_cmp new r ≡ Less) _ d e result made (new_ahead p r l n)
