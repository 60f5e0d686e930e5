-- A label is found again by its text, and by no other text.
use Rattle.std.proofs.Common.{◌≡◌, ◌≢◌, if◌then◌else◌, ℕ, ◌^◌, ◌≤◌, ◌<◌, Bool, true, false, ◌&&◌, eqb, List, [], ◌∷◌, map, refl, sym, ap, subst, ◌∙◌, arith}
use Rattle.std.specs.Prelude.{Some, None, Result, Ok, Err, IfOk, IfErr}
use Rattle.std.specs.List.{AllByRecursion, All}
use Rattle.std.specs.Str.{bytes_eq}
use Rattle.std.specs.Str.Parse.{digits_value}
use Rattle.std.specs.Fmt.{decimal}
use Rattle.std.proofs.lemmas.Fmt.{decimal_is_IsNumeral}
use Rattle.std.proofs.lemmas.Bool.{ne_eqb}
use Rattle.std.proofs.lemmas.Slice.Eq.{bytes_eq-Decides}
use Rattle.std.proofs.lemmas.List.Elements.{All-from_recursion}
use Rattle.std.proofs.lemmas.List.Splits.{slice_split_none, slice_split_at}
use Rattle.dewey_labels.specs.Labels.{Label, greatest, is_label_within, IsLabel}
use Rattle.dewey_labels.specs.LabelText.{label_text, numbers_in, if_text_of, label_of, HasCause}
use Rattle.dewey_labels.specs.declared.label_text.LabelTextError.{LabelTextError}
use Rattle.dewey_labels.specs.declared.label_text.LabelTextError.TheVariants.{NotALabel, NoMemory}
use Rattle.dewey_labels.proofs.Decimals.{Digits, decimal_digits}
use Rattle.dewey_labels.proofs.LabelTexts.{AllSmall}
use Rattle.dewey_labels.proofs.Limits.{label_of_test, test_of_label}

abbrev is_point : ℕ → Bool
is_point b = eqb b 46

no_point_by : (ds : List ℕ) → Digits ds → AllByRecursion (λ b. is_point b ≡ false) ds
no_point_by [] d = tt
no_point_by (x ∷ ds) d = (ne_eqb x 46 (λ e. omega (arith, d.0.0, e)), no_point_by ds d.1)

no_point : (d : ℕ) → d < 2 ^ 64 → All (λ b. is_point b ≡ false) (decimal d)
no_point d h = All-from_recursion _ (decimal d) (no_point_by (decimal d) (decimal_digits d h))

small : (d : ℕ) → d ≤ greatest → d < 2 ^ 64
small d h = omega arith

read_decimal : (d : ℕ) → d ≤ greatest → digits_value 10 (decimal d) ≡ d
read_decimal d h = (decimal_is_IsNumeral d (small d h)).1

-- the numbers in a label's text are its divisions
pub numbers-label_text : (d : ℕ) (l : Label) → AllSmall (d ∷ l) → numbers_in (label_text (d ∷ l)) ≡ d ∷ l
numbers-label_text d [] h = ap (map (digits_value 10)) (slice_split_none is_point (decimal d) (no_point d (small d h.0))) ∙ ap (λ n. n ∷ []) (read_decimal d h.0)
numbers-label_text d (e ∷ l) h =
    ap (map (digits_value 10)) (slice_split_at is_point (decimal d) 46 (label_text (e ∷ l)) (no_point d (small d h.0)) refl)
    ∙ (λ i. read_decimal d h.0 i ∷ numbers-label_text e l h.1 i)

-- each of the parts of a test holds
both : (a b : Bool) → (a && b) ≡ true → (a ≡ true) × (b ≡ true)
both true b h = (refl, h)
both false b h = cc

same_text : (xs : List ℕ) → bytes_eq xs xs ≡ true
same_text xs = (bytes_eq-Decides xs xs).1 refl

-- a label is found by its text
pub label_of-label_text : (l : Label) → IsLabel l → label_of (label_text l) ≡ Some l
label_of-label_text [] h = cc h.0
label_of-label_text (d ∷ l) h =
    let numbers : numbers_in (label_text (d ∷ l)) ≡ d ∷ l = numbers-label_text d l h.1.1 in
    ap (if_text_of (label_text (d ∷ l))) numbers
    ∙ (λ i. if test_of_label (d ∷ l) h i && same_text (label_text (d ∷ l)) i then Some (d ∷ l) else None)

-- what is found has the text
found_by : (t : List ℕ) (l m : Label) (b : Bool) → (is_label_within m && bytes_eq (label_text m) t) ≡ b → (if b then Some m else None) ≡ Some l → IsLabel l × (t ≡ label_text l)
found_by t l m false e h = cc
found_by t l m true e h =
    let same : m ≡ l = cc in
    let is = both (is_label_within m) (bytes_eq (label_text m) t) e in
    subst (λ k. IsLabel k × (t ≡ label_text k)) same (label_of_test m is.0, sym ((bytes_eq-Decides (label_text m) t).0 is.1))

pub label_of_is : (t : List ℕ) (l : Label) → label_of t ≡ Some l → IsLabel l × (t ≡ label_text l)
label_of_is t l h = found_by t l (numbers_in t) _ refl h

-- no label is found by what is no label's text
pub label_of_none : (t : List ℕ) → ((l : Label) → IsLabel l → t ≡ label_text l → ⊥) → label_of t ≡ None
label_of_none t h = elim (label_of t) as (λ o. label_of t ≡ o → o ≡ None) [ None ↦ λ _. refl | Some l ↦ λ e. let is = label_of_is t l e in absurd (h l is.0 is.1) ] refl

-- what a reader of label texts answers, by what it says of its label and of its refusal
pub found_is : (t : List ℕ) (r : Result Label LabelTextError) → IfOk r (λ l. IsLabel l × (t ≡ label_text l)) → IfOk r (λ l. label_of t ≡ Some l)
found_is t (Ok l) h = ap label_of h.1 ∙ label_of-label_text l h.0
found_is t (Err e) h = tt

refused_is : (t : List ℕ) (e : LabelTextError) → HasCause t e → e ≢ NoMemory → label_of t ≡ None
refused_is t (NotALabel place) h apart = label_of_none t (λ l is same. h.none (l, is, same))
refused_is t NoMemory h apart = absurd (apart refl)

pub none_is : (t : List ℕ) (r : Result Label LabelTextError) → IfErr r (HasCause t) → IfErr r (λ e. e ≢ NoMemory → label_of t ≡ None)
none_is t (Ok l) h = tt
none_is t (Err e) h = refused_is t e h
