-- The child of a label on the way to another one below it is a label.
use Rattle.std.proofs.Common.{◌≡◌, ℕ, ◌+◌, ◌≤◌, true, false, cond, not, ◌&&◌, nat_le, List, [], ◌∷◌, ◌++◌, length, take, drop, refl, sym, ap, subst, ◌∙◌, arith, true≢false, append_assoc, append-nil, length-append}
use Rattle.std.proofs.Math.Seq.{take-append_seam, drop-append_seam}
use Rattle.dewey_labels.specs.Labels.{Label, is_odd, is_code, is_child, are_codes, is_label, is_ancestor, Within, IsLabel}
use Rattle.dewey_labels.specs.Sides.{side, is_under, rest, first_code}
use Rattle.dewey_labels.proofs.Labels.{are_codes-tail, child_label, Within-begins}
use Rattle.dewey_labels.proofs.Codes.{first_of_both, second_of_both, is_child_append}
use Rattle.dewey_labels.proofs.Sides.{in_is, side_itself, ancestor_under, under_is_in}
use Rattle.dewey_labels.specs.Lists.{is_empty}

-- what stands behind codes in a row, in codes in a row, is codes in a row
codes_behind : (d : ℕ) (ds w : List ℕ) → are_codes (d ∷ ds) ≡ true → are_codes ((d ∷ ds) ++ w) ≡ true → are_codes w ≡ true
codes_behind d [] w h g =
    elim (is_odd d) as (λ b. cond b (nat_le 3 d && true) (nat_le 2 d && false) ≡ true → cond b (nat_le 3 d && are_codes w) (nat_le 2 d && (not (is_empty w) && are_codes w)) ≡ true → are_codes w ≡ true) [
      | true ↦ λ a b. second_of_both (nat_le 3 d) _ b
      | false ↦ λ a b. absurd (true≢false (sym (second_of_both (nat_le 2 d) _ a)))
    ] h g
codes_behind d (e ∷ ds) w h g = codes_behind e ds w (are_codes-tail d e ds h) (are_codes-tail d e (ds ++ w) g)

label_behind : (p w : List ℕ) → is_label p ≡ true → is_label (p ++ w) ≡ true → are_codes w ≡ true
label_behind [] w h g = cc
label_behind (x ∷ []) w h g = second_of_both _ _ g
label_behind (x ∷ d ∷ p) w h g = codes_behind d p w (second_of_both _ _ h) (second_of_both _ _ g)

-- the first of codes in a row is a code
first_is_code : (d : ℕ) (w : List ℕ) → are_codes (d ∷ w) ≡ true → is_code (first_code (d ∷ w)) ≡ true
first_is_code d [] h =
    elim (is_odd d) as (λ b. is_odd d ≡ b → cond b (nat_le 3 d && true) (nat_le 2 d && false) ≡ true → is_code (cond b (d ∷ []) (d ∷ [])) ≡ true) [
      | true ↦ λ o a. ap (λ b. cond b (nat_le 3 d && true) (nat_le 2 d && false)) o ∙ a
      | false ↦ λ o a. absurd (true≢false (sym (second_of_both (nat_le 2 d) _ a)))
    ] refl h
first_is_code d (e ∷ w) h =
    elim (is_odd d) as (λ b. is_odd d ≡ b → cond b (nat_le 3 d && are_codes (e ∷ w)) (nat_le 2 d && are_codes (e ∷ w)) ≡ true → is_code (cond b (d ∷ []) (d ∷ first_code (e ∷ w))) ≡ true) [
      | true ↦ λ o a. ap (λ b. cond b (nat_le 3 d && true) (nat_le 2 d && false)) o ∙ ap (λ b. b && true) (first_of_both (nat_le 3 d) (are_codes (e ∷ w)) a)
      | false ↦ λ o a. ap (λ b. cond b (nat_le 3 d && is_empty (first_code (e ∷ w))) (nat_le 2 d && is_code (first_code (e ∷ w)))) o ∙ (λ i. first_of_both (nat_le 2 d) (are_codes (e ∷ w)) a i && first_is_code e w (second_of_both (nat_le 2 d) _ a) i)
    ] refl h

-- the first code is a beginning
first_begins : (w : List ℕ) → (more : List ℕ) × (w ≡ first_code w ++ more)
first_begins [] = ([], refl)
first_begins (d ∷ w) = elim (is_odd d) as (λ b. (more : List ℕ) × (d ∷ w ≡ cond b (d ∷ []) (d ∷ first_code w) ++ more)) [
  | true ↦ (w, refl)
  | false ↦ let r = first_begins w in (r.0, ap (λ v. d ∷ v) r.1)
]

-- under a label lies what goes on behind it
pub record GoesOn (p l : Label) : Type 0 where
  pub next : ℕ
  pub more : List ℕ
  pub rest_is : rest p l ≡ next ∷ more
  pub whole : l ≡ p ++ (next ∷ more)

pub under_goes_on : (p l : Label) → is_under (side p l) ≡ true → GoesOn p l
under_goes_on p l h = elim (rest p l) as (λ r. rest p l ≡ r → GoesOn p l) [
  | [] ↦ λ e. let same_label : l ≡ p = in_is p l (under_is_in (side p l) h) ∙ ap (λ r. p ++ r) e ∙ append-nil p in absurd (true≢false (sym h ∙ ap is_under (ap (side p) same_label ∙ side_itself p)))
  | d ∷ w ↦ λ e. record { next = d; more = w; rest_is = e; whole = in_is p l (under_is_in (side p l) h) ∙ ap (λ r. p ++ r) e }
] refl

pub toward_is_child : (p l : Label) → is_label p ≡ true → is_label l ≡ true → is_under (side p l) ≡ true → is_child p (p ++ first_code (rest p l)) ≡ true
toward_is_child p l hp hl h =
    let on = under_goes_on p l h in
    let codes : are_codes (on.next ∷ on.more) ≡ true = label_behind p (on.next ∷ on.more) hp (ap is_label (sym on.whole) ∙ hl) in
    subst (λ r. is_child p (p ++ first_code r) ≡ true) (sym on.rest_is) (is_child_append p (first_code (on.next ∷ on.more)) (first_is_code on.next on.more codes))

pub toward_is_label : (p l : Label) → IsLabel p → IsLabel l → is_under (side p l) ≡ true → IsLabel (p ++ first_code (rest p l))
toward_is_label p l hp hl h =
    let on = under_goes_on p l h in
    let w : List ℕ = on.next ∷ on.more in
    let codes : are_codes w ≡ true = label_behind p w hp.0 (ap is_label (sym on.whole) ∙ hl.0) in
    let code : is_code (first_code w) ≡ true = first_is_code on.next on.more codes in
    let cut = first_begins w in
    let whole : l ≡ (p ++ first_code w) ++ cut.0 = on.whole ∙ ap (λ r. p ++ r) cut.1 ∙ sym (append_assoc p (first_code w) cut.0) in
    subst (λ r. IsLabel (p ++ first_code r)) (sym on.rest_is) (child_label p (p ++ first_code w) hp.0 (is_child_append p (first_code w) code), Within-begins (p ++ first_code w) cut.0 (subst Within whole hl.1))

-- cut out of the label below
pub toward_is_taken : (p l : Label) → is_under (side p l) ≡ true → (drop (length p) l ≡ rest p l) × (take (length p + length (first_code (rest p l))) l ≡ p ++ first_code (rest p l))
toward_is_taken p l h =
    let on = under_goes_on p l h in
    let w : List ℕ = on.next ∷ on.more in
    let cut = first_begins w in
    let whole : l ≡ (p ++ first_code w) ++ cut.0 = on.whole ∙ ap (λ r. p ++ r) cut.1 ∙ sym (append_assoc p (first_code w) cut.0) in (
      ap (drop (length p)) on.whole ∙ drop-append_seam p w ∙ sym on.rest_is,
      subst (λ r. take (length p + length (first_code r)) l ≡ p ++ first_code r) (sym on.rest_is) ((λ i. take (sym (length-append p (first_code w)) i) (whole i)) ∙ take-append_seam (p ++ first_code w) cut.0),
    )

-- the same by lengths, as a slice is cut
pub record Cut (p l : Label) : Type 0 where
  pub start : length p ≤ length l
  pub behind : drop (length p) l ≡ rest p l
  pub end : length p + length (first_code (rest p l)) ≤ length l
  pub is : take (length p + length (first_code (rest p l))) l ≡ p ++ first_code (rest p l)

pub cut_of : (p l : Label) → is_ancestor p l ≡ true → Cut p l
cut_of p l h =
    let below : is_under (side p l) ≡ true = sym (ancestor_under p l) ∙ h in
    let on = under_goes_on p l below in
    let w : List ℕ = on.next ∷ on.more in
    let cut = first_begins w in
    let count : length l ≡ length p + (length (first_code w) + length cut.0) = ap length (on.whole ∙ ap (λ r. p ++ r) cut.1) ∙ length-append p (first_code w ++ cut.0) ∙ ap (λ n. length p + n) (length-append (first_code w) cut.0) in
    let taken = toward_is_taken p l below in
    let code : length (first_code (rest p l)) ≡ length (first_code w) = ap (λ r. length (first_code r)) on.rest_is in
    record { start = omega arith; behind = taken.0; end = omega arith; is = taken.1 }
