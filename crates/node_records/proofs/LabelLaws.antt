-- The bytes of a label: what is written is read again, what is read was written so.
use Rattle.std.proofs.Common.{◌≡◌, ℕ, zero, suc, ◌+◌, ◌<◌, ◌≤◌, true, false, cond, ◌&&◌, not, nat_le, ◌==◌, ◌^◌, List, [], ◌∷◌, ◌++◌, length, get_or, drop, Some, None, refl, sym, ap, subst, ◌∙◌, append_assoc, arith, length-append, leb-true}
use Rattle.std.proofs.lemmas.Bool.{eqb-true}
use Rattle.std.proofs.lemmas.List.{drop_at}
use Rattle.std.proofs.lemmas.Option.{none-some, same_Some, cond_some}
use Rattle.std.specs.Prelude.{if◌then◌else◌}
use Rattle.std.specs.List.{AllByRecursion, flat_map}
use Rattle.dewey_labels.specs.Labels.{Label, IsLabel, is_label_within, is_odd, are_codes, greatest}
use Rattle.dewey_labels.proofs.Limits.{label_of_test, test_of_label}
use Rattle.dewey_labels.specs.Lists.{is_empty}
use Rattle.node_records.specs.Reads.{◌>>=◌, Takes}
use Rattle.outside_traits.specs.Bytes.{IsBytes}
use Rattle.node_records.specs.Divisions.{division_bytes, division_in}
use Rattle.node_records.specs.Labels.{label_bytes, divisions_in, label_in}
use Rattle.node_records.proofs.ReadLaws.{bind_some, takes_then, bytes_drop, both}
use Rattle.node_records.proofs.DivisionForms.{forms, division_again, division_written}

-- a division that a label may have
abbrev pub IsDivision : ℕ → Type 0
IsDivision d = (0 < d) × (d < 2 ^ 32)

codes_are : (ds : List ℕ) → are_codes ds ≡ true → AllByRecursion (λ d. d ≤ greatest) ds → AllByRecursion IsDivision ds
codes_are [] h small = tt
codes_are (d ∷ ds) h small =
    elim (is_odd d) as (λ t. cond t (nat_le 3 d && are_codes ds) (nat_le 2 d && (not (is_empty ds) && are_codes ds)) ≡ true → AllByRecursion IsDivision (d ∷ ds)) [
      | true ↦ λ q. let p = both (nat_le 3 d) (are_codes ds) q in let least = leb-true 3 d p.0 in ((omega arith, omega (arith, small.0)), codes_are ds p.1 small.1)
      | false ↦ λ q. let p = both (nat_le 2 d) (not (is_empty ds) && are_codes ds) q in let least = leb-true 2 d p.0 in ((omega arith, omega (arith, small.0)), codes_are ds (both (not (is_empty ds)) (are_codes ds) p.1).1 small.1)
    ] h

-- each division of a label
pub divisions_are : (l : Label) → IsLabel l → AllByRecursion IsDivision l
divisions_are [] h = tt
divisions_are (d ∷ ds) h =
    let p = both (d == 1) (are_codes ds) h.0 in
    let first : d ≡ 1 = eqb-true d 1 p.0 in
    ((omega (arith, first), omega (arith, first)), codes_are ds p.1 h.1.1.1)

-- a division begins with another byte than 00
begins : (d : ℕ) (t : List ℕ) → IsDivision d → (0 < length (division_bytes d ++ t)) × (get_or (division_bytes d ++ t) 0 0 ≡ 0 → ⊥)
begins d t h = forms (λ x. (0 < length (x ++ t)) × (get_or (x ++ t) 0 0 ≡ 0 → ⊥)) d
    (λ q. (omega arith, λ e. omega (arith, e, h.0)))
    (λ low high. (omega arith, λ e. omega (arith, e)))
    (λ low high. (omega arith, λ e. omega (arith, e)))
    (λ low. (omega arith, λ e. omega (arith, e)))

-- the division at the start is the first one
one_more : (n : ℕ) (rest : List ℕ) (d : ℕ × ℕ) → 0 < length rest → (get_or rest 0 0 ≡ 0 → ⊥) → division_in rest ≡ Some d
    → divisions_in (suc n) rest ≡ (divisions_in n (drop d.1 rest) >>= λ ds. Some (d.0 ∷ ds.0, d.1 + ds.1))
one_more n [] d some nonzero h = absurd (omega (arith, some))
one_more n (zero ∷ bs) d some nonzero h = absurd (nonzero refl)
one_more n (suc b ∷ bs) d some nonzero h = ap (λ r. r >>= λ x. divisions_in n (drop x.1 (suc b ∷ bs)) >>= λ ds. Some (x.0 ∷ ds.0, x.1 + ds.1)) h

divisions_again : (l : Label) (n : ℕ) (rest : List ℕ) → AllByRecursion IsDivision l → length l < n → divisions_in n (flat_map division_bytes l ++ 0 ∷ rest) ≡ Some (l, length (flat_map division_bytes l) + 1)
divisions_again [] zero rest h fits = absurd (omega (arith, fits))
divisions_again [] (suc n) rest h fits = refl
divisions_again (d ∷ l) zero rest h fits = absurd (omega (arith, fits))
divisions_again (d ∷ l) (suc n) rest h fits =
    let here = division_bytes d in
    let others = flat_map division_bytes l in
    let tail = others ++ 0 ∷ rest in
    let first = begins d tail h.0 in
    let again = divisions_again l n rest h.1 (omega (arith, fits)) in
    let counts : length here + (length others + 1) ≡ length (here ++ others) + 1 = omega (arith, length-append here others) in
    ap (divisions_in (suc n)) (append_assoc here others (0 ∷ rest))
    ∙ one_more n (here ++ tail) (d, length here) first.0 first.1 (division_again d tail h.0.1)
    ∙ ap (λ (t : List ℕ). divisions_in n t >>= λ ds. Some (d ∷ ds.0, length here + ds.1)) (drop_at here tail (length here) refl)
    ∙ ap (λ r. r >>= λ ds. Some (d ∷ ds.0, length here + ds.1)) again
    ∙ ap (λ (k : ℕ). Some (d ∷ l, k)) counts

pub label_again : (l : Label) (rest : List ℕ) → IsLabel l → label_in (label_bytes l ++ rest) ≡ Some (l, length (label_bytes l))
label_again l rest h =
    let all = flat_map division_bytes l in
    let counts : length all + 1 ≡ length (all ++ 0 ∷ []) = omega (arith, length-append all (0 ∷ [])) in
    ap label_in (append_assoc all (0 ∷ []) rest)
    ∙ ap (λ r. r >>= λ ds. if is_label_within ds.0 then Some ds else None) (divisions_again l 256 rest (divisions_are l h) (omega (arith, h.1.0)))
    ∙ ap (λ b. if b then Some (l, length all + 1) else None) (test_of_label l h)
    ∙ ap (λ (k : ℕ). Some (l, k)) counts

-- ---- what is read was written so

divisions_written : (n : ℕ) (bytes : List ℕ) (y : List ℕ × ℕ) → IsBytes bytes → divisions_in n bytes ≡ Some y → Takes (label_bytes y.0) y.1 bytes
divisions_written zero bytes y fits e = absurd (none-some y e)
divisions_written (suc n) [] y fits e = absurd (none-some y e)
divisions_written (suc n) (zero ∷ bs) y fits e =
    let end : Takes (label_bytes []) 1 (zero ∷ bs) = record { parts = refl; count = refl } in
    subst (λ (x : List ℕ × ℕ). Takes (label_bytes x.0) x.1 (zero ∷ bs)) (same_Some ([], 1) y e) end
divisions_written (suc n) (suc b ∷ bs) y fits e =
    let bytes = suc b ∷ bs in
    let p = bind_some (division_in bytes) (λ d. divisions_in n (drop d.1 bytes) >>= λ ds. Some (d.0 ∷ ds.0, d.1 + ds.1)) y e in
    let d = p.0 in
    let q = bind_some (divisions_in n (drop d.1 bytes)) (λ ds. Some (d.0 ∷ ds.0, d.1 + ds.1)) y p.2 in
    let here = division_written bytes d fits p.1 in
    let there = divisions_written n (drop d.1 bytes) q.0 (bytes_drop d.1 bytes fits) q.1 in
    let whole = takes_then (division_bytes d.0) (label_bytes q.0.0) bytes d.1 q.0.1 here.0 there in
    let grouped : division_bytes d.0 ++ label_bytes q.0.0 ≡ label_bytes (d.0 ∷ q.0.0) = sym (append_assoc (division_bytes d.0) (flat_map division_bytes q.0.0) (0 ∷ [])) in
    subst (λ (x : List ℕ × ℕ). Takes (label_bytes x.0) x.1 bytes) (same_Some (d.0 ∷ q.0.0, d.1 + q.0.1) y q.2) (subst (λ (t : List ℕ). Takes t (d.1 + q.0.1) bytes) grouped whole)

pub label_written : (bytes : List ℕ) (y : Label × ℕ) → IsBytes bytes → label_in bytes ≡ Some y → Takes (label_bytes y.0) y.1 bytes × IsLabel y.0
label_written bytes y fits e =
    let p = bind_some (divisions_in 256 bytes) (λ ds. if is_label_within ds.0 then Some ds else None) y e in
    let g = cond_some (is_label_within p.0.0) p.0 y p.2 in
    subst (λ (x : Label × ℕ). Takes (label_bytes x.0) x.1 bytes × IsLabel x.0) g.1 (divisions_written 256 bytes p.0 fits p.1, label_of_test p.0.0 g.0)
