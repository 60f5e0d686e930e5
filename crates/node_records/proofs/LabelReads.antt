-- Reading the divisions of a label one after another, as a loop does, and testing them.
use Rattle.std.proofs.Common.{◌≡◌, ℕ, zero, suc, ◌+◌, ◌-◌, ◌<◌, true, false, List, [], ◌∷◌, ◌++◌, length, get_or, take, drop, length-drop, Option, Some, None, refl, sym, ap, ◌∙◌, append_assoc, arith}
use Rattle.std.proofs.lemmas.List.{append-nil, take_all}
use Rattle.std.specs.Prelude.{if◌then◌else◌}
use Rattle.dewey_labels.specs.Labels.{IsLabel, is_label_within}
use Rattle.dewey_labels.proofs.Limits.{label_of_test, test_of_label}
use Rattle.node_records.specs.Reads.{◌>>=◌}
use Rattle.node_records.specs.Divisions.{division_in}
use Rattle.node_records.specs.Labels.{divisions_in, label_in}

-- what was read before, and what is still read
abbrev pub with_prefix : List ℕ → ℕ → Option (List ℕ × ℕ) → Option (List ℕ × ℕ)
with_prefix prefix taken read = read >>= λ x. Some (prefix ++ x.0, taken + x.1)

regroup : (prefix : List ℕ) (taken : ℕ) (d : ℕ × ℕ) (read : Option (List ℕ × ℕ)) → with_prefix prefix taken (read >>= λ ds. Some (d.0 ∷ ds.0, d.1 + ds.1)) ≡ with_prefix (prefix ++ d.0 ∷ []) (taken + d.1) read
regroup prefix taken d None = refl
regroup prefix taken d (Some ds) =
    let lists : prefix ++ (d.0 ∷ ds.0) ≡ (prefix ++ d.0 ∷ []) ++ ds.0 = sym (append_assoc prefix (d.0 ∷ []) ds.0) in
    let counts : taken + (d.1 + ds.1) ≡ taken + d.1 + ds.1 = omega arith in
    λ i. Some (lists i, counts i)

-- nothing was read before
pub begins : (prefix : List ℕ) (read : Option (List ℕ × ℕ)) → prefix ≡ [] → with_prefix prefix 0 read ≡ read
begins prefix None e = refl
begins prefix (Some ds) e = let counts : 0 + ds.1 ≡ ds.1 = omega arith in λ i. Some (e i ++ ds.0, counts i)

-- a division was read
pub goes_on : (prefix : List ℕ) (taken n m : ℕ) (rest : List ℕ) (d : ℕ × ℕ) → n ≡ suc m → 0 < length rest → (get_or rest 0 0 ≡ 0 → ⊥) → division_in rest ≡ Some d
    → with_prefix prefix taken (divisions_in n rest) ≡ with_prefix (prefix ++ d.0 ∷ []) (taken + d.1) (divisions_in m (drop d.1 rest))
goes_on prefix taken n m [] d e some nonzero h = absurd (omega (arith, some))
goes_on prefix taken n m (zero ∷ bs) d e some nonzero h = absurd (nonzero refl)
goes_on prefix taken n m (suc b ∷ bs) d e some nonzero h =
    ap (λ k. with_prefix prefix taken (divisions_in k (suc b ∷ bs))) e
    ∙ ap (λ r. with_prefix prefix taken (r >>= λ x. divisions_in m (drop x.1 (suc b ∷ bs)) >>= λ ds. Some (x.0 ∷ ds.0, x.1 + ds.1))) h
    ∙ regroup prefix taken d (divisions_in m (drop d.1 (suc b ∷ bs)))

-- there was none
pub stops : (prefix : List ℕ) (taken n m : ℕ) (rest : List ℕ) → n ≡ suc m → 0 < length rest → (get_or rest 0 0 ≡ 0 → ⊥) → division_in rest ≡ None
    → with_prefix prefix taken (divisions_in n rest) ≡ None
stops prefix taken n m [] e some nonzero h = absurd (omega (arith, some))
stops prefix taken n m (zero ∷ bs) e some nonzero h = absurd (nonzero refl)
stops prefix taken n m (suc b ∷ bs) e some nonzero h =
    ap (λ k. with_prefix prefix taken (divisions_in k (suc b ∷ bs))) e
    ∙ ap (λ r. with_prefix prefix taken (r >>= λ x. divisions_in m (drop x.1 (suc b ∷ bs)) >>= λ ds. Some (x.0 ∷ ds.0, x.1 + ds.1))) h

-- the 00 was read
pub closes : (prefix : List ℕ) (taken n m : ℕ) (rest : List ℕ) → n ≡ suc m → 0 < length rest → get_or rest 0 0 ≡ 0
    → with_prefix prefix taken (divisions_in n rest) ≡ Some (prefix, taken + 1)
closes prefix taken n m [] e some h = absurd (omega (arith, some))
closes prefix taken n m (zero ∷ bs) e some h = ap (λ k. with_prefix prefix taken (divisions_in k (zero ∷ bs))) e ∙ ap (λ (x : List ℕ). Some (x, taken + 1)) (append-nil prefix)
closes prefix taken n m (suc b ∷ bs) e some h = absurd (omega (arith, h))

-- nothing was left
pub cut_short : (prefix : List ℕ) (taken n m : ℕ) (rest : List ℕ) → n ≡ suc m → length rest ≡ 0 → with_prefix prefix taken (divisions_in n rest) ≡ None
cut_short prefix taken n m [] e h = ap (λ k. with_prefix prefix taken (divisions_in k [])) e
cut_short prefix taken n m (b ∷ bs) e h = absurd (omega (arith, h))

-- there were too many
pub too_many : (prefix : List ℕ) (taken n : ℕ) (rest : List ℕ) → n ≡ 0 → with_prefix prefix taken (divisions_in n rest) ≡ None
too_many prefix taken n rest e = ap (λ k. with_prefix prefix taken (divisions_in k rest)) e

-- what is left behind a place
pub rest_is : (bytes : List ℕ) (i : ℕ) → take (length bytes - i) (drop i bytes) ≡ drop i bytes
rest_is bytes i = take_all (length bytes - i) (drop i bytes) (omega (arith, length-drop i bytes))

-- ---- the test of a label within the limits

pub label_is : (bytes : List ℕ) (ds : List ℕ × ℕ) → Some ds ≡ divisions_in 256 bytes → IsLabel ds.0 → Some ds ≡ label_in bytes
label_is bytes ds h l =
    sym (ap (λ r. r >>= λ x. if is_label_within x.0 then Some x else None) (sym h) ∙ ap (λ b. if b then Some ds else None) (test_of_label ds.0 l))

pub label_is_not : (bytes : List ℕ) (ds : List ℕ × ℕ) → Some ds ≡ divisions_in 256 bytes → (IsLabel ds.0 → ⊥) → None ≡ label_in bytes
label_is_not bytes ds h l =
    let refused : is_label_within ds.0 ≡ false = elim (is_label_within ds.0) as (λ b. is_label_within ds.0 ≡ b → b ≡ false) [
      | true ↦ λ q. absurd (l (label_of_test ds.0 q))
      | false ↦ λ _. refl
    ] refl in
    sym (ap (λ r. r >>= λ x. if is_label_within x.0 then Some x else None) (sym h) ∙ ap (λ b. if b then Some ds else None) refused)
