-- Where a text is cut at the first occurrence of a part.
use Rattle.std.proofs.Common.{◌≡◌, ℕ, zero, suc, ◌+◌, ◌<◌, ◌≤◌, Bool, true, false, ◌&&◌, eqb, List, [], ◌∷◌, ◌++◌, length, take, drop, Some, None, refl, sym, ap, ap₂, ◌∙◌, arith}
use Rattle.std.proofs.lemmas.Bool.Decides.{nat_tests}
use Rattle.std.specs.Bool.{MatchBool}
use Rattle.std.specs.List.{starts_with}
use Rattle.std.specs.Str.Pattern.{FindsText, LacksTextAt, HasMatch}
use Rattle.path_model.specs.Texts.{begins_with, cut_at, behind_one, contains_text}

pub starts_is_begins : (part s : List ℕ) → starts_with eqb s part ≡ begins_with part s
starts_is_begins [] s = refl
starts_is_begins (b ∷ bs) [] = refl
starts_is_begins (b ∷ bs) (c ∷ cs) = ap (λ t. eqb b c && t) (starts_is_begins bs cs)

begins_at : (part rest : List ℕ) → begins_with part (part ++ rest) ≡ true
begins_at [] rest = refl
begins_at (b ∷ bs) rest = let same : eqb b b ≡ true = grind (arith, nat_tests) in rw same (begins_at bs rest)

begins_not : (part s : List ℕ) → LacksTextAt part s 0 → begins_with part s ≡ false
begins_not [] s lacks = absurd (lacks s refl)
begins_not (b ∷ bs) [] lacks = refl
begins_not (b ∷ bs) (c ∷ cs) lacks = go (eqb b c) refl (λ same. begins_not bs cs (λ rest e. lacks rest (ap₂ (λ x xs. x ∷ xs) same e)))
  where
    go : (t : Bool) → eqb b c ≡ t → (c ≡ b → begins_with bs cs ≡ false) → (eqb b c && begins_with bs cs) ≡ false
    go false off rest_not = ap (λ t. t && begins_with bs cs) off
    go true on rest_not =
        let same : c ≡ b = grind (arith, nat_tests) in
        ap (λ t. t && begins_with bs cs) on ∙ rest_not same

cut_nowhere : (part s : List ℕ) → ((i : ℕ) → i ≤ length s → LacksTextAt part s i) → cut_at part s ≡ None
cut_nowhere [] [] lacks = absurd (lacks 0 (omega arith) [] refl)
cut_nowhere (b ∷ bs) [] lacks = refl
cut_nowhere part (c ∷ cs) lacks =
    rw (begins_not part (c ∷ cs) (lacks 0 (omega arith)))
    (ap (behind_one c) (cut_nowhere part cs (λ i within. lacks (suc i) (omega arith))))

cut_first : (part s : List ℕ) (i : ℕ) → ((k : ℕ) → k < i → LacksTextAt part s k) → drop i s ≡ part ++ drop (i + length part) s → cut_at part s ≡ Some (take i s, drop (i + length part) s)
cut_first [] [] zero lacks at = refl
cut_first [] [] (suc i) lacks at = absurd (lacks 0 (omega arith) [] refl)
cut_first (b ∷ bs) [] zero lacks at = cc
cut_first (b ∷ bs) [] (suc i) lacks at = cc
cut_first part (c ∷ cs) zero lacks at =
    let front : begins_with part (c ∷ cs) ≡ true = ap (begins_with part) at ∙ begins_at part _ in
    let none_before : length part ≡ 0 + length part = omega arith in
    rw front (ap (λ n. Some ([], drop n (c ∷ cs))) none_before)
cut_first part (c ∷ cs) (suc i) lacks at =
    let one_more : suc i + length part ≡ suc (i + length part) = omega arith in
    let rest_at : drop i cs ≡ part ++ drop (i + length part) cs = at ∙ ap (λ n. part ++ drop n (c ∷ cs)) one_more in
    rw (begins_not part (c ∷ cs) (lacks 0 (omega arith)), one_more)
    (ap (behind_one c) (cut_first part cs i (λ k less. lacks (suc k) (omega arith)) rest_at))

-- where a search finds the part, or finds it nowhere
pub cut_found : (part s : List ℕ) (i j : ℕ) → FindsText part s (Some (i, j)) → cut_at part s ≡ Some (take i s, drop j s)
cut_found part s i j found =
    let split : drop i s ≡ part ++ drop (i + length part) s = found.1.split ∙ ap (λ n. part ++ drop n s) found.1.ends in
    cut_first part s i found.0 split ∙ ap (λ n. Some (take i s, drop n s)) (sym found.1.ends)

pub cut_not_found : (part s : List ℕ) → FindsText part s None → cut_at part s ≡ None
cut_not_found part s found = cut_nowhere part s found

pub contains_is : (r : Bool) (part s : List ℕ) → MatchBool r (HasMatch (FindsText part) s) (FindsText part s None) → r ≡ contains_text s part
contains_is true part s found = rw (cut_found part s found.0 found.1 found.2) refl
contains_is false part s found = rw (cut_not_found part s found) refl
