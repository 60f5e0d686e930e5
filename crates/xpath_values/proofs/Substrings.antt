-- The characters that `substring` keeps stand in a row.
use Rattle.std.proofs.Common.{◌≡◌, ℕ, suc, ◌+◌, ◌-◌, ◌<◌, ◌≤◌, Bool, true, false, ◌&&◌, if◌then◌else◌, List, [], ◌∷◌, take, drop, ℤ, pos, negsuc, Some, None, refl, sym, ap, ◌∙◌, arith}
use Rattle.std.proofs.Math.Seq.{drop-nil, take-nil}
use Rattle.std.proofs.lemmas.Bool.{false≢true}
use Rattle.std.proofs.lemmas.Bool.Decides.{nat_tests}
use Rattle.std.proofs.lemmas.Str.{chars_from_encodes}
use Rattle.std.specs.Prelude.{int_le, int_lt, encode_utf8_all, ◌+ℤ◌}
use Rattle.std.specs.Str.{IsUtf8, chars}
use Rattle.path_model.specs.Texts.{kept_chars, substring_from, substring_within}
use Rattle.xpath_values.specs.Places.{places_before}

-- the first place that is not before a bound
abbrev bound_of : ℤ → ℕ
bound_of (pos n) = n
bound_of (negsuc n) = 0

reached : (p : ℕ) (n : ℤ) → int_le n (pos p) ≡ true → bound_of n ≤ p
reached p (pos m) e = grind (arith, nat_tests)
reached p (negsuc m) e = omega arith

not_reached : (p : ℕ) (n : ℤ) → int_le n (pos p) ≡ false → p < bound_of n
not_reached p (pos m) e = grind (arith, nat_tests)
not_reached p (negsuc m) e = absurd (false≢true (sym e))

before : (p : ℕ) (e : ℤ) → int_lt (pos p) e ≡ true → p < bound_of e
before p (pos m) h = grind (arith, nat_tests)
before p (negsuc m) h = absurd (false≢true h)

not_before : (p : ℕ) (e : ℤ) → int_lt (pos p) e ≡ false → bound_of e ≤ p
not_before p (pos m) h = grind (arith, nat_tests)
not_before p (negsuc m) h = omega arith

-- ---- from a place on

from_step : (p : ℕ) (n : ℤ) (c : ℕ) (cs kept : List ℕ) (a : Bool) → int_le n (pos p) ≡ a → kept ≡ drop (bound_of n - (p + 1)) cs → (if a && true then c ∷ kept else kept) ≡ drop (bound_of n - p) (c ∷ cs)
from_step p n c cs kept true is rest =
    let at = reached p n is in
    let here : bound_of n - p ≡ 0 = omega arith in
    let next : bound_of n - (p + 1) ≡ 0 = omega arith in
    rw here (ap (λ s. c ∷ s) (rest ∙ ap (λ k. drop k cs) next))
from_step p n c cs kept false is rest =
    let at = not_reached p n is in
    let here : bound_of n - p ≡ suc (bound_of n - (p + 1)) = omega arith in
    rw here rest

kept_from : (p : ℕ) (n : ℤ) (cs : List ℕ) → kept_chars p n None cs ≡ drop (bound_of n - p) cs
kept_from p n [] = sym (drop-nil (bound_of n - p))
kept_from p n (c ∷ cs) = from_step p n c cs _ (int_le n (pos p)) refl (kept_from (p + 1) n cs)

-- ---- up to an end

ended : (p : ℕ) (n e : ℤ) (c : ℕ) (cs kept : List ℕ) → int_lt (pos p) e ≡ false → kept ≡ drop (bound_of n - (p + 1)) (take (bound_of e - (p + 1)) cs) → kept ≡ drop (bound_of n - p) (take (bound_of e - p) (c ∷ cs))
ended p n e c cs kept within rest =
    let end = not_before p e within in
    let here : bound_of e - p ≡ 0 = omega arith in
    let next : bound_of e - (p + 1) ≡ 0 = omega arith in
    rest ∙ ap (λ k. drop (bound_of n - (p + 1)) (take k cs)) next ∙ drop-nil (bound_of n - (p + 1)) ∙ sym (ap (λ k. drop (bound_of n - p) (take k (c ∷ cs))) here ∙ drop-nil (bound_of n - p))

within_step : (p : ℕ) (n e : ℤ) (c : ℕ) (cs kept : List ℕ) (a b : Bool) → int_le n (pos p) ≡ a → int_lt (pos p) e ≡ b → kept ≡ drop (bound_of n - (p + 1)) (take (bound_of e - (p + 1)) cs)
    → (if a && b then c ∷ kept else kept) ≡ drop (bound_of n - p) (take (bound_of e - p) (c ∷ cs))
within_step p n e c cs kept true true is within rest =
    let at = reached p n is in
    let end = before p e within in
    let here : bound_of n - p ≡ 0 = omega arith in
    let next : bound_of n - (p + 1) ≡ 0 = omega arith in
    let up_to : bound_of e - p ≡ suc (bound_of e - (p + 1)) = omega arith in
    rw (here, up_to) (ap (λ s. c ∷ s) (rest ∙ ap (λ k. drop k (take (bound_of e - (p + 1)) cs)) next))
within_step p n e c cs kept false true is within rest =
    let at = not_reached p n is in
    let end = before p e within in
    let here : bound_of n - p ≡ suc (bound_of n - (p + 1)) = omega arith in
    let up_to : bound_of e - p ≡ suc (bound_of e - (p + 1)) = omega arith in
    rw (here, up_to) rest
within_step p n e c cs kept true false is within rest = ended p n e c cs kept within rest
within_step p n e c cs kept false false is within rest = ended p n e c cs kept within rest

kept_within : (p : ℕ) (n e : ℤ) (cs : List ℕ) → kept_chars p n (Some e) cs ≡ drop (bound_of n - p) (take (bound_of e - p) cs)
kept_within p n e [] = sym (ap (drop (bound_of n - p)) (take-nil (bound_of e - p)) ∙ drop-nil (bound_of n - p))
kept_within p n e (c ∷ cs) = within_step p n e c cs _ (int_le n (pos p)) (int_lt (pos p) e) refl refl (kept_within (p + 1) n e cs)

-- ---- substrings

places_are : (n : ℤ) → bound_of n - 1 ≡ places_before n
places_are (pos n) = refl
places_are (negsuc n) = refl

pub from_is : (s : List ℕ) (n : ℤ) → encode_utf8_all (drop (places_before n) (chars s)) ≡ substring_from s (Some n)
from_is s n = ap encode_utf8_all (ap (λ k. drop k (chars s)) (sym (places_are n)) ∙ sym (kept_from 1 n (chars s)))

-- what stands before the end is cut off first
pub within_is : (s first : List ℕ) (n m e : ℤ) → IsUtf8 first → first ≡ encode_utf8_all (take (places_before e) (chars s)) → e ≡ n +ℤ m
    → encode_utf8_all (drop (places_before n) (chars first)) ≡ substring_within s (Some n) (Some m)
within_is s first n m e utf8 is end =
    let kept : chars first ≡ take (bound_of e - 1) (chars s) = sym (chars_from_encodes (take (places_before e) (chars s)) first utf8 (sym is)) ∙ ap (λ k. take k (chars s)) (sym (places_are e)) in
    ap encode_utf8_all (ap (λ k. drop k (chars first)) (sym (places_are n)) ∙ ap (drop (bound_of n - 1)) kept ∙ sym (kept_within 1 n e (chars s)))
    ∙ ap (λ z. encode_utf8_all (kept_chars 1 n (Some z) (chars s))) end
