-- Texts cut between characters.
use Rattle.std.proofs.Common.{◌≡◌, ℕ, ◌+◌, ◌-◌, ◌≤◌, List, [], ◌∷◌, ◌++◌, length, take, drop, length-append, length-drop, take-append-drop, refl, sym, ap, subst, ◌∙◌, arith}
use Rattle.std.proofs.lemmas.List.{drop-drop, drop_all, take_at}
use Rattle.std.proofs.lemmas.Str.{chars-nil, chars_past_char, encodes-chars, encodes-append, IsCharBoundary-at_seam}
use Rattle.std.specs.Prelude.{encode_utf8_all}
use Rattle.std.specs.Str.{IsUtf8, IsCharBoundary, chars}
use lib.Utf8.{encode}

nothing : (s : List ℕ) → length s ≡ 0 → s ≡ []
nothing [] e = refl
nothing (b ∷ bs) e = absurd (omega (arith, e))

-- where the text has ended nothing stands behind
pub past_end : (n m : ℕ) (text rest : List ℕ) → n ≤ m → drop n (chars text) ≡ chars rest → length rest ≡ 0 → [] ≡ encode_utf8_all (drop m (chars text))
past_end n m text rest more left ended =
    let none : length (drop n (chars text)) ≡ 0 = ap length (left ∙ ap chars (nothing rest ended) ∙ chars-nil) in
    let size = length-drop n (chars text) in
    let few : length (chars text) ≤ m = omega (arith, none, size) in
    ap encode_utf8_all (sym (drop_all m (chars text) few))

-- behind one more character
pub one_more : (n c : ℕ) (text rest behind : List ℕ) → IsUtf8 rest → drop n (chars text) ≡ chars rest → rest ≡ encode c ++ behind → drop (n + 1) (chars text) ≡ chars behind
one_more n c text rest behind utf8 left front = sym (drop-drop 1 n (chars text)) ∙ ap (drop 1) (left ∙ chars_past_char rest behind c utf8 front)

pub from_rest : (n m : ℕ) (text rest : List ℕ) → IsUtf8 rest → n ≡ m → drop n (chars text) ≡ chars rest → rest ≡ encode_utf8_all (drop m (chars text))
from_rest n m text rest utf8 same left = sym (encodes-chars rest utf8) ∙ ap encode_utf8_all (sym left) ∙ ap (λ k. encode_utf8_all (drop k (chars text))) same

-- ---- before a cut

module _ (n : ℕ) (d b : List ℕ) (u : IsUtf8 d) (v : IsUtf8 b) (e : b ≡ encode_utf8_all (drop n (chars d))) where
  abbrev front : List ℕ
  front = encode_utf8_all (take n (chars d))

  whole : d ≡ front ++ b
  whole = sym (encodes-chars d u) ∙ ap encode_utf8_all (sym (take-append-drop n (chars d))) ∙ encodes-append (take n (chars d)) (drop n (chars d)) ∙ ap (λ s. front ++ s) (sym e)

  sizes : length d ≡ length front + length b
  sizes = ap length whole ∙ length-append front b

  pub shorter : length b ≤ length d
  shorter = omega (arith, sizes)

  at_size : length front ≡ length d - length b
  at_size = omega (arith, sizes)

  pub may_cut : IsCharBoundary d (length d - length b)
  may_cut = subst (IsCharBoundary d) at_size (IsCharBoundary-at_seam d front b whole v)

  pub front_is : take (length d - length b) d ≡ encode_utf8_all (take n (chars d))
  front_is = ap (take (length d - length b)) whole ∙ take_at front b (length d - length b) at_size
