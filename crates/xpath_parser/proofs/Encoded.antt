-- The bytes of characters.
use Rattle.std.proofs.Common.{◌≡◌, ℕ, suc, ◌+◌, ◌<◌, ◌≤◌, List, [], ◌∷◌, ◌++◌, length, get_or, take, drop, sym, ap, ◌∙◌, add-one, append-nil, length-append, arith, encode_utf8, encode_utf8_all}
use Rattle.std.proofs.Math.Seq.{take-suc}
use Rattle.std.proofs.lemmas.Str.{encodes-append}
use Rattle.std.proofs.lemmas.List.{take-append-drop}

-- some of the characters take no more bytes than all
pub encoded_within : (k : ℕ) (cs : List ℕ) → length (encode_utf8_all (take k cs)) ≤ length (encode_utf8_all cs)
encoded_within k cs =
    let e : length (encode_utf8_all cs) ≡ length (encode_utf8_all (take k cs)) + length (encode_utf8_all (drop k cs)) =
    ap (λ z. length (encode_utf8_all z)) (sym (take-append-drop k cs)) ∙ ap length (encodes-append (take k cs) (drop k cs)) ∙ length-append _ _ in
    omega (arith, e)

-- one more character adds its bytes
pub encoded_more : (cs : List ℕ) (i c : ℕ) → i < length cs → c ≡ get_or cs i c
    → length (encode_utf8_all (take (i + 1) cs)) ≡ length (encode_utf8_all (take i cs)) + length (encode_utf8 c)
encoded_more cs i c below is =
    let more : take (suc i) cs ≡ take i cs ++ (c ∷ []) = take-suc cs i c below ∙ ap (λ d. take i cs ++ (d ∷ [])) (sym is) in
    rw (add-one, more)
    (ap length (encodes-append (take i cs) (c ∷ [])) ∙ length-append _ _ ∙ ap (λ z. length (encode_utf8_all (take i cs)) + length z) (append-nil (encode_utf8 c)))
