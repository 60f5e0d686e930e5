-- Escaping byte by byte is escaping character by character.
use Rattle.std.proofs.Common.{◌≡◌, ◌≢◌, ℕ, suc, ◌<◌, List, [], ◌∷◌, ◌++◌, length, get_or, refl, sym, ap, ap₂, ◌∙◌, arith, append_assoc, append-nil}
use Rattle.std.proofs.lemmas.Bool.Decides.{nat_tests}
use Rattle.std.proofs.lemmas.Str.{inside_one}
use Rattle.jsonml_io.specs.Pointers.{escaped_byte, escaped}
use lib.Utf8.{encode}

-- no byte of xs is written in another way
abbrev IsPlain : List ℕ → Type 0
IsPlain xs = (k : ℕ) → k < length xs → (get_or xs k 0 ≢ 126) × (get_or xs k 0 ≢ 47)

plain_byte : (b : ℕ) → b ≢ 126 → b ≢ 47 → escaped_byte b ≡ b ∷ []
plain_byte b x y = grind (arith, nat_tests)

escaped_plain : (xs : List ℕ) → IsPlain xs → escaped xs ≡ xs
escaped_plain [] h = refl
escaped_plain (x ∷ xs) h =
    let first = h 0 (omega arith) in
    ap₂ (λ a b. a ++ b) (plain_byte x first.0 first.1) (escaped_plain xs (λ k less. h (suc k) (omega arith)))

pub escaped_on : (xs ys : List ℕ) → escaped (xs ++ ys) ≡ escaped xs ++ escaped ys
escaped_on [] ys = refl
escaped_on (x ∷ xs) ys = ap (λ s. escaped_byte x ++ s) (escaped_on xs ys) ∙ sym (append_assoc (escaped_byte x) (escaped xs) (escaped ys))

-- a character beside `~` and `/` stands for itself
pub escaped_char : (c : ℕ) → c ≢ 126 → c ≢ 47 → escaped (encode c) ≡ encode c
escaped_char c x y = escaped_plain (encode c) (λ k h. (λ e. x (itself k h (omega (arith, e)) ∙ e), λ e. y (itself k h (omega (arith, e)) ∙ e)))
  where
    itself : (k : ℕ) → k < length (encode c) → get_or (encode c) k 0 < 128 → c ≡ get_or (encode c) k 0
    itself k h small = inside_one c [] (encode c) k (sym (append-nil (encode c))) h small

-- one more character
pub escape_more : (text : List ℕ) (c : ℕ) (rest whole : List ℕ) → c ≢ 126 → c ≢ 47 → text ++ escaped (encode c ++ rest) ≡ whole → (text ++ encode c) ++ escaped rest ≡ whole
escape_more text c rest whole x y h =
    append_assoc text (encode c) (escaped rest) ∙ ap (λ s. text ++ s) (ap (λ e. e ++ escaped rest) (sym (escaped_char c x y)) ∙ sym (escaped_on (encode c) rest)) ∙ h
