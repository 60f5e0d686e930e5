-- Runs of white space become one space, character by character.
use Rattle.std.proofs.Common.{◌≡◌, ℕ, suc, ◌<◌, Bool, true, false, if◌then◌else◌, List, [], ◌∷◌, ◌++◌, length, get_or, refl, sym, ap, ap₂, ◌∙◌, append-nil, append_assoc, arith}
use Rattle.std.proofs.lemmas.Bool.{false≢true}
use Rattle.std.proofs.lemmas.Bool.Decides.{nat_tests}
use Rattle.std.proofs.lemmas.Str.{inside_one, length-encode, len_utf8_bounds}
use Rattle.path_model.specs.Numbers.{is_space, without_front}
use Rattle.path_model.specs.Texts.{normal_from}
use Rattle.path_model.specs.Values.{is_filled}
use lib.Utf8.{encode}

-- what is still to write; a gap is written before the next character, if one comes
abbrev pub left : Bool → Bool → List ℕ → List ℕ
left is_open true bs = if is_filled (without_front bs) then 32 ∷ normal_from false bs else normal_from false bs
left is_open false bs = normal_from is_open bs

-- ---- the bytes of another character

abbrev HasNoSpace : List ℕ → Type 0
HasNoSpace xs = (k : ℕ) → k < length xs → is_space (get_or xs k 0) ≡ false

written : (xs rest : List ℕ) → HasNoSpace xs → normal_from true (xs ++ rest) ≡ xs ++ normal_from true rest
written [] rest none = refl
written (x ∷ xs) rest none = rw (none 0 (omega arith)) (ap (λ s. x ∷ s) (written xs rest (λ k less. none (suc k) (omega arith))))

at_others : (is_open has_gap : Bool) (xs rest : List ℕ) → 0 < length xs → HasNoSpace xs → left is_open has_gap (xs ++ rest) ≡ (if has_gap then 32 ∷ xs else xs) ++ normal_from true rest
at_others is_open has_gap [] rest some none = absurd (omega (arith, some))
at_others is_open true (x ∷ xs) rest some none = rw (none 0 (omega arith)) (ap (λ s. 32 ∷ (x ∷ s)) (written xs rest (λ k less. none (suc k) (omega arith))))
at_others is_open false (x ∷ xs) rest some none = rw (none 0 (omega arith)) (ap (λ s. x ∷ s) (written xs rest (λ k less. none (suc k) (omega arith))))

space_is_small : (b : ℕ) → is_space b ≡ true → b < 128
space_is_small b is = grind (arith, nat_tests)

no_space_in : (c : ℕ) → is_space c ≡ false → HasNoSpace (encode c)
no_space_in c other k less = go (is_space (get_or (encode c) k 0)) refl
  where
    go : (t : Bool) → is_space (get_or (encode c) k 0) ≡ t → is_space (get_or (encode c) k 0) ≡ false
    go false is = is
    go true is =
        let small = space_is_small (get_or (encode c) k 0) is in
        let same : c ≡ get_or (encode c) k 0 = inside_one c [] (encode c) k (sym (append-nil (encode c))) less small in
        absurd (false≢true (sym other ∙ ap is_space same ∙ is))

at_char : (is_open has_gap : Bool) (c : ℕ) (rest : List ℕ) → is_space c ≡ false → left is_open has_gap (encode c ++ rest) ≡ (if has_gap then 32 ∷ encode c else encode c) ++ left true false rest
at_char is_open has_gap c rest other =
    let some : 0 < length (encode c) = (let size = length-encode c in let bounds = (len_utf8_bounds c).0 in omega (arith, size, bounds)) in
    at_others is_open has_gap (encode c) rest some (no_space_in c other)

-- a character was written
filled_behind : (written : List ℕ) (has_gap : Bool) (c : ℕ) → is_filled (written ++ (if has_gap then 32 ∷ encode c else encode c)) ≡ true
filled_behind (b ∷ bs) has_gap c = refl
filled_behind [] true c = refl
filled_behind [] false c = some (encode c) (let size = length-encode c in let bounds = (len_utf8_bounds c).0 in omega (arith, size, bounds))
  where
    some : (xs : List ℕ) → 0 < length xs → is_filled xs ≡ true
    some [] h = absurd (omega (arith, h))
    some (x ∷ xs) h = refl

at_end : (is_open has_gap : Bool) → left is_open has_gap [] ≡ []
at_end is_open true = refl
at_end is_open false = refl

-- ---- one more character

pub char_more : (text more rest behind whole : List ℕ) (has_gap : Bool) (c : ℕ) → more ≡ text ++ (if has_gap then 32 ∷ encode c else encode c) → rest ≡ encode c ++ behind → is_space c ≡ false
    → text ++ left (is_filled text) has_gap rest ≡ whole → more ++ left (is_filled more) false behind ≡ whole
char_more text more rest behind whole has_gap c pushed front other so_far =
    let filled : is_filled more ≡ true = ap is_filled pushed ∙ filled_behind text has_gap c in
    ap₂ (λ s o. s ++ normal_from o behind) pushed filled
    ∙ append_assoc text (if has_gap then 32 ∷ encode c else encode c) (normal_from true behind)
    ∙ ap (λ s. text ++ s) (sym (ap (left (is_filled text) has_gap) front ∙ at_char (is_filled text) has_gap c behind other))
    ∙ so_far

pub all_written : (text rest whole : List ℕ) (has_gap : Bool) → length rest ≡ 0 → text ++ left (is_filled text) has_gap rest ≡ whole → text ≡ whole
all_written text [] whole has_gap none so_far = sym (append-nil text) ∙ ap (λ s. text ++ s) (sym (at_end (is_filled text) has_gap)) ∙ so_far
all_written text (b ∷ rest) whole has_gap none so_far = absurd (omega (arith, none))
