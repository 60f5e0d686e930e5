-- Texts cut between characters, as the characters are read one by one.
use Rattle.std.proofs.Common.{◌≡◌, ℕ, ◌+◌, ◌-◌, ◌<◌, ◌≤◌, true, List, [], ◌∷◌, ◌++◌, length, take, drop, length-append, length-drop, sym, ap, subst, ◌∙◌, arith, take-append-drop}
use Rattle.std.proofs.lemmas.List.{drop-drop, take_at, take_all}
use Rattle.std.proofs.lemmas.Bool.Decides.{nat_tests}
use Rattle.std.proofs.lemmas.Str.{chars-encodes, encodes-chars, encode_same, length-encode, len_utf8_bounds, scalars-chars, IsUtf8-from_is_utf8, is_utf8-from_IsUtf8}
use Rattle.std.specs.Prelude.{encode_utf8_all}
use Rattle.std.specs.Str.{IsUtf8, chars}
use Rattle.dewey_labels.proofs.Codes.{second_of_both}
use Rattle.tree_model.specs.Texts.{data_before, data_from, is_past}
use Rattle.tree_model.proofs.SplitTexts.{parts_joined, parts_utf8}
use lib.Utf8.{encode, encodes, scalar, scalars}

-- ---- one character more

none_ends : (c : ℕ) (ys : List ℕ) → [] ≡ encode c ++ ys → 0 < 0
none_ends c ys e =
    let n : length (encode c ++ ys) ≡ 0 = sym (ap length e) in
    let sum = length-append (encode c) ys in
    let size = length-encode c in
    let bounds = (len_utf8_bounds c).0 in
    omega (arith, n, sum, size, bounds)

-- behind the first character stands a text with the other ones
pub character_read : (xs : List ℕ) (c : ℕ) (ys : List ℕ) → IsUtf8 xs → xs ≡ encode c ++ ys → IsUtf8 ys × (chars xs ≡ c ∷ chars ys)
character_read xs c ys u e = by u.0 u.1.0 u.1.1
  where
    by : (cs : List ℕ) → scalars cs ≡ true → encodes cs ≡ xs → IsUtf8 ys × (chars xs ≡ c ∷ chars ys)
    by [] s is = let none : 0 < 0 = none_ends c ys (is ∙ e) in absurd (omega (arith, none))
    by (d ∷ ds) s is =
        let same = encode_same d c (encodes ds) ys (is ∙ e) in
        let rest = second_of_both (scalar d) (scalars ds) s in
        ((ds, (rest, same.1)), ap chars (sym is) ∙ chars-encodes (d ∷ ds) s ∙ (λ i. same.0 i ∷ (sym (chars-encodes ds rest) ∙ ap chars same.1) i))

pub drop_one : (n : ℕ) (xs : List ℕ) (y : ℕ) (ys : List ℕ) → drop n xs ≡ y ∷ ys → drop (n + 1) xs ≡ ys
drop_one n xs y ys e = sym (drop-drop 1 n xs) ∙ ap (drop 1) e

-- fewer characters than were taken
pub all_taken : (n : ℕ) (cs : List ℕ) → drop n cs ≡ [] → length cs ≤ n
all_taken n cs e = let left : length (drop n cs) ≡ 0 = ap length e in let size = length-drop n cs in omega (arith, left, size)

-- not all were taken where one is left
pub one_left : (n : ℕ) (cs : List ℕ) (y : ℕ) (ys : List ℕ) → drop n cs ≡ y ∷ ys → n < length cs
one_left n cs y ys e =
    let left : length (drop n cs) ≡ length (y ∷ ys) = ap length e in
    let size = length-drop n cs in
    let some : 0 < length (y ∷ ys) = omega arith in
    omega (arith, left, size, some)

-- ---- the parts

module _ (n : ℕ) (d b : List ℕ) (u : IsUtf8 d) (v : IsUtf8 b) (e : drop n (chars d) ≡ chars b) where
  pub behind_is : b ≡ data_from n d
  behind_is = sym (encodes-chars b v) ∙ ap encode_utf8_all (sym e)

  whole : data_before n d ++ b ≡ d
  whole = ap (λ x. data_before n d ++ x) behind_is ∙ parts_joined n d (is_utf8-from_IsUtf8 d u)

  sizes : length (data_before n d) + length b ≡ length d
  sizes = sym (length-append (data_before n d) b) ∙ ap length whole

  pub behind_shorter : length b ≤ length d
  behind_shorter = omega (arith, sizes)

  pub before_is : take (length d - length b) d ≡ data_before n d
  before_is = let size : length (data_before n d) ≡ length d - length b = omega (arith, sizes) in sym (ap (take (length d - length b)) whole) ∙ take_at (data_before n d) b (length d - length b) size

  pub before_utf8 : IsUtf8 (take (length d - length b) d)
  before_utf8 = subst IsUtf8 (sym before_is) (IsUtf8-from_is_utf8 (data_before n d) (parts_utf8 n d (is_utf8-from_IsUtf8 d u)).0)

-- ---- cut twice

-- the characters behind a cut
chars_from : (n : ℕ) (d : List ℕ) → IsUtf8 d → chars (data_from n d) ≡ drop n (chars d)
chars_from n d u = chars-encodes (drop n (chars d)) (some_scalars n (chars d) (scalars-chars d u))
  where
    some_scalars : (n : ℕ) (cs : List ℕ) → scalars cs ≡ true → scalars (drop n cs) ≡ true
    some_scalars n cs h = all_behind (take n cs) (drop n cs) (ap scalars (take-append-drop n cs) ∙ h)
      where
        all_behind : (xs ys : List ℕ) → scalars (xs ++ ys) ≡ true → scalars ys ≡ true
        all_behind [] ys g = g
        all_behind (x ∷ xs) ys g = all_behind xs ys (second_of_both (scalar x) (scalars (xs ++ ys)) g)

-- a text with fewer characters is its own beginning
pub all_before : (n : ℕ) (d : List ℕ) → IsUtf8 d → is_past n d ≡ true → d ≡ data_before n d
all_before n d u h = let less : length (chars d) ≤ n = grind (arith, nat_tests) in sym (encodes-chars d u) ∙ ap encode_utf8_all (sym (take_all n (chars d) less))

-- some characters from an offset on
pub part_is : (offset count : ℕ) (d rest : List ℕ) → IsUtf8 d → rest ≡ data_from offset d → data_before count rest ≡ encode_utf8_all (take count (drop offset (chars d)))
part_is offset count d rest u e = ap (data_before count) e ∙ ap (λ cs. encode_utf8_all (take count cs)) (chars_from offset d u)
