-- What every Name keeps: at most 1,024 bytes, each below 256, and as a whole it lies below the greatest name.
use Rattle.std.proofs.Common.{◌≡◌, ℕ, ◌+◌, ◌<◌, ◌≤◌, ◌/◌, ◌%◌, Bool, true, false, cond, ◌&&◌, ◌||◌, List, [], ◌∷◌, ◌++◌, length, nat_lt, nat_le, Less, Equal, Greater, ◌==◌, nat_cmp, refl, sym, ap, subst, ◌∙◌, arith, le_trans, leb-true, le-leb, ltb-true, lt-ltb, ⊎_elim}
use Rattle.std.proofs.Math.Utf8.{encode, encodes, scalar, scalars, scalar_cases}
use Rattle.std.proofs.lemmas.Str.{IsUtf8-from_is_utf8, encodes-chars, scalars-chars}
use Rattle.std.specs.Cmp.Lexicographic.{slice_cmp}
use Rattle.std.specs.List.{AllByRecursion, list_all}
use Rattle.std.specs.Ordering.{ordering_then}
use Rattle.std.specs.Str.{chars, is_utf8}
use Rattle.tree_model.specs.Keys.{top_name, IsKeyName}
use Rattle.tree_model.specs.Limits.{most_name_bytes}
use Rattle.tree_model.specs.Names.{Name, start_ranges, is_in_ranges, is_start_char, begins_name, are_name_chars, is_name}
use Rattle.tree_model.proofs.Lists.{all_append}

both : (a b : Bool) → (a && b) ≡ true → (a ≡ true) × (b ≡ true)
both true b h = (refl, h)
both false b h = cc

-- what a test of three parts says
parts : (n : Name) → is_name n ≡ true → (length n ≤ most_name_bytes) × (is_utf8 n ≡ true) × (begins_name (chars n) ≡ true)
unfolding is_name
parts n h =
    let a = both (nat_le (length n) most_name_bytes) (is_utf8 n && are_name_chars (chars n)) h in
    let b = both (is_utf8 n) (are_name_chars (chars n)) a.1 in
    let c = both (begins_name (chars n)) _ b.1 in
    (leb-true _ _ a.0, b.0, c.0)

-- a character of ranges that end by m is at most m
in_ranges_le : (m : ℕ) (rs : List (ℕ × ℕ)) (c : ℕ) → list_all (λ r. nat_le r.1 m) rs ≡ true → is_in_ranges rs c ≡ true → c ≤ m
in_ranges_le m [] c a h = cc
in_ranges_le m (r ∷ rs) c a h =
    let ends = both (nat_le r.1 m) (list_all (λ r. nat_le r.1 m) rs) a in
    elim (nat_le r.0 c && nat_le c r.1) as (λ b. (nat_le r.0 c && nat_le c r.1) ≡ b → (b || is_in_ranges rs c) ≡ true → c ≤ m) [
      | true ↦ λ q _. le_trans (leb-true c r.1 (both (nat_le r.0 c) (nat_le c r.1) q).1) (leb-true r.1 m ends.0)
      | false ↦ λ _ g. in_ranges_le m rs c ends.1 g
    ] refl h

start_le : (c : ℕ) → is_start_char c ≡ true → c ≤ 0xE_FFFF
unfolding is_start_char
start_le c h = in_ranges_le 0xE_FFFF start_ranges c refl h

-- a list whose first byte is low enough lies below the greatest name
low_first : (b : ℕ) (bs : List ℕ) → b < 0xF4 → slice_cmp nat_cmp (b ∷ bs) top_name ≡ Less
low_first b bs h = ap (λ t. ordering_then (cond t Less (cond (b == 0xF4) Equal Greater)) (slice_cmp nat_cmp bs (0x8F ∷ 0xBF ∷ 0xBF ∷ []))) (lt-ltb b 0xF4 h)

-- the bytes behind the first one, and a character's bytes where it has two, three and four
abbrev later : ℕ → ℕ
later bits = 128 + bits % 64

abbrev two : ℕ → List ℕ
two c = (192 + c / 64) ∷ later c ∷ []

abbrev three : ℕ → List ℕ
three c = (224 + c / 4096) ∷ later (c / 64) ∷ later c ∷ []

abbrev four : ℕ → List ℕ
four c = (240 + c / 262144) ∷ later (c / 4096) ∷ later (c / 64) ∷ later c ∷ []

-- a fact of a character's bytes, shown for each of their four forms
encode_cases : (P : List ℕ → Type 0) (c : ℕ) → (c < 128 → P (c ∷ [])) → (c < 2048 → P (two c)) → (c < 65536 → P (three c)) → P (four c) → P (encode c)
unfolding encode
encode_cases P c f g h k =
    elim (nat_lt c 128) as (λ t. nat_lt c 128 ≡ t → P (cond t (c ∷ []) (cond (nat_lt c 2048) (two c) (cond (nat_lt c 65536) (three c) (four c))))) [
      | true ↦ λ q. f (ltb-true c 128 q)
      | false ↦ λ _. elim (nat_lt c 2048) as (λ t. nat_lt c 2048 ≡ t → P (cond t (two c) (cond (nat_lt c 65536) (three c) (four c)))) [
        | true ↦ λ q. g (ltb-true c 2048 q)
        | false ↦ λ _. elim (nat_lt c 65536) as (λ t. nat_lt c 65536 ≡ t → P (cond t (three c) (four c))) [
          | true ↦ λ q. h (ltb-true c 65536 q)
          | false ↦ λ _. k
        ] refl
      ] refl
    ] refl

encode_below : (c : ℕ) (bs : List ℕ) → c ≤ 0xE_FFFF → slice_cmp nat_cmp (encode c ++ bs) top_name ≡ Less
encode_below c bs h = encode_cases (λ v. slice_cmp nat_cmp (v ++ bs) top_name ≡ Less) c
    (λ low. low_first c bs (omega arith))
    (λ low. low_first (192 + c / 64) (later c ∷ bs) (omega arith))
    (λ low. low_first (224 + c / 4096) (later (c / 64) ∷ later c ∷ bs) (omega arith))
    (low_first (240 + c / 262144) (later (c / 4096) ∷ later (c / 64) ∷ later c ∷ bs) (omega arith))

encodes_below : (cs : List ℕ) → begins_name cs ≡ true → slice_cmp nat_cmp (encodes cs) top_name ≡ Less
encodes_below [] h = cc
encodes_below (c ∷ cs) h = encode_below c (encodes cs) (start_le c h)

pub name_below_top : (n : Name) → is_name n ≡ true → slice_cmp nat_cmp n top_name ≡ Less
name_below_top n h =
    let p = parts n h in
    ap (λ v. slice_cmp nat_cmp v top_name) (sym (encodes-chars n (IsUtf8-from_is_utf8 n p.1))) ∙ encodes_below (chars n) p.2

-- ---- a Name's bytes

abbrev pub IsByte : ℕ → Type 0
IsByte b = b < 256

encode_bytes : (c : ℕ) → c < 0x11_0000 → AllByRecursion IsByte (encode c)
encode_bytes c h = encode_cases (AllByRecursion IsByte) c
    (λ low. (omega arith, tt))
    (λ low. (omega arith, (omega arith, tt)))
    (λ low. (omega arith, (omega arith, (omega arith, tt))))
    (omega arith, (omega arith, (omega arith, (omega arith, tt))))

encodes_bytes : (cs : List ℕ) → scalars cs ≡ true → AllByRecursion IsByte (encodes cs)
encodes_bytes [] h = tt
encodes_bytes (c ∷ cs) h =
    let p = both (scalar c) (scalars cs) h in
    all_append IsByte (encode c) (encodes cs) (encode_bytes c (below_end c p.0)) (encodes_bytes cs p.1)
  where
    below_end : (c : ℕ) → scalar c ≡ true → c < 0x11_0000
    below_end c h = ⊎_elim (λ low. omega arith) (λ high. high.1) (scalar_cases c h)

pub utf8_bytes : (n : List ℕ) → is_utf8 n ≡ true → AllByRecursion IsByte n
utf8_bytes n h =
    let u = IsUtf8-from_is_utf8 n h in
    subst (AllByRecursion IsByte) (encodes-chars n u) (encodes_bytes (chars n) (scalars-chars n u))

pub name_bytes : (n : Name) → is_name n ≡ true → AllByRecursion IsByte n
name_bytes n h = utf8_bytes n (parts n h).1

pub name_length : (n : Name) → is_name n ≡ true → length n ≤ most_name_bytes
name_length n h = (parts n h).0

-- ---- the name of a valid key: empty, or a Name

key_name : (P : Name → Type 0) (n : Name) → P [] → (is_name n ≡ true → P n) → IsKeyName n → P n
key_name P n none named h = ⊎_elim (λ empty. subst P (sym empty) none) named h

pub key_name_below_top : (n : Name) → IsKeyName n → slice_cmp nat_cmp n top_name ≡ Less
key_name_below_top n = key_name (λ v. slice_cmp nat_cmp v top_name ≡ Less) n refl (name_below_top n)

pub key_name_bytes : (n : Name) → IsKeyName n → AllByRecursion IsByte n
key_name_bytes n = key_name (AllByRecursion IsByte) n tt (name_bytes n)

pub key_name_length : (n : Name) → IsKeyName n → length n ≤ most_name_bytes
key_name_length n = key_name (λ v. length v ≤ most_name_bytes) n (omega arith) (name_length n)

-- what `is_name` answers of a text
pub name_is : (n : Name) (b : Bool) → length n ≤ most_name_bytes → is_utf8 n ≡ true → b ≡ are_name_chars (chars n) → b ≡ is_name n
unfolding is_name
name_is n b short utf8 e = e ∙ sym (λ i. le-leb (length n) most_name_bytes short i && (utf8 i && are_name_chars (chars n)))
