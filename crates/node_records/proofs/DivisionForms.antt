-- The four forms of a division: what is written is read again, what is read was written so, and divisions sort as their bytes do.
use Rattle.std.proofs.Common.{◌≡◌, ℕ, ◌+◌, ◌-◌, ◌*◌, ◌/◌, ◌%◌, ◌^◌, ◌<◌, ◌≤◌, true, false, cond, ltb, eqb, List, [], ◌∷◌, ◌++◌, length, Some, None, Less, Equal, Greater, nat_cmp, refl, sym, ap, subst, ◌∙◌, arith, inl, inr}
use Rattle.std.specs.Prelude.{◌==◌}
use Rattle.std.specs.Ordering.{ordering_then}
use Rattle.std.specs.Cmp.Lexicographic.{slice_cmp}
use Rattle.std.proofs.lemmas.Bool.{cases_lt, ltb-false, lt-ltb, le-ltb, ltb-true, eqb-true}
use Rattle.std.proofs.lemmas.Option.{none-some, same_Some}
use Rattle.std.specs.Cmp.{tied_itself, nat_cmp_total}
use Rattle.byteorder.specs.Endian.{big_bytes, big_number}
use Rattle.node_records.specs.Reads.{Takes}
use Rattle.outside_traits.specs.Bytes.{IsBytes}
use Rattle.node_records.specs.Divisions.{division_bytes, division_in}

-- the bytes of each form
abbrev pub one : ℕ → List ℕ
one d = d ∷ []

abbrev pub two : ℕ → List ℕ
two d = big_bytes 2 (0x8000 + (d - 128))

abbrev pub three : ℕ → List ℕ
three d = big_bytes 3 (0xC0_0000 + (d - 16_512))

abbrev pub five : ℕ → List ℕ
five d = 0xE0 ∷ big_bytes 4 d

-- a fact of a division's bytes, shown for each form
pub forms : (P : List ℕ → Type 0) (d : ℕ) → (d < 128 → P (one d)) → (128 ≤ d → d < 16_512 → P (two d)) → (16_512 ≤ d → d < 2_113_664 → P (three d)) → (2_113_664 ≤ d → P (five d)) → P (division_bytes d)
forms P d f g h k =
    elim (ltb d 128) as (λ t. ltb d 128 ≡ t → P (cond t (one d) (cond (ltb d 16_512) (two d) (cond (ltb d 2_113_664) (three d) (five d))))) [
      | true ↦ λ q. f (ltb-true d 128 q)
      | false ↦ λ q. elim (ltb d 16_512) as (λ t. ltb d 16_512 ≡ t → P (cond t (two d) (cond (ltb d 2_113_664) (three d) (five d)))) [
        | true ↦ λ r. g (ltb-false d 128 q) (ltb-true d 16_512 r)
        | false ↦ λ r. elim (ltb d 2_113_664) as (λ t. ltb d 2_113_664 ≡ t → P (cond t (three d) (five d))) [
          | true ↦ λ s. h (ltb-false d 16_512 r) (ltb-true d 2_113_664 s)
          | false ↦ λ s. k (ltb-false d 2_113_664 s)
        ] refl
      ] refl
    ] refl

-- ---- what is written is read again

-- what a division is read as, when the tests on its first byte are known
read_two : (b c : ℕ) (bs : List ℕ) → 0x80 ≤ b → b < 0xC0 → division_in (b ∷ c ∷ bs) ≡ Some (b * 256 + c - 0x8000 + 128, 2)
read_two b c bs low high =
    let long : ltb (length (b ∷ c ∷ bs)) 2 ≡ false = le-ltb _ _ (omega arith) in
    let number : big_number 2 (b ∷ c ∷ bs) ≡ b * 256 + c = omega arith in
    rw (le-ltb b 0x80 low, lt-ltb b 0xC0 high, long) (ap (λ (n : ℕ). Some (n - 0x8000 + 128, 2)) number)

read_three : (b c d : ℕ) (bs : List ℕ) → 0xC0 ≤ b → b < 0xE0 → division_in (b ∷ c ∷ d ∷ bs) ≡ Some (b * 65536 + c * 256 + d - 0xC0_0000 + 16_512, 3)
read_three b c d bs low high =
    let long : ltb (length (b ∷ c ∷ d ∷ bs)) 3 ≡ false = le-ltb _ _ (omega arith) in
    let number : big_number 3 (b ∷ c ∷ d ∷ bs) ≡ b * 65536 + c * 256 + d = omega arith in
    rw (le-ltb b 0x80 (omega arith), le-ltb b 0xC0 low, lt-ltb b 0xE0 high, long) (ap (λ (n : ℕ). Some (n - 0xC0_0000 + 16_512, 3)) number)

read_five : (b c d e : ℕ) (bs : List ℕ) → 2_113_664 ≤ b * 16777216 + c * 65536 + d * 256 + e → division_in (0xE0 ∷ b ∷ c ∷ d ∷ e ∷ bs) ≡ Some (b * 16777216 + c * 65536 + d * 256 + e, 5)
read_five b c d e bs least =
    let long : ltb (length (b ∷ c ∷ d ∷ e ∷ bs)) 4 ≡ false = le-ltb _ _ (omega arith) in
    let number : big_number 4 (b ∷ c ∷ d ∷ e ∷ bs) ≡ b * 16777216 + c * 65536 + d * 256 + e = omega arith in
    let great : ltb (b * 16777216 + c * 65536 + d * 256 + e) 2_113_664 ≡ false = le-ltb _ _ least in
    rw (long, number, great) refl

pub division_again : (d : ℕ) (rest : List ℕ) → d < 2 ^ 32 → division_in (division_bytes d ++ rest) ≡ Some (d, length (division_bytes d))
division_again d rest fits = forms (λ bs. division_in (bs ++ rest) ≡ Some (d, length bs)) d
    (λ q. rw (lt-ltb d 128 q) refl)
    (λ low high. let n : ℕ = 0x8000 + (d - 128) in read_two (n / 256 % 256) (n % 256) rest (omega arith) (omega arith) ∙ ap (λ (x : ℕ). Some (x, 2)) (omega arith))
    (λ low high. let n : ℕ = 0xC0_0000 + (d - 16_512) in read_three (n / 65536 % 256) (n / 256 % 256) (n % 256) rest (omega arith) (omega arith) ∙ ap (λ (x : ℕ). Some (x, 3)) (omega arith))
    (λ low. read_five (d / 16777216 % 256) (d / 65536 % 256) (d / 256 % 256) (d % 256) rest (omega arith) ∙ ap (λ (x : ℕ). Some (x, 5)) (omega arith))

-- ---- what is read was written so

form_one : (d : ℕ) → d < 128 → division_bytes d ≡ one d
form_one d h = rw (lt-ltb d 128 h) refl

form_two : (d : ℕ) → 128 ≤ d → d < 16_512 → division_bytes d ≡ two d
form_two d h g = rw (le-ltb d 128 h, lt-ltb d 16_512 g) refl

form_three : (d : ℕ) → 16_512 ≤ d → d < 2_113_664 → division_bytes d ≡ three d
form_three d h g = rw (le-ltb d 128 (omega arith), le-ltb d 16_512 h, lt-ltb d 2_113_664 g) refl

form_five : (d : ℕ) → 2_113_664 ≤ d → division_bytes d ≡ five d
form_five d h = rw (le-ltb d 128 (omega arith), le-ltb d 16_512 (omega arith), le-ltb d 2_113_664 h) refl

-- a pair that was read is this one
abbrev pub IsRead : (ℕ × ℕ) → List ℕ → Type 0
IsRead x bytes = Takes (division_bytes x.0) x.1 bytes × (x.0 < 2 ^ 32)

same_read : (x y : ℕ × ℕ) (bytes : List ℕ) → Some x ≡ Some y → IsRead x bytes → IsRead y bytes
same_read x y bytes e h = let same : x ≡ y = same_Some x y e in subst (λ z. IsRead z bytes) same h

two_written : (b : ℕ) (bs : List ℕ) (y : ℕ × ℕ) → 0x80 ≤ b → b < 0xC0 → IsBytes bs → division_in (b ∷ bs) ≡ Some y → IsRead y (b ∷ bs)
two_written b [] y low high fits e = absurd (none-some y (sym (rw (le-ltb b 0x80 low, lt-ltb b 0xC0 high) refl) ∙ e))
two_written b (c ∷ bs) y low high fits e =
    let d : ℕ = b * 256 + c - 0x8000 + 128 in
    let small : c < 256 = fits.0 in
    let first : b ≡ (0x8000 + (d - 128)) / 256 % 256 = omega arith in
    let second : c ≡ (0x8000 + (d - 128)) % 256 = omega arith in
    let form : division_bytes d ≡ two d = form_two d (omega arith) (omega arith) in
    let text : b ∷ c ∷ bs ≡ two d ++ bs = λ i. first i ∷ second i ∷ bs in
    same_read (d, 2) y (b ∷ c ∷ bs) (sym (read_two b c bs low high) ∙ e) (record { parts = text ∙ ap (λ (t : List ℕ). t ++ bs) (sym form); count = ap length (sym form) }, omega arith)

three_written : (b : ℕ) (bs : List ℕ) (y : ℕ × ℕ) → 0xC0 ≤ b → b < 0xE0 → IsBytes bs → division_in (b ∷ bs) ≡ Some y → IsRead y (b ∷ bs)
three_written b [] y low high fits e = absurd (none-some y (sym (rw (le-ltb b 0x80 (omega arith), le-ltb b 0xC0 low, lt-ltb b 0xE0 high) refl) ∙ e))
three_written b (c ∷ []) y low high fits e = absurd (none-some y (sym (rw (le-ltb b 0x80 (omega arith), le-ltb b 0xC0 low, lt-ltb b 0xE0 high) refl) ∙ e))
three_written b (c ∷ c2 ∷ bs) y low high fits e =
    let d : ℕ = b * 65536 + c * 256 + c2 - 0xC0_0000 + 16_512 in
    let small : c < 256 = fits.0 in
    let small2 : c2 < 256 = fits.1.0 in
    let first : b ≡ (0xC0_0000 + (d - 16_512)) / 65536 % 256 = omega arith in
    let second : c ≡ (0xC0_0000 + (d - 16_512)) / 256 % 256 = omega arith in
    let third : c2 ≡ (0xC0_0000 + (d - 16_512)) % 256 = omega arith in
    let form : division_bytes d ≡ three d = form_three d (omega arith) (omega arith) in
    let text : b ∷ c ∷ c2 ∷ bs ≡ three d ++ bs = λ i. first i ∷ second i ∷ third i ∷ bs in
    same_read (d, 3) y (b ∷ c ∷ c2 ∷ bs) (sym (read_three b c c2 bs low high) ∙ e) (record { parts = text ∙ ap (λ (t : List ℕ). t ++ bs) (sym form); count = ap length (sym form) }, omega arith)

five_written : (bs : List ℕ) (y : ℕ × ℕ) → IsBytes bs → division_in (0xE0 ∷ bs) ≡ Some y → IsRead y (0xE0 ∷ bs)
five_written [] y fits e = absurd (none-some y e)
five_written (c ∷ []) y fits e = absurd (none-some y e)
five_written (c ∷ c2 ∷ []) y fits e = absurd (none-some y e)
five_written (c ∷ c2 ∷ c3 ∷ []) y fits e = absurd (none-some y e)
five_written (c ∷ c2 ∷ c3 ∷ c4 ∷ bs) y fits e =
    let d : ℕ = c * 16777216 + c2 * 65536 + c3 * 256 + c4 in
    let small : c < 256 = fits.0 in
    let small2 : c2 < 256 = fits.1.0 in
    let small3 : c3 < 256 = fits.1.1.0 in
    let small4 : c4 < 256 = fits.1.1.1.0 in
    elim (cases_lt d 2_113_664) [
      | inl short ↦
          let long : ltb (length (c ∷ c2 ∷ c3 ∷ c4 ∷ bs)) 4 ≡ false = le-ltb _ _ (omega arith) in
          let number : big_number 4 (c ∷ c2 ∷ c3 ∷ c4 ∷ bs) ≡ d = omega arith in
          let refused : division_in (0xE0 ∷ c ∷ c2 ∷ c3 ∷ c4 ∷ bs) ≡ None = rw (long, number, lt-ltb d 2_113_664 short) refl in
          absurd (none-some y (sym refused ∙ e))
      | inr least ↦
          let first : c ≡ d / 16777216 % 256 = omega arith in
          let second : c2 ≡ d / 65536 % 256 = omega arith in
          let third : c3 ≡ d / 256 % 256 = omega arith in
          let fourth : c4 ≡ d % 256 = omega arith in
          let form : division_bytes d ≡ five d = form_five d least in
          let text : 0xE0 ∷ c ∷ c2 ∷ c3 ∷ c4 ∷ bs ≡ five d ++ bs = λ i. 0xE0 ∷ first i ∷ second i ∷ third i ∷ fourth i ∷ bs in
          same_read (d, 5) y (0xE0 ∷ c ∷ c2 ∷ c3 ∷ c4 ∷ bs) (sym (read_five c c2 c3 c4 bs least) ∙ e) (record { parts = text ∙ ap (λ (t : List ℕ). t ++ bs) (sym form); count = ap length (sym form) }, omega arith)
    ]

pub division_written : (bytes : List ℕ) (y : ℕ × ℕ) → IsBytes bytes → division_in bytes ≡ Some y → IsRead y bytes
division_written [] y fits e = absurd (none-some y e)
division_written (b ∷ bs) y fits e =
    elim (cases_lt b 0x80) [
      | inl q ↦
          let form : division_bytes b ≡ one b = form_one b q in
          let read : division_in (b ∷ bs) ≡ Some (b, 1) = rw (lt-ltb b 0x80 q) refl in
          same_read (b, 1) y (b ∷ bs) (sym read ∙ e) (record { parts = ap (λ (t : List ℕ). t ++ bs) (sym form); count = ap length (sym form) }, omega arith)
      | inr q ↦ elim (cases_lt b 0xC0) [
        | inl r ↦ two_written b bs y q r fits.1 e
        | inr r ↦ elim (cases_lt b 0xE0) [
          | inl s ↦ three_written b bs y r s fits.1 e
          | inr s ↦ elim (eqb b 0xE0) as (λ t. eqb b 0xE0 ≡ t → IsRead y (b ∷ bs)) [
            | true ↦ λ t. let same : b ≡ 0xE0 = eqb-true b 0xE0 t in subst (λ (x : ℕ). IsRead y (x ∷ bs)) (sym same) (five_written bs y fits.1 (ap (λ (x : ℕ). division_in (x ∷ bs)) (sym same) ∙ e))
            | false ↦ λ t.
                let refused : division_in (b ∷ bs) ≡ None = rw (le-ltb b 0x80 q, le-ltb b 0xC0 r, le-ltb b 0xE0 s, t) refl in
                absurd (none-some y (sym refused ∙ e))
          ] refl
        ]
      ]
    ]

-- ---- divisions sort as their bytes do

-- a byte decides, or the bytes behind it do
abbrev pub IsLess : List ℕ → List ℕ → Type 0
IsLess xs ys = slice_cmp nat_cmp xs ys ≡ Less

pub first_less : (a b : ℕ) (xs ys : List ℕ) → a < b → IsLess (a ∷ xs) (b ∷ ys)
first_less a b xs ys h = ap (λ t. ordering_then (cond t Less (cond (a == b) Equal Greater)) (slice_cmp nat_cmp xs ys)) (lt-ltb a b h)

pub number_itself : (a : ℕ) → nat_cmp a a ≡ Equal
number_itself a = tied_itself nat_cmp_total a

-- what two lists that begin alike compare as
pub same_prefix : (p xs ys : List ℕ) → slice_cmp nat_cmp (p ++ xs) (p ++ ys) ≡ slice_cmp nat_cmp xs ys
same_prefix [] xs ys = refl
same_prefix (a ∷ p) xs ys = ap (λ o. ordering_then o (slice_cmp nat_cmp (p ++ xs) (p ++ ys))) (number_itself a) ∙ same_prefix p xs ys

next_less : (a b : ℕ) (xs ys : List ℕ) → a ≡ b → IsLess xs ys → IsLess (a ∷ xs) (b ∷ ys)
next_less a b xs ys e h = subst (λ (x : ℕ). IsLess (a ∷ xs) (x ∷ ys)) e (same_prefix (a ∷ []) xs ys ∙ h)

-- numbers of two bytes, three and four; bytes above these don't count
two_less : (n m : ℕ) (s t : List ℕ) → n % 65536 < m % 65536 → IsLess (big_bytes 2 n ++ s) (big_bytes 2 m ++ t)
two_less n m s t h =
    elim (cases_lt (n / 256 % 256) (m / 256 % 256)) [
      | inl lt ↦ first_less (n / 256 % 256) (m / 256 % 256) (n % 256 ∷ s) (m % 256 ∷ t) lt
      | inr ge ↦ next_less (n / 256 % 256) (m / 256 % 256) (n % 256 ∷ s) (m % 256 ∷ t) (omega arith) (first_less (n % 256) (m % 256) s t (omega arith))
    ]

three_less : (n m : ℕ) (s t : List ℕ) → n % 16777216 < m % 16777216 → IsLess (big_bytes 3 n ++ s) (big_bytes 3 m ++ t)
three_less n m s t h =
    elim (cases_lt (n / 65536 % 256) (m / 65536 % 256)) [
      | inl lt ↦ first_less (n / 65536 % 256) (m / 65536 % 256) (big_bytes 2 n ++ s) (big_bytes 2 m ++ t) lt
      | inr ge ↦ next_less (n / 65536 % 256) (m / 65536 % 256) (big_bytes 2 n ++ s) (big_bytes 2 m ++ t) (omega arith) (two_less n m s t (omega arith))
    ]

four_less : (n m : ℕ) (s t : List ℕ) → n % 4294967296 < m % 4294967296 → IsLess (big_bytes 4 n ++ s) (big_bytes 4 m ++ t)
four_less n m s t h =
    elim (cases_lt (n / 16777216 % 256) (m / 16777216 % 256)) [
      | inl lt ↦ first_less (n / 16777216 % 256) (m / 16777216 % 256) (big_bytes 3 n ++ s) (big_bytes 3 m ++ t) lt
      | inr ge ↦ next_less (n / 16777216 % 256) (m / 16777216 % 256) (big_bytes 3 n ++ s) (big_bytes 3 m ++ t) (omega arith) (three_less n m s t (omega arith))
    ]

-- what the forms of two bytes and of three write as a number
abbrev in_two : ℕ → ℕ
in_two d = 0x8000 + (d - 128)

abbrev in_three : ℕ → ℕ
in_three d = 0xC0_0000 + (d - 16_512)

-- by the forms of both
pub division_less : (d e : ℕ) (s t : List ℕ) → d < e → e < 2 ^ 32 → IsLess (division_bytes d ++ s) (division_bytes e ++ t)
division_less d e s t h fits = forms (λ x. IsLess (x ++ s) (division_bytes e ++ t)) d
    (λ q. forms (λ y. IsLess (one d ++ s) (y ++ t)) e
    (λ r. first_less d e s t h)
    (λ low high. first_less d (in_two e / 256 % 256) s (big_bytes 1 (in_two e) ++ t) (omega arith))
    (λ low high. first_less d (in_three e / 65536 % 256) s (big_bytes 2 (in_three e) ++ t) (omega arith))
    (λ low. first_less d 0xE0 s (big_bytes 4 e ++ t) (omega arith)))
    (λ l g. forms (λ y. IsLess (two d ++ s) (y ++ t)) e
    (λ r. absurd (omega arith))
    (λ low high. two_less (in_two d) (in_two e) s t (omega arith))
    (λ low high. first_less (in_two d / 256 % 256) (in_three e / 65536 % 256) (big_bytes 1 (in_two d) ++ s) (big_bytes 2 (in_three e) ++ t) (omega arith))
    (λ low. first_less (in_two d / 256 % 256) 0xE0 (big_bytes 1 (in_two d) ++ s) (big_bytes 4 e ++ t) (omega arith)))
    (λ l g. forms (λ y. IsLess (three d ++ s) (y ++ t)) e
    (λ r. absurd (omega arith))
    (λ low high. absurd (omega arith))
    (λ low high. three_less (in_three d) (in_three e) s t (omega arith))
    (λ low. first_less (in_three d / 65536 % 256) 0xE0 (big_bytes 2 (in_three d) ++ s) (big_bytes 4 e ++ t) (omega arith)))
    (λ l. forms (λ y. IsLess (five d ++ s) (y ++ t)) e
    (λ r. absurd (omega arith))
    (λ low high. absurd (omega arith))
    (λ low high. absurd (omega arith))
    (λ low. next_less 0xE0 0xE0 (big_bytes 4 d ++ s) (big_bytes 4 e ++ t) refl (four_less d e s t (omega arith))))

-- the end of a label lies below the first byte of every division but 0
pub end_less : (d : ℕ) (s t : List ℕ) → 0 < d → d < 2 ^ 32 → IsLess (0 ∷ s) (division_bytes d ++ t)
end_less d s t h fits = forms (λ x. IsLess (0 ∷ s) (x ++ t)) d
    (λ q. first_less 0 d s t h)
    (λ low high. first_less 0 (in_two d / 256 % 256) s (big_bytes 1 (in_two d) ++ t) (omega arith))
    (λ low high. first_less 0 (in_three d / 65536 % 256) s (big_bytes 2 (in_three d) ++ t) (omega arith))
    (λ low. first_less 0 0xE0 s (big_bytes 4 d ++ t) (omega arith))
