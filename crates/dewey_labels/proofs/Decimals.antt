-- Digits, and where they end in a text.
use Rattle.std.proofs.Common.{◌≡◌, ℕ, ◌+◌, ◌*◌, ◌/◌, ◌%◌, ◌^◌, ◌≤◌, ◌<◌, false, List, [], ◌∷◌, ◌++◌, ◌⊎◌, inl, inr, refl, sym, ap, subst, ◌∙◌, arith, true≢false}
use Rattle.std.specs.List.{AllByRecursion}
use Rattle.std.specs.Fmt.{decimal}
use Rattle.std.proofs.lemmas.Fmt.{decimal_digit, decimal_step, decimal_by_steps}
use Rattle.dewey_labels.specs.Lists.{is_empty}

abbrev pub IsDigit : ℕ → Type 0
IsDigit c = (48 ≤ c) × (c ≤ 57)

abbrev pub Digits : List ℕ → Type 0
Digits ds = AllByRecursion IsDigit ds

abbrev pub NoDigitFirst : List ℕ → Type 0
NoDigitFirst [] = Unit {0}
NoDigitFirst (x ∷ xs) = IsDigit x → ⊥

pub digits_on : (a b : List ℕ) → Digits a → Digits b → Digits (a ++ b)
digits_on [] b d e = e
digits_on (x ∷ a) b d e = (d.0, digits_on a b d.1 e)

pub decimal_digits : (n : ℕ) → n < 2 ^ 64 → Digits (decimal n)
decimal_digits n h = decimal_by_steps (λ _ ds. Digits ds) (λ n s. ((omega arith, omega arith), tt)) (λ n ds m d. digits_on ds _ d ((omega arith, omega arith), tt)) n h

-- digits that end at no digit are told by the text
pub same_digits : (a b v w : List ℕ) → Digits a → Digits b → NoDigitFirst v → NoDigitFirst w → a ++ v ≡ b ++ w → (a ≡ b) × (v ≡ w)
same_digits [] [] v w da db nv nw e = (refl, e)
same_digits [] (y ∷ b) v w da db nv nw e = absurd ((subst NoDigitFirst e nv) db.0)
same_digits (x ∷ a) [] v w da db nv nw e = absurd ((subst NoDigitFirst (sym e) nw) da.0)
same_digits (x ∷ a) (y ∷ b) v w da db nv nw e =
    let h : x ≡ y = cc in
    let t : a ++ v ≡ b ++ w = cc in
    let r = same_digits a b v w da.1 db.1 nv nw t in
    (λ i. h i ∷ r.0 i, r.1)

pub record Begins (xs ds : List ℕ) : Type 0 where
  pub rest : List ℕ
  pub is : ds ≡ xs ++ rest

-- digits that begin a text begin the digits that it begins with
pub begins_digits : (xs ds r w : List ℕ) → Digits xs → NoDigitFirst w → xs ++ r ≡ ds ++ w → Begins xs ds
begins_digits [] ds r w d n e = record { rest = ds; is = refl }
begins_digits (x ∷ xs) [] r w d n e = absurd ((subst NoDigitFirst (sym e) n) d.0)
begins_digits (x ∷ xs) (y ∷ ds) r w d n e =
    let h : y ≡ x = cc in
    let t : xs ++ r ≡ ds ++ w = cc in
    let at = begins_digits xs ds r w d.1 n t in
    record { rest = at.rest; is = λ i. h i ∷ at.is i }

single : (z : ℕ) (xs ys : List ℕ) → z ∷ [] ≡ xs ++ ys → is_empty xs ≡ false → (xs ≡ z ∷ []) × (ys ≡ [])
single z [] ys e x = absurd (true≢false x)
single z (a ∷ []) [] e x = (sym e, refl)
single z (a ∷ []) (y ∷ ys) e x = absurd (cc)
single z (a ∷ b ∷ xs) ys e x = absurd (cc)

last_or_before : (ds xs ys : List ℕ) (z : ℕ) → ds ++ z ∷ [] ≡ xs ++ ys → ((ys ≡ []) × (xs ≡ ds ++ z ∷ [])) ⊎ Begins xs ds
last_or_before ds [] ys z e = inr (record { rest = ds; is = refl })
last_or_before [] (x ∷ xs) ys z e = let h = single z (x ∷ xs) ys e refl in inl (h.1, h.0)
last_or_before (d ∷ ds) (x ∷ xs) ys z e =
    let h : d ≡ x = cc in
    let t : ds ++ z ∷ [] ≡ xs ++ ys = cc in
    elim (last_or_before ds xs ys z t) [
      | inl k ↦ inl (k.0, λ i. sym h i ∷ k.1 i)
      | inr at ↦ inr (record { rest = at.rest; is = λ i. h i ∷ at.is i })
    ]

-- the first digits of e are those of a number: e, or one that is ten times smaller
pub record BeginsDecimal (e : ℕ) (xs ys : List ℕ) : Type 0 where
  pub number : ℕ
  pub is : xs ≡ decimal number
  pub size : ((ys ≡ []) × (number ≡ e)) ⊎ ((1 ≤ number) × (number * 10 ≤ e))

pub begins_decimal : (e : ℕ) → e < 2 ^ 64 → (xs ys : List ℕ) → decimal e ≡ xs ++ ys → is_empty xs ≡ false → BeginsDecimal e xs ys
begins_decimal e b = (decimal_by_steps Each one more e b b).1
  where
    Each : ℕ → List ℕ → Type 0
    Each n ds = n < 2 ^ 64 → (ds ≡ decimal n) × ((xs ys : List ℕ) → ds ≡ xs ++ ys → is_empty xs ≡ false → BeginsDecimal n xs ys)

    one : (n : ℕ) → n < 10 → Each n ((48 + n) ∷ [])
    one n s b =
        let d = decimal_digit n s in
        (sym d, λ xs ys e x. let h = single (48 + n) xs ys e x in record { number = n; is = h.0 ∙ sym d; size = inl (h.1, refl) })

    more : (n : ℕ) (ds : List ℕ) → 10 ≤ n → Each (n / 10) ds → Each n (ds ++ ((48 + n % 10) ∷ []))
    more n ds m ih b =
        let at = ih (omega arith) in
        let whole : ds ++ ((48 + n % 10) ∷ []) ≡ decimal n = ap (λ w. w ++ ((48 + n % 10) ∷ [])) at.0 ∙ sym (decimal_step n m b) in (
          whole,
          λ xs ys e x. elim (last_or_before ds xs ys (48 + n % 10) e) [
            | inl k ↦ record { number = n; is = k.1 ∙ whole; size = inl (k.0, refl) }
            | inr k ↦
                let r = at.1 xs k.rest k.is x in
                record { number = r.number; is = r.is; size = elim (r.size) [ inl h ↦ inr (omega (arith, h.1), omega (arith, h.1)) | inr h ↦ inr (h.0, omega (arith, h.1)) ] }
          ],
        )

-- one more digit
pub decimal_more : (p c : ℕ) → 1 ≤ p → c < 10 → p * 10 + c < 2 ^ 64 → decimal (p * 10 + c) ≡ decimal p ++ ((48 + c) ∷ [])
decimal_more p c m s b =
    let q : (p * 10 + c) / 10 ≡ p = omega arith in
    let r : (p * 10 + c) % 10 ≡ c = omega arith in
    decimal_step (p * 10 + c) (omega arith) b ∙ (λ i. decimal (q i) ++ ((48 + r i) ∷ []))
