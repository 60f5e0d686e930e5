-- Where a line ends.
use Rattle.std.proofs.Common.{◌≡◌, ◌≢◌, ◌<◌, ◌≤◌, ◌+◌, ℕ, suc, Bool, true, false, cond, eqb, ltb, not, List, [], ◌∷◌, length, sym, ap, subst, arith, inl, inr, ◌⊎◌}
use Rattle.std.specs.Prelude.{Some, None, position}
use Rattle.std.specs.List.{position_or_len}
use Rattle.std.proofs.lemmas.Bool.Decides.{eqb_tells, leb_tells}
use Rattle.script_runs.specs.inside.Feeding.{IsInLine}
use Rattle.script_runs.specs.inside.Feeding.{EndsAt, IsFirstEnd}

pub ltb_tells : (a b : ℕ) → ((ltb a b ≡ true) × (a < b)) ⊎ ((ltb a b ≡ false) × (b ≤ a))
ltb_tells a b = elim (leb_tells (suc a) b) [ inl h ↦ inl (h.0, omega (arith, h.1)) | inr h ↦ inr (h.0, omega (arith, h.1)) ]

abbrev is_end : ℕ → Bool
is_end b = eqb b 10

-- what is known where n bytes were found before the end of a line
abbrev Found : List ℕ → ℕ → Type 0
Found bytes n = (n < length bytes → EndsAt bytes n) × (length bytes ≤ n → IsInLine bytes)

one_more : (b : ℕ) (bytes : List ℕ) (n : ℕ) → b ≢ 10 → Found bytes n → Found (b ∷ bytes) (suc n)
one_more b bytes n apart h = (
  λ l. let e = h.0 (omega arith) in record { cut = ap (λ t. b ∷ t) e.cut; in_line = (apart, e.in_line); within = omega arith },
  λ l. (apart, h.1 (omega arith)),
)

found : (bytes : List ℕ) → Found bytes (position_or_len is_end bytes)
found [] = (λ l. absurd (omega arith), λ l. tt)
found (b ∷ bytes) =
    let P : Bool → Type 0 = λ v. Found (b ∷ bytes) (cond (not v) (1 + position_or_len is_end bytes) 0) in
    elim (eqb_tells b 10) [
      | inl h ↦ subst P (sym h.0) (λ l. record { cut = ap (λ x. x ∷ bytes) h.1; in_line = tt; within = omega arith }, λ l. absurd (omega arith))
      | inr h ↦ subst P (sym h.0) (subst (Found (b ∷ bytes)) (let e : suc (position_or_len is_end bytes) ≡ 1 + position_or_len is_end bytes = omega arith in e) (one_more b bytes _ h.1 (found bytes)))
    ]

pub first_end_is : (bytes : List ℕ) → IsFirstEnd bytes (position (λ b. eqb b 10) bytes)
first_end_is bytes =
    let n = position_or_len is_end bytes in
    let P : Bool → Type 0 = λ v. IsFirstEnd bytes (cond v (Some n) None) in
    elim (ltb_tells n (length bytes)) [
      | inl h ↦ subst P (sym h.0) ((found bytes).0 h.1)
      | inr h ↦ subst P (sym h.0) ((found bytes).1 h.1)
    ]
