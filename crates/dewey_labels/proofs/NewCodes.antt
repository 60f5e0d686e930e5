-- The laws of new codes: each is a code, and lies strictly between those of the neighbours.
use Rattle.std.proofs.Common.{◌≡◌, ℕ, ◌+◌, ◌-◌, ◌<◌, ◌≤◌, true, false, true≢false, nat_le, nat_lt, ◌==◌, List, [], ◌∷◌, Less, Equal, Greater, nat_cmp, arith, refl, sym, ap, subst, ◌∙◌}
use Rattle.std.proofs.lemmas.Bool.Decides.{nat_tests}
use Rattle.std.specs.Ordering.{ordering_then}
use Rattle.std.specs.Cmp.{nat_cmp_is, ranked}
use Rattle.std.specs.Cmp.Lexicographic.{slice_cmp}
use Rattle.dewey_labels.specs.Labels.{is_odd, is_code}
use Rattle.dewey_labels.specs.NewLabels.{odd_above, after, before, between}
use Rattle.dewey_labels.proofs.Sides.{equal_is, cmp_itself}
use Rattle.dewey_labels.proofs.Codes.{code_cases, none_less}

-- ---- codes by their first division

pub odd_code : (d : ℕ) → is_odd d ≡ true → 3 ≤ d → is_code (d ∷ []) ≡ true
odd_code d o three = grind (arith, nat_tests)

pub even_code : (d : ℕ) (c : List ℕ) → is_odd d ≡ false → 2 ≤ d → is_code c ≡ true → is_code (d ∷ c) ≡ true
even_code d c o two code = grind (arith, nat_tests)

-- the order of two lists by their first divisions, or behind them
pub first_less : (x y : ℕ) (xs ys : List ℕ) → x < y → slice_cmp nat_cmp (x ∷ xs) (y ∷ ys) ≡ Less
first_less x y xs ys h = ap (λ o. ordering_then o (slice_cmp nat_cmp xs ys)) (sym (nat_cmp_is x y Less h))

pub rest_less : (x : ℕ) (xs ys : List ℕ) → slice_cmp nat_cmp xs ys ≡ Less → slice_cmp nat_cmp (x ∷ xs) (x ∷ ys) ≡ Less
rest_less x xs ys h = ap (λ o. ordering_then o (slice_cmp nat_cmp xs ys)) (cmp_itself x) ∙ h

-- ---- odd_above is what its name says

pub odd_above_odd : (a : ℕ) → is_odd (odd_above a) ≡ true
odd_above_odd a = grind (arith, nat_tests)

pub odd_above_greater : (a : ℕ) → a < odd_above a
odd_above_greater a = grind (arith, nat_tests)

pub odd_above_least : (a c : ℕ) → a < c → is_odd c ≡ true → odd_above a ≤ c
odd_above_least a c h o = grind (arith, nat_tests)

-- ---- behind a code

pub after_code : (l : List ℕ) → is_code l ≡ true → is_code (after l) ≡ true
after_code [] h = cc
after_code (a ∷ l) h = odd_code (odd_above a) (odd_above_odd a) (code_cases a l h (λ o three _. grind (arith, nat_tests)) (λ o two _. grind (arith, nat_tests)))

pub after_behind : (l : List ℕ) → is_code l ≡ true → slice_cmp nat_cmp l (after l) ≡ Less
after_behind [] h = cc
after_behind (a ∷ l) h = first_less a (odd_above a) l [] (odd_above_greater a)

-- ---- before a code

pub before_odd : (b : ℕ) (r : List ℕ) → is_odd b ≡ true → 5 ≤ b → before (b ∷ r) ≡ (b - 2) ∷ []
before_odd b r o five = grind (arith, nat_tests)

pub before_even : (b : ℕ) (r : List ℕ) → is_odd b ≡ false → 4 ≤ b → before (b ∷ r) ≡ (b - 1) ∷ []
before_even b r o four = grind (arith, nat_tests)

-- the cases of the table for a code, each with what holds there
pub before_cases : {C : Type 0} (b : ℕ) (r : List ℕ) → is_code (b ∷ r) ≡ true
    → (is_odd b ≡ true → 5 ≤ b → C)
    → (b ≡ 3 → C)
    → (is_odd b ≡ false → 4 ≤ b → C)
    → (b ≡ 2 → is_code r ≡ true → C)
    → C
before_cases {C = C} b r h odd three even two =
    code_cases b r h
    (λ o at_least _. elim (nat_le 5 b) as (λ t. nat_le 5 b ≡ t → C) [
      | true ↦ λ t. odd o (grind (arith, nat_tests))
      | false ↦ λ t. three (grind (arith, nat_tests))
    ] refl)
    (λ o at_least code. elim (nat_le 4 b) as (λ t. nat_le 4 b ≡ t → C) [
      | true ↦ λ t. even o (grind (arith, nat_tests))
      | false ↦ λ t. two (grind (arith, nat_tests)) code
    ] refl)

pub before_code : (r : List ℕ) → is_code r ≡ true → is_code (before r) ≡ true
before_code [] h = cc
before_code (b ∷ r) h =
    before_cases b r h
    (λ o five. ap is_code (before_odd b r o five) ∙ odd_code (b - 2) (grind (arith, nat_tests)) (omega arith))
    (λ three. ap (λ v. is_code (before (v ∷ r))) three)
    (λ o four. ap is_code (before_even b r o four) ∙ odd_code (b - 1) (grind (arith, nat_tests)) (omega arith))
    (λ two code. ap (λ v. is_code (before (v ∷ r))) two ∙ even_code 2 (before r) refl (omega arith) (before_code r code))

pub before_ahead : (r : List ℕ) → is_code r ≡ true → slice_cmp nat_cmp (before r) r ≡ Less
before_ahead [] h = cc
before_ahead (b ∷ r) h =
    before_cases b r h
    (λ o five. ap (λ v. slice_cmp nat_cmp v (b ∷ r)) (before_odd b r o five) ∙ first_less (b - 2) b [] r (omega arith))
    (λ three. ap (λ v. slice_cmp nat_cmp (before (v ∷ r)) (v ∷ r)) three)
    (λ o four. ap (λ v. slice_cmp nat_cmp v (b ∷ r)) (before_even b r o four) ∙ first_less (b - 1) b [] r (omega arith))
    (λ two code. ap (λ v. slice_cmp nat_cmp (before (v ∷ r)) (v ∷ r)) two ∙ rest_less 2 (before r) r (before_ahead r code))

-- ---- between two codes

pub between_same : (a : ℕ) (l r : List ℕ) → between (a ∷ l) (a ∷ r) ≡ a ∷ between l r
between_same a l r = grind (arith, nat_tests)

pub between_wide : (a b : ℕ) (l r : List ℕ) → odd_above a < b → between (a ∷ l) (b ∷ r) ≡ odd_above a ∷ []
between_wide a b l r h = grind (arith, nat_tests)

pub between_odd : (a : ℕ) (l r : List ℕ) → is_odd a ≡ true → between (a ∷ l) ((a + 2) ∷ r) ≡ (a + 1) ∷ 1001 ∷ []
between_odd a l r o = grind (arith, nat_tests)

pub between_odd_beside : (a : ℕ) (l r : List ℕ) → is_odd a ≡ true → between (a ∷ l) ((a + 1) ∷ r) ≡ (a + 1) ∷ before r
between_odd_beside a l r o = grind (arith, nat_tests)

pub between_even_beside : (a : ℕ) (l r : List ℕ) → is_odd a ≡ false → between (a ∷ l) ((a + 1) ∷ r) ≡ a ∷ after l
between_even_beside a l r o = grind (arith, nat_tests)

-- the cases of the table for two codes in order, each with what holds there
pub between_cases : {C : Type 0} (a b : ℕ) (l r : List ℕ) → is_code (a ∷ l) ≡ true → is_code (b ∷ r) ≡ true → slice_cmp nat_cmp (a ∷ l) (b ∷ r) ≡ Less
    → (a ≡ b → is_odd a ≡ false → 2 ≤ a → is_code l ≡ true → is_code r ≡ true → slice_cmp nat_cmp l r ≡ Less → C)
    → (odd_above a < b → C)
    → (is_odd a ≡ true → a + 2 ≡ b → C)
    → (is_odd a ≡ true → a + 1 ≡ b → is_code r ≡ true → C)
    → (is_odd a ≡ false → a + 1 ≡ b → is_code l ≡ true → C)
    → C
between_cases {C = C} a b l r h g lt same wide odd odd_beside even_beside =
    elim (nat_cmp a b) as (λ o. nat_cmp a b ≡ o → ordering_then o (slice_cmp nat_cmp l r) ≡ Less → C) [
      | Less ↦ λ t _. apart (ranked a b Less (sym t))
      | Equal ↦ λ t e. alike (equal_is a b t) e
      | Greater ↦ λ _ e. cc
    ] refl lt
  where
    alike : a ≡ b → slice_cmp nat_cmp l r ≡ Less → C
    alike t e =
        let g' : is_code (a ∷ r) ≡ true = subst (λ v. is_code (v ∷ r) ≡ true) (sym t) g in
        code_cases a l h
        (λ o _ l_ends. code_cases a r g' (λ _ _ r_ends. none_less l r l_ends r_ends e) (λ o' _ _. absurd (true≢false (sym o ∙ o'))))
        (λ o two l_code. code_cases a r g' (λ o' _ _. absurd (true≢false (sym o' ∙ o))) (λ _ _ r_code. same t o (grind (arith, nat_tests)) l_code r_code e))

    apart : a < b → C
    apart less =
        elim (nat_lt (odd_above a) b) as (λ t. nat_lt (odd_above a) b ≡ t → C) [
          | true ↦ λ t. wide (grind (arith, nat_tests))
          | false ↦ λ t. code_cases a l h
              (λ o _ _. elim (a + 2 == b) as (λ e. (a + 2 == b) ≡ e → C) [
                | true ↦ λ e. odd o (grind (arith, nat_tests))
                | false ↦ λ e.
                    let next : a + 1 ≡ b = grind (arith, nat_tests) in
                    odd_beside o next (code_cases b r g (λ o' _ _. absurd (grind (arith, nat_tests))) (λ _ _ code. code))
              ] refl)
              (λ o _ code. even_beside o (grind (arith, nat_tests)) code)
        ] refl

-- a code strictly between two others
pub record LiesBetween (l r new : List ℕ) : Type 0 where
  pub code : is_code new ≡ true
  pub behind : slice_cmp nat_cmp l new ≡ Less
  pub ahead : slice_cmp nat_cmp new r ≡ Less

pub between_lies : (l r : List ℕ) → is_code l ≡ true → is_code r ≡ true → slice_cmp nat_cmp l r ≡ Less → LiesBetween l r (between l r)
between_lies [] r h g lt = cc
between_lies (a ∷ l) [] h g lt = cc
between_lies (a ∷ l) (b ∷ r) h g lt =
    let At : ℕ → Type 0 = λ b. LiesBetween (a ∷ l) (b ∷ r) (between (a ∷ l) (b ∷ r)) in
    let next_greater : a < a + 1 = omega arith in
    let two : 2 ≤ a = code_cases a l h (λ _ three _. grind (arith, nat_tests)) (λ _ two _. grind (arith, nat_tests)) in
    between_cases a b l r h g lt
    (λ same o _ l_code r_code less.
    let deep = between_lies l r l_code r_code less in
    subst At same (subst (LiesBetween (a ∷ l) (a ∷ r)) (sym (between_same a l r)) (record {
      code = even_code a (between l r) o two deep.code;
      behind = rest_less a l (between l r) deep.behind;
      ahead = rest_less a (between l r) r deep.ahead;
    })))
    (λ wide.
    let c = odd_above a in
    let up : a < c = odd_above_greater a in
    subst (LiesBetween (a ∷ l) (b ∷ r)) (sym (between_wide a b l r wide)) (record {
      code = odd_code c (odd_above_odd a) (omega arith);
      behind = first_less a c l [] up;
      ahead = first_less c b [] r wide;
    }))
    (λ o next.
    subst At next (subst (LiesBetween (a ∷ l) ((a + 2) ∷ r)) (sym (between_odd a l r o)) (record {
      code = even_code (a + 1) (1001 ∷ []) (grind (arith, nat_tests)) (omega arith) refl;
      behind = first_less a (a + 1) l (1001 ∷ []) next_greater;
      ahead = first_less (a + 1) (a + 2) (1001 ∷ []) r (omega arith);
    })))
    (λ o next r_code.
    subst At next (subst (LiesBetween (a ∷ l) ((a + 1) ∷ r)) (sym (between_odd_beside a l r o)) (record {
      code = even_code (a + 1) (before r) (grind (arith, nat_tests)) (omega arith) (before_code r r_code);
      behind = first_less a (a + 1) l (before r) next_greater;
      ahead = rest_less (a + 1) (before r) r (before_ahead r r_code);
    })))
    (λ o next l_code.
    subst At next (subst (LiesBetween (a ∷ l) ((a + 1) ∷ r)) (sym (between_even_beside a l r o)) (record {
      code = even_code a (after l) o two (after_code l l_code);
      behind = rest_less a l (after l) (after_behind l l_code);
      ahead = first_less a (a + 1) (after l) r next_greater;
    })))
