-- A cycle may begin at each of its members, and where all but one wait as before, a new cycle goes through that one.
use Rattle.std.proofs.Common.{◌≡◌, ◌≢◌, ℕ, Bool, true, false, not, ◌&&◌, ◌||◌, List, [], ◌∷◌, ◌++◌, ◌==◌, refl, sym, ap, ap₂, append-nil, subst, ◌⊎◌, inl, inr, ⊎_elim, ◌∙◌, arith, true≢false}
use Rattle.std.proofs.lemmas.Bool.Decides.{nat_tests}
use Rattle.wait_cycles.specs.Walks.{leads, has, is_distinct}
use Rattle.wait_cycles.specs.Cycles.{is_cycle, HasNoneThrough, HasNone}

pub same_or_not : (s u : ℕ) → (s ≡ u) ⊎ (s ≢ u)
same_or_not s u = go (s == u) refl
  where
    go : (b : Bool) → (s == u) ≡ b → (s ≡ u) ⊎ (s ≢ u)
    go true e = inl (grind (arith, nat_tests))
    go false e = inr (grind (arith, nat_tests))

and_turned : (a b : Bool) → (a && b) ≡ (b && a)
and_turned a b = grind arith

has_append : (s : ℕ) (xs ys : List ℕ) → has s (xs ++ ys) ≡ (has s xs || has s ys)
has_append s [] ys = refl
has_append s (x ∷ xs) ys = grind (arith, has_append s xs ys)

distinct_middle : (x : ℕ) (xs ys : List ℕ) → is_distinct (xs ++ x ∷ ys) ≡ (not (has x (xs ++ ys)) && is_distinct (xs ++ ys))
distinct_middle x [] ys = refl
distinct_middle x (z ∷ xs) ys = grind (arith, nat_tests, distinct_middle x xs ys, has_append z xs (x ∷ ys), has_append z xs ys)

distinct_turned : (xs ys : List ℕ) → is_distinct (xs ++ ys) ≡ is_distinct (ys ++ xs)
distinct_turned [] ys = ap is_distinct (sym (append-nil ys))
distinct_turned (x ∷ xs) ys = grind (arith, distinct_turned xs ys, distinct_middle x ys xs, has_append x xs ys, has_append x ys xs)

has_not : (t u : ℕ) (us : List ℕ) → has t (u ∷ us) ≡ false → (u ≢ t) × (has t us ≡ false)
has_not t u us e = (grind (arith, nat_tests), grind arith)

has_splits : (t : ℕ) (ss : List ℕ) → has t ss ≡ true → (xs : List ℕ) × (ys : List ℕ) × (ss ≡ xs ++ t ∷ ys)
has_splits t [] e = absurd (true≢false (sym e))
has_splits t (u ∷ us) e = ⊎_elim (λ same. ([], us, ap (λ x. x ∷ us) same))
    (λ off. let h = has_splits t us (later off) in (u ∷ h.0, h.1, ap (λ xs. u ∷ xs) h.2)) (same_or_not u t)
  where
    later : u ≢ t → has t us ≡ true
    later off = grind (arith, nat_tests)

itself : (s : ℕ) → (s == s) ≡ true
itself s = grind (arith, nat_tests)

leads_append : (R : ℕ → ℕ → Bool) (s u e : ℕ) (xs ys : List ℕ) → leads R s (xs ++ u ∷ ys) e ≡ (leads R s xs u && leads R u ys e)
leads_append R s u e [] ys = refl
leads_append R s u e (x ∷ xs) ys = grind (arith, leads_append R x u e xs ys)

-- the test without its first part, which is true
at_head : (R : ℕ → ℕ → Bool) (s : ℕ) (us : List ℕ) → is_cycle R s (s ∷ us) ≡ (is_distinct (s ∷ us) && leads R s us s)
at_head R s us = ap (λ b. b && (is_distinct (s ∷ us) && leads R s us s)) (itself s)

cycle_turned : (R : ℕ → ℕ → Bool) (s u : ℕ) (xs ys : List ℕ) → is_cycle R s (s ∷ (xs ++ u ∷ ys)) ≡ is_cycle R u (u ∷ (ys ++ s ∷ xs))
cycle_turned R s u xs ys = at_head R s (xs ++ u ∷ ys) ∙ ap₂ (λ (a b : Bool). a && b)
    (distinct_turned (s ∷ xs) (u ∷ ys))
    (leads_append R s u s xs ys ∙ and_turned (leads R s xs u) (leads R u ys s) ∙ sym (leads_append R u s u ys xs))
    ∙ sym (at_head R u (ys ++ s ∷ xs))

-- a cycle through s begins with it
begins : (R : ℕ → ℕ → Bool) (s x : ℕ) (us : List ℕ) → s ≢ x → is_cycle R s (x ∷ us) ≡ false
begins R s x us off = grind (arith, nat_tests, off)

same_leads : (R Q : ℕ → ℕ → Bool) (t : ℕ) → ((u v : ℕ) → u ≢ t → v ≢ t → Q u v ≡ R u v)
    → (s : ℕ) (ss : List ℕ) (e : ℕ) → s ≢ t → has t ss ≡ false → e ≢ t → leads Q s ss e ≡ leads R s ss e
same_leads R Q t same s [] e off none out = same s e off out
same_leads R Q t same s (u ∷ us) e off none out =
    let one = has_not t u us none in
    ap₂ (λ (a b : Bool). a && b) (same s u off one.0) (same_leads R Q t same u us e one.0 one.1 out)

-- where all but t wait as before and no cycle goes through t, there is none that wasn't there
pub no_new_cycle : (R Q : ℕ → ℕ → Bool) (t : ℕ) → HasNone R → ((u v : ℕ) → u ≢ t → v ≢ t → Q u v ≡ R u v) → HasNoneThrough Q t → HasNone Q
no_new_cycle R Q t none same through s [] = refl
no_new_cycle R Q t none same through s (x ∷ us) = ⊎_elim (λ h. at_s x h) (λ off. begins Q s x us off) (same_or_not s x)
  where
    go : s ≢ t → (b : Bool) → has t us ≡ b → is_cycle Q s (s ∷ us) ≡ false
    go off false e = at_head Q s us ∙ ap (λ (b : Bool). is_distinct (s ∷ us) && b) (same_leads R Q t same s us s off e off) ∙ sym (at_head R s us) ∙ none s (s ∷ us)
    go off true e = let h = has_splits t us e in
        ap (λ (xs : List ℕ). is_cycle Q s (s ∷ xs)) h.2 ∙ cycle_turned Q s t h.0 h.1 ∙ through (t ∷ (h.1 ++ s ∷ h.0))

    at_s : (y : ℕ) → s ≡ y → is_cycle Q s (y ∷ us) ≡ false
    at_s y h = subst (λ z. is_cycle Q s (z ∷ us) ≡ false) h (⊎_elim (λ is. subst (λ z. is_cycle Q z (z ∷ us) ≡ false) (sym is) (through (t ∷ us))) (λ off. go off (has t us) refl) (same_or_not s t))

-- who waits for nobody is in no cycle
pub idle : (R : ℕ → ℕ → Bool) (s : ℕ) → ((u : ℕ) → R s u ≡ false) → HasNoneThrough R s
idle R s free [] = refl
idle R s free (x ∷ us) = ⊎_elim (λ h. subst (λ z. is_cycle R s (z ∷ us) ≡ false) h (at_head R s us ∙ ap (λ (b : Bool). is_distinct (s ∷ us) && b) (nowhere us) ∙ and_false (is_distinct (s ∷ us)))) (λ off. begins R s x us off) (same_or_not s x)
  where
    and_false : (a : Bool) → (a && false) ≡ false
    and_false true = refl
    and_false false = refl

    nowhere : (us : List ℕ) → leads R s us s ≡ false
    nowhere [] = free s
    nowhere (u ∷ us) = ap (λ (b : Bool). b && leads R u us s) (free u)
