-- The owners that bar a mode, out of a row in the order of its owners.
use Rattle.std.proofs.Common.{◌≡◌, ℕ, Bool, true, false, cond, not, ◌&&◌, ◌||◌, List, [], ◌∷◌, Some, ◌==◌, refl, sym, ap, subst, ◌∙◌, arith}
use Rattle.std.proofs.lemmas.Bool.Decides.{nat_tests}
use Rattle.std.specs.declared.cmp.Ordering.TheVariants.{Less}
use Rattle.std.specs.List.{AllByRecursion, list_any}
use Rattle.std.specs.List.Sorted.{IsStrictlySortedBy}
use Rattle.std.specs.Map.{lookup, keys_of}
use Rattle.std.specs.BTreeMap.{is_at}
use Rattle.std.specs.Ordering.{nat_cmp}
use Rattle.std.specs.Cmp.{unsigned_ties}
use Rattle.lock_modes.specs.declared.ask.Ask.{Ask}
use Rattle.lock_table.specs.Asks.{is_barred_by}
use Rattle.lock_table.specs.inside.Barring.{is_barring, barring}

after : (x owner : ℕ) (a : Ask) (es : List (ℕ × Ask)) → AllByRecursion (λ y. nat_cmp x y ≡ Less) (keys_of es) → AllByRecursion (λ y. nat_cmp x y ≡ Less) (barring owner a es)
after x owner a [] all = all
after x owner a (e ∷ es) all = go (is_barring owner a e) (after x owner a es all.1)
  where
    go : (b : Bool) → AllByRecursion (λ y. nat_cmp x y ≡ Less) (barring owner a es) → AllByRecursion (λ y. nat_cmp x y ≡ Less) (cond b (e.0 ∷ barring owner a es) (barring owner a es))
    go true rest = (all.0, rest)
    go false rest = rest

pub rising : (owner : ℕ) (a : Ask) (es : List (ℕ × Ask)) → IsStrictlySortedBy nat_cmp (keys_of es) → IsStrictlySortedBy nat_cmp (barring owner a es)
unfolding IsStrictlySortedBy
rising owner a [] sorted = sorted
rising owner a (e ∷ es) sorted = go (is_barring owner a e) (rising owner a es sorted.1)
  where
    go : (b : Bool) → IsStrictlySortedBy nat_cmp (barring owner a es) → IsStrictlySortedBy nat_cmp (cond b (e.0 ∷ barring owner a es) (barring owner a es))
    go true rest = (after e.0 owner a es sorted.0, rest)
    go false rest = rest

different : (q y : ℕ) → nat_cmp q y ≡ Less → (y == q) ≡ false
different q y e = grind (arith, nat_tests, unsigned_ties q y, e)

absent : (q : ℕ) (ks : List ℕ) → AllByRecursion (λ y. nat_cmp q y ≡ Less) ks → list_any (λ h. h == q) ks ≡ false
absent q [] all = refl
absent q (k ∷ ks) all = ap (λ b. b || list_any (λ h. h == q) ks) (different q k all.0) ∙ absent q ks all.1

and_false : (b : Bool) → (b && false) ≡ false
and_false true = refl
and_false false = refl

-- the first owner of a row, at its own number
here : (owner q : ℕ) (a : Ask) (e : ℕ × Ask) (rest : List ℕ) → (e.0 == q) ≡ true → list_any (λ h. h == q) rest ≡ false
    → list_any (λ h. h == q) (cond (is_barring owner a e) (e.0 ∷ rest) rest) ≡ (not (q == owner) && is_barred_by a (Some e.1))
here owner q a e rest same none = go (is_barring owner a e) refl
  where
    is : e.0 ≡ q
    is = grind (arith, nat_tests, same)

    at : is_barring owner a e ≡ (not (q == owner) && is_barred_by a (Some e.1))
    at = ap (λ x. not (x == owner) && is_barred_by a (Some e.1)) is

    go : (b : Bool) → is_barring owner a e ≡ b → list_any (λ h. h == q) (cond (is_barring owner a e) (e.0 ∷ rest) rest) ≡ (not (q == owner) && is_barred_by a (Some e.1))
    go true on = ap (λ b. list_any (λ h. h == q) (cond b (e.0 ∷ rest) rest)) on ∙ ap (λ b. b || list_any (λ h. h == q) rest) same ∙ sym on ∙ at
    go false off = ap (λ b. list_any (λ h. h == q) (cond b (e.0 ∷ rest) rest)) off ∙ none ∙ sym off ∙ at

-- at another number
there : (owner q : ℕ) (a : Ask) (e : ℕ × Ask) (rest : List ℕ) → (e.0 == q) ≡ false
    → list_any (λ h. h == q) (cond (is_barring owner a e) (e.0 ∷ rest) rest) ≡ list_any (λ h. h == q) rest
there owner q a e rest apart = go (is_barring owner a e)
  where
    go : (b : Bool) → list_any (λ h. h == q) (cond b (e.0 ∷ rest) rest) ≡ list_any (λ h. h == q) rest
    go true = ap (λ b. b || list_any (λ h. h == q) rest) apart
    go false = refl

at_key : (q k : ℕ) → is_at (nat_cmp q) k ≡ (k == q)
at_key q k = grind (arith, nat_tests, unsigned_ties q k)

pub each : (owner : ℕ) (a : Ask) (es : List (ℕ × Ask)) (q : ℕ) → IsStrictlySortedBy nat_cmp (keys_of es)
    → list_any (λ h. h == q) (barring owner a es) ≡ (not (q == owner) && is_barred_by a (lookup (is_at (nat_cmp q)) es))
unfolding IsStrictlySortedBy
each owner a [] q sorted = sym (and_false (not (q == owner)))
each owner a (e ∷ es) q sorted = go (e.0 == q) refl (each owner a es q sorted.1)
  where
    go : (s : Bool) → (e.0 == q) ≡ s → list_any (λ h. h == q) (barring owner a es) ≡ (not (q == owner) && is_barred_by a (lookup (is_at (nat_cmp q)) es))
        → list_any (λ h. h == q) (barring owner a (e ∷ es)) ≡ (not (q == owner) && is_barred_by a (lookup (is_at (nat_cmp q)) (e ∷ es)))
    go true same rest =
        here owner q a e (barring owner a es) same (absent q (barring owner a es) (after q owner a es (subst (λ x. AllByRecursion (λ y. nat_cmp x y ≡ Less) (keys_of es)) (grind (arith, nat_tests, same)) sorted.0)))
        ∙ sym (ap (λ b. not (q == owner) && is_barred_by a (cond b (Some e.1) (lookup (is_at (nat_cmp q)) es))) (at_key q e.0 ∙ same))
    go false apart rest =
        there owner q a e (barring owner a es) apart ∙ rest
        ∙ sym (ap (λ b. not (q == owner) && is_barred_by a (cond b (Some e.1) (lookup (is_at (nat_cmp q)) es))) (at_key q e.0 ∙ apart))
