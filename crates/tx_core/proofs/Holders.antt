-- The machine's holders, out of the live transactions by rising sessions.
use Rattle.std.proofs.Common.{◌≡◌, ◌≢◌, ℕ, Bool, true, false, not, ◌&&◌, ◌||◌, List, [], ◌∷◌, ◌++◌, Some, None, ◌==◌, nat_lt, refl, sym, ap, ap₂, subst, ◌∙◌, arith, if◌then◌else◌}
use Rattle.std.proofs.lemmas.Bool.Decides.{nat_tests}
use Rattle.std.specs.declared.cmp.Ordering.TheVariants.{Less, Equal}
use Rattle.std.specs.List.{AllByRecursion, list_any}
use Rattle.std.specs.List.Sorted.{IsStrictlySortedBy}
use Rattle.std.specs.Ordering.{nat_cmp}
use Rattle.std.specs.Cmp.{unsigned_ties, nat_cmp_is, nat_cmp_total, tied_itself}
use Rattle.lock_resources.specs.declared.request.Request.{Request}
use Rattle.tree_cells.specs.Clashes.{bars}
use Rattle.wait_cycles.specs.Walks.{Rises}
use Rattle.call_contract.specs.States.{Live, of_session, others, sessions}
use Rattle.call_contract.specs.Attempts.{holders, is_barred, free, barred}
use Rattle.tx_core.specs.Holding.{grants_of}

different : (q y : ℕ) → nat_cmp q y ≡ Less → (y == q) ≡ false
different q y e = grind (arith, nat_tests, unsigned_ties q y, e)

absent : (q : ℕ) (ks : List ℕ) → AllByRecursion (λ y. nat_cmp q y ≡ Less) ks → list_any (λ h. h == q) ks ≡ false
absent q [] all = refl
absent q (k ∷ ks) all = ap (λ b. b || list_any (λ h. h == q) ks) (different q k all.0) ∙ absent q ks all.1

and_false : (b : Bool) → (b && false) ≡ false
and_false true = refl
and_false false = refl

less : (x y : ℕ) → nat_lt x y ≡ true → nat_cmp x y ≡ Less
less x y e = sym (nat_cmp_is x y Less (grind (arith, nat_tests, e)))

all_less : (x : ℕ) (ys : List ℕ) → AllByRecursion (λ d. nat_lt x d ≡ true) ys → AllByRecursion (λ y. nat_cmp x y ≡ Less) ys
all_less x [] all = tt
all_less x (y ∷ ys) all = (less x y all.0, all_less x ys all.1)

-- numbers that rise are sorted
pub rises_sorted : (xs : List ℕ) → Rises xs → IsStrictlySortedBy nat_cmp xs
unfolding IsStrictlySortedBy
rises_sorted [] rise = tt
rises_sorted (x ∷ xs) rise = (all_less x xs rise.0, rises_sorted xs rise.1)

apart : {A : Type 0} → false ≡ true → A
apart e = grind (arith, e)

-- a member of a list whose members all lie above q lies above q
lies_above : (q o : ℕ) (ks : List ℕ) → AllByRecursion (λ y. nat_cmp q y ≡ Less) ks → list_any (λ h. h == o) ks ≡ true → nat_cmp q o ≡ Less
lies_above q o [] all e = apart e
lies_above q o (k ∷ ks) all e = go (k == o) refl (lies_above q o ks all.1)
  where
    go : (b : Bool) → (k == o) ≡ b → (list_any (λ h. h == o) ks ≡ true → nat_cmp q o ≡ Less) → nat_cmp q o ≡ Less
    go true f rest = subst (λ x. nat_cmp q x ≡ Less) (grind (arith, nat_tests, f)) all.0
    go false f rest = rest (sym (ap (λ b. b || list_any (λ h. h == o) ks) f) ∙ e)

same_number : (x : ℕ) → (x == x) ≡ true
same_number x = grind (arith, nat_tests)

not_both_ways : {A : Type 0} (x y : ℕ) → nat_cmp x y ≡ Less → nat_cmp y x ≡ Less → A
not_both_ways x y e f = clash_of (sym (tied_itself nat_cmp_total x) ∙ nat_cmp_total.trans x y x e f)
  where
    clash_of : {A : Type 0} → Equal ≡ Less → A
    clash_of e = grind (arith, e)

-- two rising lists with the same members are the same list
pub same_rising : (xs ys : List ℕ) → IsStrictlySortedBy nat_cmp xs → IsStrictlySortedBy nat_cmp ys → ((o : ℕ) → list_any (λ h. h == o) xs ≡ list_any (λ h. h == o) ys) → xs ≡ ys
unfolding IsStrictlySortedBy
same_rising [] [] s t same = refl
same_rising [] (y ∷ ys) s t same = apart (same y ∙ ap (λ b. b || list_any (λ h. h == y) ys) (same_number y))
same_rising (x ∷ xs) [] s t same = apart (sym (same x) ∙ ap (λ b. b || list_any (λ h. h == x) xs) (same_number x))
same_rising (x ∷ xs) (y ∷ ys) s t same = ap₂ (λ (a : ℕ) (bs : List ℕ). a ∷ bs) heads (same_rising xs ys s.1 t.1 tails)
  where
    x_in : list_any (λ h. h == x) (y ∷ ys) ≡ true
    x_in = sym (same x) ∙ ap (λ b. b || list_any (λ h. h == x) xs) (same_number x)

    y_in : list_any (λ h. h == y) (x ∷ xs) ≡ true
    y_in = same y ∙ ap (λ b. b || list_any (λ h. h == y) ys) (same_number y)

    go : (b : Bool) → (y == x) ≡ b → x ≡ y
    go true e = grind (arith, nat_tests, e)
    go false e =
        let one : nat_cmp y x ≡ Less = lies_above y x ys t.0 (sym (ap (λ b. b || list_any (λ h. h == x) ys) e) ∙ x_in) in
        let turned : (x == y) ≡ false = grind (arith, nat_tests, e) in
        let other : nat_cmp x y ≡ Less = lies_above x y xs s.0 (sym (ap (λ b. b || list_any (λ h. h == y) xs) turned) ∙ y_in) in
        not_both_ways x y other one

    heads : x ≡ y
    heads = go (y == x) refl

    tails : (o : ℕ) → list_any (λ h. h == o) xs ≡ list_any (λ h. h == o) ys
    tails o = step (x == o) refl
      where
        step : (b : Bool) → (x == o) ≡ b → list_any (λ h. h == o) xs ≡ list_any (λ h. h == o) ys
        step true e =
            let at : x ≡ o = grind (arith, nat_tests, e) in
            absent o xs (subst (λ z. AllByRecursion (λ y. nat_cmp z y ≡ Less) xs) at s.0) ∙ sym (absent o ys (subst (λ z. AllByRecursion (λ y. nat_cmp z y ≡ Less) ys) (sym heads ∙ at) t.0))
        step false e =
            sym (ap (λ b. b || list_any (λ h. h == o) xs) e) ∙ same o ∙ ap (λ b. b || list_any (λ h. h == o) ys) (ap (λ z. z == o) (sym heads) ∙ e)

module _ {C : Type 0} where
  pub none_below : (x : ℕ) (ts : List (Live C)) → AllByRecursion (λ d. nat_lt x d ≡ true) (sessions ts) → of_session x ts ≡ None
  none_below x [] all = refl
  none_below x (t ∷ ts) all =
      let other : (t.session == x) ≡ false = grind (arith, nat_tests, all.0) in
      ap (λ b. if b then Some t else of_session x ts) other ∙ none_below x ts all.1

  -- who holds the request up is who bars it by its grants
  pub holders_each : (q : Request) (s : ℕ) (ts : List (Live C)) (o : ℕ) → Rises (sessions ts) → list_any (λ h. h == o) (holders q (others s ts)) ≡ (not (o == s) && bars (grants_of (of_session o ts)) q)
  holders_each q s [] o rise = sym (and_false (not (o == s)))
  holders_each q s (t ∷ ts) o rise = go (t.session == s) refl (t.session == o) refl (bars t.grants q) refl (holders_each q s ts o rise.1)
    where
      rest : List ℕ
      rest = holders q (others s ts)

      go : (a : Bool) → (t.session == s) ≡ a → (b : Bool) → (t.session == o) ≡ b → (c : Bool) → bars t.grants q ≡ c
          → list_any (λ h. h == o) rest ≡ (not (o == s) && bars (grants_of (of_session o ts)) q)
          → list_any (λ h. h == o) (holders q (if a then others s ts else t ∷ others s ts)) ≡ (not (o == s) && bars (grants_of (if b then Some t else of_session o ts)) q)
      go true e true f c g ih =
          let is : (o == s) ≡ true = grind (arith, nat_tests, e, f) in
          ih ∙ ap (λ b. not b && bars (grants_of (of_session o ts)) q) is ∙ sym (ap (λ b. not b && bars t.grants q) is)
      go true e false f c g ih = ih
      go false e true f true g ih =
          let isnt : (o == s) ≡ false = grind (arith, nat_tests, e, f) in
          ap (λ b. list_any (λ h. h == o) (if b then t.session ∷ rest else rest)) g ∙ ap (λ b. b || list_any (λ h. h == o) rest) f ∙ sym (ap₂ (λ (a b : Bool). not a && b) isnt g)
      go false e true f false g ih =
          let gone : of_session o ts ≡ None = none_below o ts (subst (λ x. AllByRecursion (λ d. nat_lt x d ≡ true) (sessions ts)) (grind (arith, nat_tests, f)) rise.0) in
          ap (λ b. list_any (λ h. h == o) (if b then t.session ∷ rest else rest)) g ∙ ih
          ∙ ap (λ x. not (o == s) && bars (grants_of x) q) gone ∙ sym (ap (λ b. not (o == s) && b) g)
      go false e false f true g ih = ap (λ b. list_any (λ h. h == o) (if b then t.session ∷ rest else rest)) g ∙ ap (λ b. b || list_any (λ h. h == o) rest) f ∙ ih
      go false e false f false g ih = ap (λ b. list_any (λ h. h == o) (if b then t.session ∷ rest else rest)) g ∙ ih

  pub barred_none : (q : Request) (ts : List (Live C)) → holders q ts ≡ [] → is_barred q ts ≡ false
  barred_none q [] e = refl
  barred_none q (t ∷ ts) e = go (bars t.grants q) refl (barred_none q ts)
    where
      go : (b : Bool) → bars t.grants q ≡ b → (holders q ts ≡ [] → is_barred q ts ≡ false) → is_barred q (t ∷ ts) ≡ false
      go true f rest = filled (sym (ap (λ b. if b then t.session ∷ holders q ts else holders q ts) f) ∙ e)
        where
          filled : {A : Type 0} {xs : List ℕ} {x : ℕ} → x ∷ xs ≡ [] → A
          filled e = grind (arith, e)
      go false f rest = ap (λ b. b || is_barred q ts) f ∙ rest (sym (ap (λ b. if b then t.session ∷ holders q ts else holders q ts) f) ∙ e)

  pub barred_some : (q : Request) (ts : List (Live C)) → holders q ts ≢ [] → is_barred q ts ≡ true
  barred_some q [] some = absurd (some refl)
  barred_some q (t ∷ ts) some = go (bars t.grants q) refl (barred_some q ts)
    where
      go : (b : Bool) → bars t.grants q ≡ b → (holders q ts ≢ [] → is_barred q ts ≡ true) → is_barred q (t ∷ ts) ≡ true
      go true f rest = ap (λ b. b || is_barred q ts) f
      go false f rest = ap (λ b. b || is_barred q ts) f ∙ rest (λ e. some (ap (λ b. if b then t.session ∷ holders q ts else holders q ts) f ∙ e))

  -- the machine grants exactly those
  pub free_all : (qs : List Request) (ts : List (Live C)) → AllByRecursion (λ q. is_barred q ts ≡ false) qs → (free qs ts ≡ qs) × (barred qs ts ≡ None)
  free_all [] ts all = (refl, refl)
  free_all (q ∷ qs) ts all =
      let rest = free_all qs ts all.1 in
      (ap (λ b. if b then [] else q ∷ free qs ts) all.0 ∙ ap (λ xs. q ∷ xs) rest.0, ap (λ b. if b then Some q else barred qs ts) all.0 ∙ rest.1)

  pub free_front : (ps : List Request) (q : Request) (rest : List Request) (ts : List (Live C)) → AllByRecursion (λ p. is_barred p ts ≡ false) ps → is_barred q ts ≡ true
      → (free (ps ++ q ∷ rest) ts ≡ ps) × (barred (ps ++ q ∷ rest) ts ≡ Some q)
  free_front [] q rest ts all is = (ap (λ b. if b then [] else q ∷ free rest ts) is, ap (λ b. if b then Some q else barred rest ts) is)
  free_front (p ∷ ps) q rest ts all is =
      let more = free_front ps q rest ts all.1 is in
      (ap (λ b. if b then [] else p ∷ free (ps ++ q ∷ rest) ts) all.0 ∙ ap (λ xs. p ∷ xs) more.0, ap (λ b. if b then Some p else barred (ps ++ q ∷ rest) ts) all.0 ∙ more.1)
