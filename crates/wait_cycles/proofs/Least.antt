-- A walk that is found leads there, none is found only where there is none, and the one found is the least.
use Rattle.std.proofs.Common.{◌≡◌, ℕ, zero, suc, Bool, true, false, ◌&&◌, ◌||◌, List, [], ◌∷◌, length, Option, Some, None, nat_lt, ◌==◌, refl, sym, ap, subst, ◌∙◌, arith, if◌then◌else◌}
use Rattle.std.proofs.lemmas.Bool.Decides.{nat_tests}
use Rattle.std.specs.List.{AllByRecursion}
use Rattle.wait_cycles.specs.Walks.{leads, has, all_in, is_less, first_of, first_walk, walk, Rises}

apart : {A : Type 0} → false ≡ true → A
apart e = grind (arith, e)

none_some : {A : Type 0} {X : Type 0} {x : X} → None ≡ Some x → A
none_some e = grind (arith, e)

inside : {X : Type 0} {x y : X} → Some x ≡ Some y → x ≡ y
inside e = cc

and_left : (a b : Bool) → (a && b) ≡ true → a ≡ true
and_left true b e = refl
and_left false b e = e

and_right : (a b : Bool) → (a && b) ≡ true → b ≡ true
and_right true b e = e
and_right false b e = apart e

or_case : (a b : Bool) → (a || b) ≡ true → a ≡ false → b ≡ true
or_case true b e f = apart (sym f)
or_case false b e f = e

or_right : (a b : Bool) → b ≡ true → (a || b) ≡ true
or_right true b e = refl
or_right false b e = e

and_both : (a b : Bool) → a ≡ true → b ≡ true → (a && b) ≡ true
and_both true b e f = f
and_both false b e f = e

-- no walk begins by any of these
none_first : (f : ℕ → Option (List ℕ)) (us : List ℕ) (u : ℕ) → first_walk f us ≡ None → has u us ≡ true → f u ≡ None
none_first f [] u none e = apart e
none_first f (x ∷ xs) u none e = go (f x) refl (x == u) refl (none_first f xs u)
  where
    go : (o : Option (List ℕ)) → f x ≡ o → (b : Bool) → (x == u) ≡ b → (first_walk f xs ≡ None → has u xs ≡ true → f u ≡ None) → f u ≡ None
    go (Some us) is b same rest = none_some (sym (sym (ap (λ o. first_of x o (first_walk f xs)) is) ∙ none))
    go None is true same rest = ap f (sym (subst (λ y. x ≡ y) (grind (arith, nat_tests, same)) refl)) ∙ is
    go None is false same rest = rest (sym (ap (λ o. first_of x o (first_walk f xs)) is) ∙ none) (or_case (x == u) (has u xs) e same)

pub walk_none : (R : ℕ → ℕ → Bool) (cs : List ℕ) (k s e : ℕ) → walk R cs k s e ≡ None → (us : List ℕ) → length us ≡ k → all_in us cs ≡ true → leads R s us e ≡ false
walk_none R cs zero s e none [] size all = go (R s e) refl
  where
    go : (b : Bool) → R s e ≡ b → R s e ≡ false
    go false is = is
    go true is = none_some (sym (sym (ap (λ b. if b then Some [] else None) is) ∙ none))
walk_none R cs zero s e none (u ∷ us) size all = absurd_at (omega (arith, size))
  where
    absurd_at : {A : Type 0} → ⊥ → A
    absurd_at x = absurd x
walk_none R cs (suc k) s e none [] size all = absurd_at (omega (arith, size))
  where
    absurd_at : {A : Type 0} → ⊥ → A
    absurd_at x = absurd x
walk_none R cs (suc k) s e none (u ∷ us) size all = go (R s u) refl (λ gone. walk_none R cs k u e gone us (omega (arith, size)) (and_right (has u cs) (all_in us cs) all))
  where
    here : (if R s u then walk R cs k u e else None) ≡ None
    here = none_first (λ v. if R s v then walk R cs k v e else None) cs u none (and_left (has u cs) (all_in us cs) all)

    go : (b : Bool) → R s u ≡ b → (walk R cs k u e ≡ None → leads R u us e ≡ false) → (R s u && leads R u us e) ≡ false
    go false is rest = ap (λ b. b && leads R u us e) is
    go true is rest = ap (λ b. b && leads R u us e) is ∙ rest (sym (ap (λ b. if b then walk R cs k u e else None) is) ∙ here)

-- the first by which one goes on
pub record GoesBy (f : ℕ → Option (List ℕ)) (us vs : List ℕ) : Type 0 where
  pub head : ℕ
  pub tail : List ℕ
  pub is : vs ≡ head ∷ tail
  pub on : f head ≡ Some tail
  pub inside : has head us ≡ true

some_first : (f : ℕ → Option (List ℕ)) (us vs : List ℕ) → first_walk f us ≡ Some vs → GoesBy f us vs
some_first f [] vs e = none_some e
some_first f (x ∷ xs) vs e = go (f x) refl (some_first f xs vs)
  where
    go : (o : Option (List ℕ)) → f x ≡ o → (first_walk f xs ≡ Some vs → GoesBy f xs vs) → GoesBy f (x ∷ xs) vs
    go (Some us) is rest = record { head = x; tail = us; is = inside (sym e ∙ ap (λ o. first_of x o (first_walk f xs)) is); on = is; inside = grind (arith, nat_tests) }
    go None is rest =
        let more = rest (sym (ap (λ o. first_of x o (first_walk f xs)) is) ∙ e) in
        record { head = more.head; tail = more.tail; is = more.is; on = more.on; inside = or_right (x == more.head) (has more.head xs) more.inside }

pub walk_some : (R : ℕ → ℕ → Bool) (cs : List ℕ) (k s e : ℕ) (vs : List ℕ) → walk R cs k s e ≡ Some vs → (leads R s vs e ≡ true) × (length vs ≡ k)
walk_some R cs zero s e vs is = go (R s e) refl
  where
    go : (b : Bool) → R s e ≡ b → (leads R s vs e ≡ true) × (length vs ≡ zero)
    go true on =
        let nil : [] ≡ vs = inside (sym (ap (λ b. if b then Some [] else None) on) ∙ is) in
        (subst (λ us. leads R s us e ≡ true) nil on, ap length (sym nil))
    go false off = none_some (sym (ap (λ b. if b then Some [] else None) off) ∙ is)
walk_some R cs (suc k) s e vs is =
    let by = some_first (λ u. if R s u then walk R cs k u e else None) cs vs is in
    go by.head by.tail by.is (R s by.head) refl by.on (λ on. walk_some R cs k by.head e by.tail on)
  where
    go : (u : ℕ) (us : List ℕ) → vs ≡ u ∷ us → (b : Bool) → R s u ≡ b → (if R s u then walk R cs k u e else None) ≡ Some us
        → (walk R cs k u e ≡ Some us → (leads R u us e ≡ true) × (length us ≡ k)) → (leads R s vs e ≡ true) × (length vs ≡ suc k)
    go u us at true on one rest =
        let more = rest (sym (ap (λ b. if b then walk R cs k u e else None) on) ∙ one) in (
          subst (λ xs. leads R s xs e ≡ true) (sym at) (ap (λ b. b && leads R u us e) on ∙ more.0),
          ap length at ∙ ap suc more.1,
        )
    go u us at false off one rest = none_some (sym (ap (λ b. if b then walk R cs k u e else None) off) ∙ one)

-- what is found passes these numbers alone
pub walk_in : (R : ℕ → ℕ → Bool) (cs : List ℕ) (k s e : ℕ) (vs : List ℕ) → walk R cs k s e ≡ Some vs → all_in vs cs ≡ true
walk_in R cs zero s e vs is = go (R s e) refl
  where
    go : (b : Bool) → R s e ≡ b → all_in vs cs ≡ true
    go true on = ap (λ us. all_in us cs) (sym (inside (sym (ap (λ b. if b then Some [] else None) on) ∙ is)))
    go false off = none_some (sym (ap (λ b. if b then Some [] else None) off) ∙ is)
walk_in R cs (suc k) s e vs is =
    let by = some_first (λ u. if R s u then walk R cs k u e else None) cs vs is in
    go by.head by.tail by.is (R s by.head) refl by.on by.inside (λ on. walk_in R cs k by.head e by.tail on)
  where
    go : (u : ℕ) (us : List ℕ) → vs ≡ u ∷ us → (b : Bool) → R s u ≡ b → (if R s u then walk R cs k u e else None) ≡ Some us
        → has u cs ≡ true → (walk R cs k u e ≡ Some us → all_in us cs ≡ true) → all_in vs cs ≡ true
    go u us at true on one here rest = ap (λ xs. all_in xs cs) at ∙ and_both (has u cs) (all_in us cs) here (rest (sym (ap (λ b. if b then walk R cs k u e else None) on) ∙ one))
    go u us at false off one here rest = none_some (sym (ap (λ b. if b then walk R cs k u e else None) off) ∙ one)

above : (c d : ℕ) (cs : List ℕ) → AllByRecursion (λ x. nat_lt c x ≡ true) cs → has d cs ≡ true → nat_lt c d ≡ true
above c d [] all e = apart e
above c d (x ∷ xs) all e = go (x == d) refl (above c d xs all.1)
  where
    go : (b : Bool) → (x == d) ≡ b → (has d xs ≡ true → nat_lt c d ≡ true) → nat_lt c d ≡ true
    go true same rest = subst (λ y. nat_lt c y ≡ true) (grind (arith, nat_tests, same)) all.0
    go false same rest = rest (or_case (x == d) (has d xs) e same)

-- what goes on by one of these isn't before the first that does
least_first : (f : ℕ → Option (List ℕ)) (cs : List ℕ) (u : ℕ) (us vs : List ℕ) (w : ℕ) (ws : List ℕ) → Rises cs → first_walk f cs ≡ Some (w ∷ ws) → has u cs ≡ true
    → (f u ≡ None → ⊥) → ((xs : List ℕ) → f u ≡ Some xs → is_less us xs ≡ false) → is_less (u ∷ us) (w ∷ ws) ≡ false
least_first f [] u us vs w ws rise is e some less = apart e
least_first f (c ∷ cs) u us vs w ws rise is e some less = go (f c) refl (c == u) refl (least_first f cs u us vs w ws rise.1)
  where
    heads : (x y : ℕ) (xs ys : List ℕ) → Some (x ∷ xs) ≡ Some (y ∷ ys) → (x ≡ y) × (xs ≡ ys)
    heads x y xs ys e = (cc, cc)

    go : (o : Option (List ℕ)) → f c ≡ o → (b : Bool) → (c == u) ≡ b
        → (first_walk f cs ≡ Some (w ∷ ws) → has u cs ≡ true → (f u ≡ None → ⊥) → ((xs : List ℕ) → f u ≡ Some xs → is_less us xs ≡ false) → is_less (u ∷ us) (w ∷ ws) ≡ false)
        → is_less (u ∷ us) (w ∷ ws) ≡ false
    go None on true same rest = absurd (some (ap f (sym (the_same same)) ∙ on))
      where
        the_same : (c == u) ≡ true → c ≡ u
        the_same e = grind (arith, nat_tests, e)
    go None on false same rest = rest (sym (ap (λ o. first_of c o (first_walk f cs)) on) ∙ is) (or_case (c == u) (has u cs) e same) some less
    go (Some xs) on true same rest =
        let at = heads c w xs ws (sym (ap (λ o. first_of c o (first_walk f cs)) on) ∙ is) in
        let same_u : c ≡ u = grind (arith, nat_tests, same) in
        let tail : is_less us ws ≡ false = subst (λ y. is_less us y ≡ false) at.1 (less xs (ap f (sym same_u) ∙ on)) in
        equal_heads u w (sym same_u ∙ at.0) tail
      where
        equal_heads : (x y : ℕ) → x ≡ y → is_less us ws ≡ false → (nat_lt x y || ((x == y) && is_less us ws)) ≡ false
        equal_heads x y same rest = grind (arith, nat_tests, same, rest)
    go (Some xs) on false same rest =
        let at = heads c w xs ws (sym (ap (λ o. first_of c o (first_walk f cs)) on) ∙ is) in
        let later : nat_lt c u ≡ true = above c u cs rise.0 (or_case (c == u) (has u cs) e same) in
        greater u w (subst (λ y. nat_lt y u ≡ true) at.0 later)
      where
        greater : (x y : ℕ) → nat_lt y x ≡ true → (nat_lt x y || ((x == y) && is_less us ws)) ≡ false
        greater x y e = grind (arith, nat_tests, e)

-- of the walks of one length the least is found
pub walk_least : (R : ℕ → ℕ → Bool) (cs : List ℕ) → Rises cs → (k s e : ℕ) (vs us : List ℕ) → walk R cs k s e ≡ Some vs → length us ≡ k → all_in us cs ≡ true → leads R s us e ≡ true → is_less us vs ≡ false
walk_least R cs rise zero s e vs [] is size all leads_on = refl
walk_least R cs rise zero s e vs (u ∷ us) is size all leads_on = absurd_at (omega (arith, size))
  where
    absurd_at : {A : Type 0} → ⊥ → A
    absurd_at x = absurd x
walk_least R cs rise (suc k) s e vs [] is size all leads_on = refl
walk_least R cs rise (suc k) s e [] (u ∷ us) is size all leads_on = refl
walk_least R cs rise (suc k) s e (w ∷ ws) (u ∷ us) is size all leads_on =
    least_first (λ x. if R s x then walk R cs k x e else None) cs u us ws w ws rise is (and_left (has u cs) (all_in us cs) all)
    (λ gone. no_way (sym (walk_none R cs k u e (sym (step) ∙ gone) us (omega (arith, size)) (and_right (has u cs) (all_in us cs) all)) ∙ on))
    (λ xs got. walk_least R cs rise k u e xs us (sym step ∙ got) (omega (arith, size)) (and_right (has u cs) (all_in us cs) all) on)
  where
    go_on : R s u ≡ true
    go_on = and_left (R s u) (leads R u us e) leads_on

    on : leads R u us e ≡ true
    on = and_right (R s u) (leads R u us e) leads_on

    step : (if R s u then walk R cs k u e else None) ≡ walk R cs k u e
    step = ap (λ b. if b then walk R cs k u e else None) go_on

    no_way : false ≡ true → ⊥
    no_way e = apart e
