-- The search by layers finds what the walks say: a layer has the owners that a walk of its length leads from, and no shorter one.
use Rattle.std.proofs.Common.{◌≡◌, ℕ, zero, suc, ◌+◌, ◌<◌, Bool, true, false, ◌&&◌, ◌||◌, cond, List, [], ◌∷◌, length, Option, Some, None, is_some, ◌==◌, nat_lt, refl, sym, ap, ap₂, subst, ◌∙◌, arith, if◌then◌else◌}
use Rattle.std.proofs.lemmas.Bool.Decides.{nat_tests}
use Rattle.wait_graph.specs.declared.search.Waiter.{Waiter}
use Rattle.wait_graph.specs.declared.search.Walk.{Walk}
use Rattle.wait_cycles.specs.Walks.{leads, has, all_in, first_of, first_walk, walk}
use Rattle.wait_cycles.proofs.Least.{walk_none, walk_some, walk_in}
use Rattle.wait_cycles.proofs.Simple.{apart, and_both}
use Rattle.wait_graph.specs.inside.Search.{found, the_end, reached, reached_by, unreached, unreached_by, seek, seek_on, owners_of, AreOf}

none_some : {A : Type 0} {X : Type 0} {x : X} → None ≡ Some x → A
none_some e = grind (arith, e)

or_left : (a b : Bool) → (a || b) ≡ false → a ≡ false
or_left true b e = e
or_left false b e = refl

or_right : (a b : Bool) → (a || b) ≡ false → b ≡ false
or_right true b e = apart (sym e)
or_right false b e = e

or_last : (a b : Bool) → b ≡ true → (a || b) ≡ true
or_last true b e = refl
or_last false b e = e

same_self : (u : ℕ) → (u == u) ≡ true
same_self u = grind (arith, nat_tests)

-- a walk than which none found is shorter
pub record Shortest (R : ℕ → ℕ → Bool) (cs : List ℕ) (s : ℕ) (vs : List ℕ) : Type 0 where
  pub size : ℕ
  pub is : walk R cs (suc size) s s ≡ Some vs
  pub none : (j : ℕ) → j < size → walk R cs (suc j) s s ≡ None

-- the empty walk, or none
abbrev pub one_walk : Bool → Option (List ℕ)
one_walk b = if b then Some [] else None

-- two that agree on these numbers find the same first walk
first_same : (f g : ℕ → Option (List ℕ)) (us : List ℕ) → ((u : ℕ) → has u us ≡ true → f u ≡ g u) → first_walk f us ≡ first_walk g us
first_same f g [] same = refl
first_same f g (u ∷ us) same =
    ap₂ (first_of u) (same u (ap (λ b. b || has u us) (same_self u))) (first_same f g us (λ v e. same v (or_last (u == v) (has v us) e)))

module _ (R : ℕ → ℕ → Bool) (cs : List ℕ) (s : ℕ) where
  -- a walk of less than this length leads from the owner to s
  abbrev pub before : ℕ → ℕ → Bool
  before zero u = false
  before (suc k) u = before k u || is_some (walk R cs k u s)

  -- the walk of this length, where no shorter one leads there
  abbrev fresh : ℕ → ℕ → Option (List ℕ)
  fresh k u = cond (before k u) None (walk R cs k u s)

  -- the owners of this distance
  abbrev pub layer_at : ℕ → List ℕ → List Walk
  layer_at k [] = []
  layer_at k (u ∷ us) = reached_by u (fresh k u) (layer_at k us)

  -- the owners of no less than this distance
  abbrev pub left_at : ℕ → List Waiter → List Waiter
  left_at k [] = []
  left_at k (x ∷ xs) = cond (before k x.owner) (left_at k xs) (x ∷ left_at k xs)

  none_before : (k u j : ℕ) → before k u ≡ false → j < k → walk R cs j u s ≡ None
  none_before zero u j off less = absurd_at (omega (arith, less))
    where
      absurd_at : {A : Type 0} → ⊥ → A
      absurd_at x = absurd x
  none_before (suc k) u j off less = go (nat_lt j k) refl (none_before k u j)
    where
      nothing : (o : Option (List ℕ)) → is_some o ≡ false → o ≡ None
      nothing None e = refl
      nothing (Some us) e = apart (sym e)

      go : (b : Bool) → nat_lt j k ≡ b → (before k u ≡ false → j < k → walk R cs j u s ≡ None) → walk R cs j u s ≡ None
      go true e rest = rest (or_left (before k u) (is_some (walk R cs k u s)) off) (grind (arith, nat_tests, e))
      go false e rest =
          let same : j ≡ k = grind (arith, nat_tests, e, less) in
          subst (λ i. walk R cs i u s ≡ None) (sym same) (nothing (walk R cs k u s) (or_right (before k u) (is_some (walk R cs k u s)) off))

  -- who waits for one from whom a walk leads has one that is longer by one
  longer : (k b u : ℕ) (us : List ℕ) → R b u ≡ true → has u cs ≡ true → walk R cs k u s ≡ Some us → is_some (walk R cs (suc k) b s) ≡ true
  longer k b u us on here is = go (walk R cs (suc k) b s) refl
    where
      goes : (leads R u us s ≡ true) × (length us ≡ k)
      goes = walk_some R cs k u s us is

      go : (o : Option (List ℕ)) → walk R cs (suc k) b s ≡ o → is_some (walk R cs (suc k) b s) ≡ true
      go (Some vs) e = ap is_some e
      go None e =
          let none : (R b u && leads R u us s) ≡ false = walk_none R cs (suc k) b s e (u ∷ us) (ap suc goes.1) (and_both (has u cs) (all_in us cs) here (walk_in R cs k u s us is)) in
          apart (sym none ∙ and_both (R b u) (leads R u us s) on goes.0)

  farther : (k b u : ℕ) → R b u ≡ true → has u cs ≡ true → before k u ≡ true → before (suc k) b ≡ true
  farther zero b u on here e = apart e
  farther (suc k) b u on here e = go (before k u) refl (walk R cs k u s) refl (farther k b u on here)
    where
      first : before (suc k) b ≡ true → before (suc (suc k)) b ≡ true
      first e = ap (λ x. x || is_some (walk R cs (suc k) b s)) e

      go : (a : Bool) → before k u ≡ a → (o : Option (List ℕ)) → walk R cs k u s ≡ o → (before k u ≡ true → before (suc k) b ≡ true) → before (suc (suc k)) b ≡ true
      go true there o is rest = first (rest there)
      go false there (Some us) is rest = or_last (before (suc k) b) (is_some (walk R cs (suc k) b s)) (longer k b u us on here is)
      go false there None is rest = apart (sym (ap₂ (λ x y. x || is_some y) there is) ∙ e)

  -- whom no shorter walk leads from finds in the layer what the walks say
  found_is : (k b : ℕ) (bs : List ℕ) → ((v : ℕ) → has v bs ≡ R b v) → (us : List ℕ)
      → found bs (layer_at k us) ≡ first_walk (λ u. if R b u then fresh k u else None) us
  found_is k b bs each [] = refl
  found_is k b bs each (u ∷ us) = step (fresh k u) ∙ ap (first_of u (if R b u then fresh k u else None)) (found_is k b bs each us)
    where
      neither : (a : Bool) (rest : Option (List ℕ)) → rest ≡ first_of u (if a then None else None) rest
      neither true rest = refl
      neither false rest = refl

      one : (a : Bool) (r : List ℕ) (rest : Option (List ℕ)) → (if a then Some (u ∷ r) else rest) ≡ first_of u (if a then Some r else None) rest
      one true r rest = refl
      one false r rest = refl

      step : (o : Option (List ℕ)) → found bs (reached_by u o (layer_at k us)) ≡ first_of u (if R b u then o else None) (found bs (layer_at k us))
      step None = neither (R b u) (found bs (layer_at k us))
      step (Some r) = ap (λ a. if a then Some (u ∷ r) else found bs (layer_at k us)) (each u) ∙ one (R b u) r (found bs (layer_at k us))

  found_at : (k b : ℕ) (bs : List ℕ) → ((v : ℕ) → has v bs ≡ R b v) → before (suc k) b ≡ false → found bs (layer_at k cs) ≡ walk R cs (suc k) b s
  found_at k b bs each off =
      found_is k b bs each cs
      ∙ first_same (λ u. if R b u then fresh k u else None) (λ u. if R b u then walk R cs k u s else None) cs (λ u here. go u here (R b u) refl (before k u) refl)
    where
      go : (u : ℕ) → has u cs ≡ true → (a : Bool) → R b u ≡ a → (c : Bool) → before k u ≡ c → (if R b u then fresh k u else None) ≡ (if R b u then walk R cs k u s else None)
      go u here false on c is = ap (λ x. if x then fresh k u else None) on ∙ sym (ap (λ x. if x then walk R cs k u s else None) on)
      go u here true on true is = apart (sym off ∙ farther k b u on here is)
      go u here true on false is = ap (λ o. if R b u then o else None) (ap (λ x. cond x None (walk R cs k u s)) is)

  -- the first layer, and each behind one
  pub first_reached : (xs : List Waiter) → AreOf R xs → reached (the_end s ∷ []) xs ≡ layer_at zero (owners_of xs)
  first_reached [] all = refl
  first_reached (x ∷ xs) all = ap₂ (reached_by x.owner) (ap (λ b. if b then Some [] else None) (all.0 s)) (first_reached xs all.1)

  pub first_left : (xs : List Waiter) → AreOf R xs → unreached (the_end s ∷ []) xs ≡ left_at (suc zero) xs
  first_left [] all = refl
  first_left (x ∷ xs) all = ap₂ (unreached_by x) (ap (λ b. if b then Some [] else None) (all.0 s)) (first_left xs all.1) ∙ go (R x.owner s) (left_at (suc zero) xs)
    where
      go : (b : Bool) (rest : List Waiter) → unreached_by x (one_walk b) rest ≡ cond (is_some (one_walk b)) rest (x ∷ rest)
      go true rest = refl
      go false rest = refl

  next_reached : (k : ℕ) (xs : List Waiter) → AreOf R xs → reached (layer_at k cs) (left_at (suc k) xs) ≡ layer_at (suc k) (owners_of xs)
  next_reached k [] all = refl
  next_reached k (x ∷ xs) all = go (before (suc k) x.owner) refl (next_reached k xs all.1)
    where
      go : (b : Bool) → before (suc k) x.owner ≡ b → reached (layer_at k cs) (left_at (suc k) xs) ≡ layer_at (suc k) (owners_of xs)
          → reached (layer_at k cs) (cond (before (suc k) x.owner) (left_at (suc k) xs) (x ∷ left_at (suc k) xs)) ≡ reached_by x.owner (fresh (suc k) x.owner) (layer_at (suc k) (owners_of xs))
      go true on rest =
          ap (λ a. reached (layer_at k cs) (cond a (left_at (suc k) xs) (x ∷ left_at (suc k) xs))) on ∙ rest
          ∙ sym (ap (λ a. reached_by x.owner (cond a None (walk R cs (suc k) x.owner s)) (layer_at (suc k) (owners_of xs))) on)
      go false off rest =
          ap (λ a. reached (layer_at k cs) (cond a (left_at (suc k) xs) (x ∷ left_at (suc k) xs))) off
          ∙ ap₂ (reached_by x.owner) (found_at k x.owner x.holders all.0 off) rest
          ∙ sym (ap (λ a. reached_by x.owner (cond a None (walk R cs (suc k) x.owner s)) (layer_at (suc k) (owners_of xs))) off)

  next_left : (k : ℕ) (xs : List Waiter) → AreOf R xs → unreached (layer_at k cs) (left_at (suc k) xs) ≡ left_at (suc (suc k)) xs
  next_left k [] all = refl
  next_left k (x ∷ xs) all = go (before (suc k) x.owner) refl (next_left k xs all.1)
    where
      either : (o : Option (List ℕ)) (rest : List Waiter) → unreached_by x o rest ≡ cond (is_some o) rest (x ∷ rest)
      either None rest = refl
      either (Some us) rest = refl

      go : (b : Bool) → before (suc k) x.owner ≡ b → unreached (layer_at k cs) (left_at (suc k) xs) ≡ left_at (suc (suc k)) xs
          → unreached (layer_at k cs) (cond (before (suc k) x.owner) (left_at (suc k) xs) (x ∷ left_at (suc k) xs))
          ≡ cond (before (suc k) x.owner || is_some (walk R cs (suc k) x.owner s)) (left_at (suc (suc k)) xs) (x ∷ left_at (suc (suc k)) xs)
      go true on rest =
          ap (λ a. unreached (layer_at k cs) (cond a (left_at (suc k) xs) (x ∷ left_at (suc k) xs))) on ∙ rest
          ∙ sym (ap (λ a. cond (a || is_some (walk R cs (suc k) x.owner s)) (left_at (suc (suc k)) xs) (x ∷ left_at (suc (suc k)) xs)) on)
      go false off rest =
          ap (λ a. unreached (layer_at k cs) (cond a (left_at (suc k) xs) (x ∷ left_at (suc k) xs))) off
          ∙ ap₂ (unreached_by x) (found_at k x.owner x.holders all.0 off) rest
          ∙ either (walk R cs (suc k) x.owner s) (left_at (suc (suc k)) xs)
          ∙ sym (ap (λ a. cond (a || is_some (walk R cs (suc k) x.owner s)) (left_at (suc (suc k)) xs) (x ∷ left_at (suc (suc k)) xs)) off)

-- where nothing was found by this layer, none is of this length
none_more : (R : ℕ → ℕ → Bool) (cs : List ℕ) (s k : ℕ) → before R cs s (suc k) s ≡ false → walk R cs (suc k) s s ≡ None → before R cs s (suc (suc k)) s ≡ false
none_more R cs s k off none = ap₂ (λ a o. a || is_some o) off none

pub seek_some : (R : ℕ → ℕ → Bool) (s : ℕ) (bs : List ℕ) → ((v : ℕ) → has v bs ≡ R s v) → (xs : List Waiter) → AreOf R xs → (n k : ℕ)
    → before R (owners_of xs) s (suc k) s ≡ false → (vs : List ℕ)
    → seek bs n (left_at R (owners_of xs) s (suc k) xs) (layer_at R (owners_of xs) s k (owners_of xs)) ≡ Some vs → Shortest R (owners_of xs) s vs
seek_some R s bs each xs all zero k off vs is = none_some is
seek_some R s bs each xs all (suc n) k off vs is = go (found bs here) refl (λ less later. seek_some R s bs each xs all n (suc k) less vs later)
  where
    cs : List ℕ
    cs = owners_of xs

    here : List Walk
    here = layer_at R cs s k cs

    at : found bs here ≡ walk R cs (suc k) s s
    at = found_at R cs s k s bs each off

    rest_of : Option (List ℕ)
    rest_of = seek bs n (unreached here (left_at R cs s (suc k) xs)) (reached here (left_at R cs s (suc k) xs))

    next : rest_of ≡ seek bs n (left_at R cs s (suc (suc k)) xs) (layer_at R cs s (suc k) cs)
    next = ap₂ (seek bs n) (next_left R cs s k xs all) (next_reached R cs s k xs all)

    go : (o : Option (List ℕ)) → found bs here ≡ o
        → (before R cs s (suc (suc k)) s ≡ false → seek bs n (left_at R cs s (suc (suc k)) xs) (layer_at R cs s (suc k) cs) ≡ Some vs → Shortest R cs s vs) → Shortest R cs s vs
    go (Some us) e rest = record {
      size = k;
      is = sym at ∙ e ∙ sym (ap (λ o. seek_on o rest_of) e) ∙ is;
      none = λ j less. none_before R cs s (suc k) s (suc j) off (omega (arith, less));
    }
    go None e rest = rest (none_more R cs s k off (sym at ∙ e)) (sym next ∙ sym (ap (λ o. seek_on o rest_of) e) ∙ is)

pub seek_none : (R : ℕ → ℕ → Bool) (s : ℕ) (bs : List ℕ) → ((v : ℕ) → has v bs ≡ R s v) → (xs : List Waiter) → AreOf R xs → (n k : ℕ)
    → before R (owners_of xs) s (suc k) s ≡ false
    → seek bs n (left_at R (owners_of xs) s (suc k) xs) (layer_at R (owners_of xs) s k (owners_of xs)) ≡ None
    → (j : ℕ) → j < k + n → walk R (owners_of xs) (suc j) s s ≡ None
seek_none R s bs each xs all zero k off is = λ j less. none_before R (owners_of xs) s (suc k) s (suc j) off (omega (arith, less))
seek_none R s bs each xs all (suc n) k off is = go (found bs here) refl (λ less later. seek_none R s bs each xs all n (suc k) less later)
  where
    cs : List ℕ
    cs = owners_of xs

    here : List Walk
    here = layer_at R cs s k cs

    at : found bs here ≡ walk R cs (suc k) s s
    at = found_at R cs s k s bs each off

    rest_of : Option (List ℕ)
    rest_of = seek bs n (unreached here (left_at R cs s (suc k) xs)) (reached here (left_at R cs s (suc k) xs))

    next : rest_of ≡ seek bs n (left_at R cs s (suc (suc k)) xs) (layer_at R cs s (suc k) cs)
    next = ap₂ (seek bs n) (next_left R cs s k xs all) (next_reached R cs s k xs all)

    go : (o : Option (List ℕ)) → found bs here ≡ o
        → (before R cs s (suc (suc k)) s ≡ false → seek bs n (left_at R cs s (suc (suc k)) xs) (layer_at R cs s (suc k) cs) ≡ None → (j : ℕ) → j < suc k + n → walk R cs (suc j) s s ≡ None)
        → (j : ℕ) → j < k + suc n → walk R cs (suc j) s s ≡ None
    go (Some us) e rest j less = none_some (sym is ∙ ap (λ o. seek_on o rest_of) e)
    go None e rest j less = rest (none_more R cs s k off (sym at ∙ e)) (sym next ∙ sym (ap (λ o. seek_on o rest_of) e) ∙ is) j (omega (arith, less))

-- a layer with nobody leads nowhere
pub nobody_leads : (bs : List ℕ) (n : ℕ) (xs : List Waiter) → seek bs n xs [] ≡ None
nobody_leads bs zero xs = refl
nobody_leads bs (suc n) xs = ap₂ (seek bs n) (all_left xs) (none_reached xs) ∙ nobody_leads bs n xs
  where
    none_reached : (xs : List Waiter) → reached [] xs ≡ []
    none_reached [] = refl
    none_reached (x ∷ xs) = none_reached xs

    all_left : (xs : List Waiter) → unreached [] xs ≡ xs
    all_left [] = refl
    all_left (x ∷ xs) = ap (λ zs. x ∷ zs) (all_left xs)

-- one round more
pub at_round : (bs : List ℕ) (n m : ℕ) (xs : List Waiter) (layer : List Walk) → n ≡ suc m → seek bs n xs layer ≡ seek_on (found bs layer) (seek bs m (unreached layer xs) (reached layer xs))
at_round bs n m xs layer e = ap (λ k. seek bs k xs layer) e
