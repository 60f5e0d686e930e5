-- The owners that wait, gathered one place after another.
use Rattle.std.proofs.Common.{◌≡◌, ℕ, Bool, true, false, not, ◌&&◌, ◌||◌, cond, List, [], ◌∷◌, ◌++◌, Option, Some, is_some, nat_lt, ◌==◌, refl, sym, ap, subst, ◌∙◌, arith, append-nil}
use Rattle.std.proofs.lemmas.Bool.Decides.{nat_tests}
use Rattle.std.specs.declared.cmp.Ordering.TheVariants.{Less}
use Rattle.std.specs.List.{AllByRecursion}
use Rattle.std.specs.List.Sorted.{IsStrictlySortedBy}
use Rattle.std.specs.Map.{lookup, keys_of}
use Rattle.std.specs.BTreeMap.{is_at}
use Rattle.std.specs.Ordering.{nat_cmp}
use Rattle.std.specs.Cmp.{unsigned_ties}
use Rattle.lock_resources.specs.declared.request.Request.{Request}
use Rattle.wait_graph.specs.declared.search.Waiter.{Waiter}
use Rattle.wait_graph.specs.Graphs.{Graph, request_in, waits}
use Rattle.wait_graph.specs.inside.Search.{owners_of, AreOf}
use Rattle.wait_graph.specs.inside.Waiters.{is_kept, kept, AreOwners}
use Rattle.wait_cycles.specs.Walks.{has, Rises}
use Rattle.wait_cycles.proofs.Simple.{apart, and_right}

pub of_more : (R : ℕ → ℕ → Bool) (xs : List Waiter) (x : Waiter) → AreOf R xs → ((v : ℕ) → has v x.holders ≡ R x.owner v) → AreOf R (xs ++ x ∷ [])
of_more R [] x all one = (one, all)
of_more R (y ∷ ys) x all one = (all.0, of_more R ys x all.1 one)

owners_more : (xs : List Waiter) (x : Waiter) (us : List ℕ) → owners_of (xs ++ x ∷ []) ++ us ≡ owners_of xs ++ x.owner ∷ us
owners_more [] x us = refl
owners_more (y ∷ ys) x us = ap (λ vs. y.owner ∷ vs) (owners_more ys x us)

pub kept_one : (g : Graph) (e : ℕ) (xs : List Waiter) (x : Waiter) (p : ℕ × Option Request) (ps : List (ℕ × Option Request)) (all : List ℕ)
    → owners_of xs ++ kept g e (p ∷ ps) ≡ all → is_kept g e p.0 ≡ true → x.owner ≡ p.0 → owners_of (xs ++ x ∷ []) ++ kept g e ps ≡ all
kept_one g e xs x p ps all so is same =
    owners_more xs x (kept g e ps) ∙ ap (λ u. owners_of xs ++ u ∷ kept g e ps) same
    ∙ sym (ap (λ b. owners_of xs ++ cond b (p.0 ∷ kept g e ps) (kept g e ps)) is) ∙ so

pub kept_none : (g : Graph) (e : ℕ) (us : List ℕ) (p : ℕ × Option Request) (ps : List (ℕ × Option Request)) (all : List ℕ)
    → us ++ kept g e (p ∷ ps) ≡ all → is_kept g e p.0 ≡ false → us ++ kept g e ps ≡ all
kept_none g e us p ps all so off = sym (ap (λ b. us ++ cond b (p.0 ∷ kept g e ps) (kept g e ps)) off) ∙ so

less_than : (x y : ℕ) → nat_cmp x y ≡ Less → nat_lt x y ≡ true
less_than x y e = grind (arith, nat_tests, e)

above : (g : Graph) (e x : ℕ) (ps : List (ℕ × Option Request)) → AllByRecursion (λ y. nat_cmp x y ≡ Less) (keys_of ps) → AllByRecursion (λ y. nat_lt x y ≡ true) (kept g e ps)
above g e x [] all = all
above g e x (p ∷ ps) all = go (is_kept g e p.0) (above g e x ps all.1)
  where
    go : (b : Bool) → AllByRecursion (λ y. nat_lt x y ≡ true) (kept g e ps) → AllByRecursion (λ y. nat_lt x y ≡ true) (cond b (p.0 ∷ kept g e ps) (kept g e ps))
    go true rest = (less_than x p.0 all.0, rest)
    go false rest = rest

rises : (g : Graph) (e : ℕ) (ps : List (ℕ × Option Request)) → IsStrictlySortedBy nat_cmp (keys_of ps) → Rises (kept g e ps)
unfolding IsStrictlySortedBy
rises g e [] sorted = sorted
rises g e (p ∷ ps) sorted = go (is_kept g e p.0) (rises g e ps sorted.1)
  where
    go : (b : Bool) → Rises (kept g e ps) → Rises (cond b (p.0 ∷ kept g e ps) (kept g e ps))
    go true rest = (above g e p.0 ps sorted.0, rest)
    go false rest = rest

the_same : (x y : ℕ) → (x == y) ≡ true → x ≡ y
the_same x y e = grind (arith, nat_tests, e)

-- those kept are the owners of these places that wait
members : (g : Graph) (e u : ℕ) (ps : List (ℕ × Option Request)) → has u (kept g e ps) ≡ (has u (keys_of ps) && is_kept g e u)
members g e u [] = refl
members g e u (p ∷ ps) = go (p.0 == u) refl (is_kept g e p.0) refl (members g e u ps)
  where
    or_same : (a b : Bool) → a ≡ false → (a || b) ≡ b
    or_same true b e = apart (sym e)
    or_same false b e = refl

    absorbs : (a b : Bool) → b ≡ false → (a && b) ≡ b
    absorbs true b off = refl
    absorbs false b off = sym off

    go : (s : Bool) → (p.0 == u) ≡ s → (b : Bool) → is_kept g e p.0 ≡ b → has u (kept g e ps) ≡ (has u (keys_of ps) && is_kept g e u)
        → has u (kept g e (p ∷ ps)) ≡ (((p.0 == u) || has u (keys_of ps)) && is_kept g e u)
    go true same true on rest =
        ap (λ b. has u (cond b (p.0 ∷ kept g e ps) (kept g e ps))) on ∙ ap (λ b. b || has u (kept g e ps)) same
        ∙ sym (ap (λ b. (b || has u (keys_of ps)) && is_kept g e u) same ∙ sym (ap (is_kept g e) (the_same p.0 u same)) ∙ on)
    go true same false off rest =
        let here : is_kept g e u ≡ false = sym (ap (is_kept g e) (the_same p.0 u same)) ∙ off in
        ap (λ b. has u (cond b (p.0 ∷ kept g e ps) (kept g e ps))) off ∙ rest ∙ absorbs (has u (keys_of ps)) (is_kept g e u) here
        ∙ sym (ap (λ b. (b || has u (keys_of ps)) && is_kept g e u) same)
    go false diff true on rest =
        ap (λ b. has u (cond b (p.0 ∷ kept g e ps) (kept g e ps))) on ∙ or_same (p.0 == u) (has u (kept g e ps)) diff ∙ rest
        ∙ sym (ap (λ b. (b || has u (keys_of ps)) && is_kept g e u) diff)
    go false diff false off rest =
        ap (λ b. has u (cond b (p.0 ∷ kept g e ps) (kept g e ps))) off ∙ rest
        ∙ sym (ap (λ b. (b || has u (keys_of ps)) && is_kept g e u) diff)

at_key : (u k : ℕ) → is_at (nat_cmp u) k ≡ (k == u)
at_key u k = grind (arith, nat_tests, unsigned_ties u k)

-- who waits has a place
placed : (u : ℕ) (ps : List (ℕ × Option Request)) → is_some (request_in (lookup (is_at (nat_cmp u)) ps)) ≡ true → has u (keys_of ps) ≡ true
placed u [] e = apart e
placed u (p ∷ ps) e = go (p.0 == u) refl (placed u ps)
  where
    go : (b : Bool) → (p.0 == u) ≡ b → (is_some (request_in (lookup (is_at (nat_cmp u)) ps)) ≡ true → has u (keys_of ps) ≡ true) → ((p.0 == u) || has u (keys_of ps)) ≡ true
    go true same rest = ap (λ b. b || has u (keys_of ps)) same
    go false diff rest = ap (λ b. b || has u (keys_of ps)) diff ∙ rest (sym (ap (λ b. is_some (request_in (cond b (Some p.1) (lookup (is_at (nat_cmp u)) ps)))) (at_key u p.0 ∙ diff)) ∙ e)

each : (g : Graph) (e u : ℕ) → has u (kept g e g) ≡ is_kept g e u
each g e u = members g e u g ∙ go (is_kept g e u) refl
  where
    go : (b : Bool) → is_kept g e u ≡ b → (has u (keys_of g) && is_kept g e u) ≡ is_kept g e u
    go true on = ap (λ b. b && is_kept g e u) (placed u g (and_right (not (u == e)) (is_some (waits g u)) on))
    go false off = ap (λ b. has u (keys_of g) && b) off ∙ none (has u (keys_of g)) ∙ sym off
      where
        none : (b : Bool) → (b && false) ≡ false
        none true = refl
        none false = refl

pub gathered : (g : Graph) (e : ℕ) (xs : List Waiter) (ps : List (ℕ × Option Request)) → ps ≡ [] → owners_of xs ++ kept g e ps ≡ kept g e g → IsStrictlySortedBy nat_cmp (keys_of g) → AreOwners g e xs
gathered g e xs ps done so sorted =
    let all : owners_of xs ≡ kept g e g = sym (append-nil (owners_of xs)) ∙ ap (λ qs. owners_of xs ++ kept g e qs) (sym done) ∙ so in
    record {
      rise = subst Rises (sym all) (rises g e g sorted);
      each = λ u. ap (has u) all ∙ each g e u;
    }
