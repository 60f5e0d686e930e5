-- What the search answers is the first cycle, or there is none.
use Rattle.std.proofs.Common.{◌≡◌, ℕ, suc, ◌<◌, ◌≤◌, Bool, true, false, not, ◌&&◌, ◌||◌, List, [], ◌∷◌, length, None, nat_lt, ◌==◌, refl, sym, subst, ◌∙◌, arith}
use Rattle.std.proofs.lemmas.Bool.Decides.{nat_tests}
use Rattle.wait_cycles.specs.Walks.{leads, has, all_in, is_less, walk, Rises, is_distinct}
use Rattle.wait_cycles.specs.Cycles.{is_cycle, IsUpTo, IsFirst, HasNoneThrough}
use Rattle.wait_cycles.proofs.Least.{walk_none, walk_some, walk_in, walk_least}
use Rattle.wait_cycles.proofs.Simple.{simple, apart, and_left, and_right, and_both}
use Rattle.wait_cycles.proofs.Pigeons.{pigeons, not_true}
use Rattle.wait_graph.proofs.Searching.{Shortest}

-- who leads on waits
leaves : (R : ℕ → ℕ → Bool) (cs : List ℕ) (s : ℕ) → ((u v : ℕ) → R u v ≡ true → (u == s) ≡ false → has u cs ≡ true)
    → (u : ℕ) (us : List ℕ) (e : ℕ) → leads R u us e ≡ true → (u == s) ≡ false → has u cs ≡ true
leaves R cs s out u [] e on other = out u e on other
leaves R cs s out u (v ∷ vs) e on other = out u v (and_left (R u v) (leads R v vs e) on) other

all_leave : (R : ℕ → ℕ → Bool) (cs : List ℕ) (s : ℕ) → ((u v : ℕ) → R u v ≡ true → (u == s) ≡ false → has u cs ≡ true)
    → (x : ℕ) (us : List ℕ) (e : ℕ) → leads R x us e ≡ true → has s us ≡ false → all_in us cs ≡ true
all_leave R cs s out x [] e on other = refl
all_leave R cs s out x (u ∷ us) e on other =
    let rest = and_right (R x u) (leads R u us e) on in
    and_both (has u cs) (all_in us cs) (leaves R cs s out u us e rest (or_left (u == s) (has s us) other)) (all_leave R cs s out u us e rest (or_last (u == s) (has s us) other))
  where
    or_left : (a b : Bool) → (a || b) ≡ false → a ≡ false
    or_left true b e = e
    or_left false b e = refl

    or_last : (a b : Bool) → (a || b) ≡ false → b ≡ false
    or_last true b e = apart (sym e)
    or_last false b e = e

-- a cycle, opened at its first owner
record Opened (R : ℕ → ℕ → Bool) (cs : List ℕ) (s : ℕ) (us : List ℕ) : Type 0 where
  pub rest : List ℕ
  pub is : us ≡ s ∷ rest
  pub on : leads R s rest s ≡ true
  pub inside : all_in rest cs ≡ true
  pub distinct : is_distinct rest ≡ true

opened : (R : ℕ → ℕ → Bool) (cs : List ℕ) (s : ℕ) → ((u v : ℕ) → R u v ≡ true → (u == s) ≡ false → has u cs ≡ true)
    → (us : List ℕ) → is_cycle R s us ≡ true → Opened R cs s us
opened R cs s out [] cycle = apart cycle
opened R cs s out (x ∷ us) cycle =
    let two = and_right (x == s) (is_distinct (x ∷ us) && leads R x us x) cycle in
    go x (the_same (and_left (x == s) (is_distinct (x ∷ us) && leads R x us x) cycle)) (and_left (is_distinct (x ∷ us)) (leads R x us x) two) (and_right (is_distinct (x ∷ us)) (leads R x us x) two)
  where
    the_same : (x == s) ≡ true → x ≡ s
    the_same e = grind (arith, nat_tests, e)

    at_s : is_distinct (s ∷ us) ≡ true → leads R s us s ≡ true → Opened R cs s (s ∷ us)
    at_s distinct on = record {
      rest = us;
      is = refl;
      on = on;
      inside = all_leave R cs s out s us s on (not_true (has s us) (and_left (not (has s us)) (is_distinct us) distinct));
      distinct = and_right (not (has s us)) (is_distinct us) distinct;
    }

    go : (y : ℕ) → y ≡ s → is_distinct (y ∷ us) ≡ true → leads R y us y ≡ true → Opened R cs s (y ∷ us)
    go y same distinct on = subst (λ z. Opened R cs s (z ∷ us)) (sym same) (at_s (subst (λ z. is_distinct (z ∷ us) ≡ true) same distinct) (subst (λ z. leads R z us z ≡ true) same on))

-- no walk of less than this length
none_below : (R : ℕ → ℕ → Bool) (cs : List ℕ) (s k : ℕ) → R s s ≡ false → ((j : ℕ) → j < k → walk R cs (suc j) s s ≡ None)
    → (us : List ℕ) → length us < suc k → all_in us cs ≡ true → leads R s us s ≡ false
none_below R cs s k self none [] less all = self
none_below R cs s k self none (u ∷ us) less all = walk_none R cs (suc (length us)) s s (none (length us) (omega (arith, less))) (u ∷ us) refl all

same_self : (s : ℕ) → (s == s) ≡ true
same_self s = grind (arith, nat_tests)

pub first_cycle : (R : ℕ → ℕ → Bool) (cs : List ℕ) (s : ℕ) (vs : List ℕ) → Rises cs → R s s ≡ false
    → ((u v : ℕ) → R u v ≡ true → (u == s) ≡ false → has u cs ≡ true) → Shortest R cs s vs → IsFirst R s (s ∷ vs)
first_cycle R cs s vs rise self out short = record { cycle = cycle; first = first }
  where
    some : (leads R s vs s ≡ true) × (length vs ≡ suc short.size)
    some = walk_some R cs (suc short.size) s s vs short.is

    within : all_in vs cs ≡ true
    within = walk_in R cs (suc short.size) s s vs short.is

    cycle : is_cycle R s (s ∷ vs) ≡ true
    cycle =
        let distinct = simple R cs s vs some.0 within (λ us less all. none_below R cs s short.size self short.none us (subst (λ n. length us < n) some.1 less) all) in
        and_both (s == s) (is_distinct (s ∷ vs) && leads R s vs s) (same_self s) (and_both (is_distinct (s ∷ vs)) (leads R s vs s) distinct some.0)

    long : (us : List ℕ) → leads R s us s ≡ true → all_in us cs ≡ true → length vs ≤ length us
    long us on all = go (nat_lt (length us) (suc short.size)) refl
      where
        size : length vs ≡ suc short.size
        size = some.1

        go : (b : Bool) → nat_lt (length us) (suc short.size) ≡ b → length vs ≤ length us
        go true e = apart (sym (none_below R cs s short.size self short.none us (grind (arith, nat_tests, e)) all) ∙ on)
        go false e = grind (arith, nat_tests, e, size)

    heads : (xs ys : List ℕ) → is_less xs ys ≡ false → is_less (s ∷ xs) (s ∷ ys) ≡ false
    heads xs ys e = grind (arith, nat_tests, e)

    up_to : (us : List ℕ) → leads R s us s ≡ true → all_in us cs ≡ true → IsUpTo (s ∷ vs) (s ∷ us)
    up_to us on all = record {
      short = let l = long us on all in omega (arith, l);
      least = λ e. heads us vs (walk_least R cs rise (suc short.size) s s vs us short.is (tails e ∙ some.1) all on);
    }
      where
        tails : suc (length us) ≡ suc (length vs) → length us ≡ length vs
        tails e = omega (arith, e)

    first : (us : List ℕ) → is_cycle R s us ≡ true → IsUpTo (s ∷ vs) us
    first us is =
        let o = opened R cs s out us is in
        subst (IsUpTo (s ∷ vs)) (sym o.is) (up_to o.rest o.on o.inside)

pub no_cycle : (R : ℕ → ℕ → Bool) (cs : List ℕ) (s : ℕ) → R s s ≡ false
    → ((u v : ℕ) → R u v ≡ true → (u == s) ≡ false → has u cs ≡ true)
    → ((j : ℕ) → j < length cs → walk R cs (suc j) s s ≡ None) → HasNoneThrough R s
no_cycle R cs s self out none us = go (is_cycle R s us) refl
  where
    go : (b : Bool) → is_cycle R s us ≡ b → is_cycle R s us ≡ false
    go false e = e
    go true e =
        let o = opened R cs s out us e in
        let few = pigeons o.rest cs o.distinct o.inside in
        apart (sym (none_below R cs s (length cs) self none o.rest (omega (arith, few)) o.inside) ∙ o.on)
