-- Different numbers among these are no more than these.
use Rattle.std.proofs.Common.{◌≡◌, ℕ, suc, ◌≤◌, Bool, true, false, not, ◌||◌, List, [], ◌∷◌, ◌++◌, length, ◌==◌, refl, sym, ap, subst, ◌∙◌, arith}
use Rattle.std.proofs.lemmas.Bool.Decides.{nat_tests}
use Rattle.wait_cycles.specs.Walks.{has, all_in, is_distinct}
use Rattle.wait_cycles.proofs.Simple.{split_at, apart, and_left, and_right, and_both}

or_right : (a b : Bool) → b ≡ true → (a || b) ≡ true
or_right true b e = refl
or_right false b e = e

pub not_true : (b : Bool) → not b ≡ true → b ≡ false
not_true true e = apart e
not_true false e = refl

-- one that isn't the number in the middle stands before or behind it
still : (before back : List ℕ) (x u : ℕ) → (x == u) ≡ false → has u (before ++ x ∷ back) ≡ true → has u (before ++ back) ≡ true
still [] back x u other e = sym (ap (λ b. b || has u back) other) ∙ e
still (f ∷ fs) back x u other e = go (f == u) refl (λ more. still fs back x u other more)
  where
    go : (b : Bool) → (f == u) ≡ b → (has u (fs ++ x ∷ back) ≡ true → has u (fs ++ back) ≡ true) → ((f == u) || has u (fs ++ back)) ≡ true
    go true same rest = ap (λ b. b || has u (fs ++ back)) same
    go false diff rest = or_right (f == u) (has u (fs ++ back)) (rest (sym (ap (λ b. b || has u (fs ++ x ∷ back)) diff) ∙ e))

all_still : (before back : List ℕ) (x : ℕ) (us : List ℕ) → has x us ≡ false → all_in us (before ++ x ∷ back) ≡ true → all_in us (before ++ back) ≡ true
all_still before back x [] out all = refl
all_still before back x (u ∷ us) out all =
    and_both (has u (before ++ back)) (all_in us (before ++ back))
    (still before back x u (turned (or_left (u == x) (has x us) out)) (and_left (has u (before ++ x ∷ back)) (all_in us (before ++ x ∷ back)) all))
    (all_still before back x us (or_last (u == x) (has x us) out) (and_right (has u (before ++ x ∷ back)) (all_in us (before ++ x ∷ back)) all))
  where
    turned : (u == x) ≡ false → (x == u) ≡ false
    turned e = grind (arith, nat_tests, e)

    or_left : (a b : Bool) → (a || b) ≡ false → a ≡ false
    or_left true b e = e
    or_left false b e = refl

    or_last : (a b : Bool) → (a || b) ≡ false → b ≡ false
    or_last true b e = apart (sym e)
    or_last false b e = e

without : (before back : List ℕ) (x : ℕ) → length (before ++ x ∷ back) ≡ suc (length (before ++ back))
without [] back x = refl
without (f ∷ fs) back x = ap suc (without fs back x)

pub pigeons : (us cs : List ℕ) → is_distinct us ≡ true → all_in us cs ≡ true → length us ≤ length cs
pigeons [] cs distinct all = omega arith
pigeons (u ∷ us) cs distinct all =
    let at = split_at u cs (and_left (has u cs) (all_in us cs) all) in
    let rest = pigeons us (at.before ++ at.back) (and_right (not (has u us)) (is_distinct us) distinct)
    (all_still at.before at.back u us (not_true (has u us) (and_left (not (has u us)) (is_distinct us) distinct))
    (subst (λ ys. all_in us ys ≡ true) at.is (and_right (has u cs) (all_in us cs) all))) in
    let size : length cs ≡ suc (length (at.before ++ at.back)) = ap length at.is ∙ without at.before at.back u in
    omega (arith, rest, size)
