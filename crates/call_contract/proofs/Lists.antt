-- Finding and replacing a transaction among the live ones, and requests that don't clash.
use Rattle.std.proofs.Common.{◌≡◌, ◌≢◌, ℕ, suc, zero, Bool, true, false, ◌||◌, List, [], ◌∷◌, ◌++◌, take, length, Option, Some, None, refl, sym, ap, ap₂, ◌∙◌, arith, if◌then◌else◌}
use Rattle.std.proofs.lemmas.Bool.Decides.{nat_tests}
use Rattle.lock_resources.specs.declared.request.Request.{Request}
use Rattle.tree_cells.specs.Clashes.{bars, bar_each_other}
use Rattle.tree_cells.proofs.Symmetry.{clash_both_ways}
use Rattle.call_contract.specs.States.{Live, of_session, put, others}
use Rattle.call_contract.specs.Attempts.{is_barred, free, barred}

-- ---- the live transactions

module _ {C : Type 0} where
  pub found_named : (s : ℕ) (ts : List (Live C)) (t : Live C) → of_session s ts ≡ Some t → t.session ≡ s
  found_named s [] t e = cc
  found_named s (u ∷ us) t e = grind (arith, nat_tests, found_named s us t)

  pub found_put : (t : Live C) (ts : List (Live C)) → of_session t.session (put t ts) ≡ Some t
  found_put t [] = grind (arith, nat_tests)
  found_put t (u ∷ us) = grind (arith, nat_tests, found_put t us)

  pub found_put_other : (s : ℕ) (t : Live C) (ts : List (Live C)) → s ≢ t.session → of_session s (put t ts) ≡ of_session s ts
  found_put_other s t [] differ = grind (arith, nat_tests)
  found_put_other s t (u ∷ us) differ = grind (arith, nat_tests, found_put_other s t us differ)

  pub found_others : (s u : ℕ) (ts : List (Live C)) → u ≢ s → of_session u (others s ts) ≡ of_session u ts
  found_others s u [] differ = refl
  found_others s u (t ∷ ts) differ = grind (arith, nat_tests, found_others s u ts differ)

  pub found_ended : (s : ℕ) (ts : List (Live C)) → of_session s (others s ts) ≡ None
  found_ended s [] = refl
  found_ended s (t ∷ ts) = grind (arith, nat_tests, found_ended s ts)

-- ---- requests that don't clash

or_none : (b : Bool) → (b || false) ≡ b
or_none true = refl
or_none false = refl

or_false : (a b : Bool) → (a || b) ≡ false → (a ≡ false) × (b ≡ false)
or_false true b e = absurd (Rattle.std.proofs.Common.true≢false e)
or_false false b e = (refl, e)

both_false : (a b : Bool) → a ≡ false → b ≡ false → (a || b) ≡ false
both_false true b e f = e
both_false false b e f = f

pub apart_append : (gs hs ks : List Request) → bar_each_other gs ks ≡ false → bar_each_other hs ks ≡ false → bar_each_other (gs ++ hs) ks ≡ false
apart_append [] hs ks e f = f
apart_append (g ∷ gs) hs ks e f = let h = or_false (bars ks g) (bar_each_other gs ks) e in both_false (bars ks g) (bar_each_other (gs ++ hs) ks) h.0 (apart_append gs hs ks h.1 f)

pub apart_take : (k : ℕ) (gs ks : List Request) → bar_each_other gs ks ≡ false → bar_each_other (take k gs) ks ≡ false
apart_take zero gs ks e = refl
apart_take (suc k) [] ks e = refl
apart_take (suc k) (g ∷ gs) ks e = let h = or_false (bars ks g) (bar_each_other gs ks) e in both_false (bars ks g) (bar_each_other (take k gs) ks) h.0 (apart_take k gs ks h.1)

pub apart_both_ways : (gs ks : List Request) → bar_each_other gs ks ≡ false → bar_each_other ks gs ≡ false
apart_both_ways gs ks e = clash_both_ways ks gs ∙ e

-- ---- what is granted

module _ {C : Type 0} where
  -- who isn't barred by all the others isn't barred by one of them
  not_barred : (g : Request) (s u : ℕ) (ts : List (Live C)) (t : Live C) → is_barred g (others s ts) ≡ false → of_session u ts ≡ Some t → u ≢ s → bars t.grants g ≡ false
  not_barred g s u [] t clear found differ = cc
  not_barred g s u (v ∷ vs) t clear found differ = grind (arith, nat_tests, not_barred g s u vs t)

  pub free_is_part : (gs : List Request) (ts : List (Live C)) → free gs ts ≡ take (length (free gs ts)) gs
  free_is_part [] ts = refl
  free_is_part (g ∷ gs) ts = go (is_barred g ts) (free_is_part gs ts)
    where
      go : (b : Bool) → free gs ts ≡ take (length (free gs ts)) gs → (if b then [] else g ∷ free gs ts) ≡ take (length (if b then [] else g ∷ free gs ts)) (g ∷ gs)
      go true h = refl
      go false h = ap (λ (xs : List Request). g ∷ xs) h

  pub free_is_all : (gs : List Request) (ts : List (Live C)) → barred gs ts ≡ None → free gs ts ≡ gs
  free_is_all [] ts none = refl
  free_is_all (g ∷ gs) ts none = go (is_barred g ts) none (free_is_all gs ts)
    where
      go : (b : Bool) → (if b then Some g else barred gs ts) ≡ None → (barred gs ts ≡ None → free gs ts ≡ gs) → (if b then [] else g ∷ free gs ts) ≡ g ∷ gs
      go true e h = absurd (some_none e)
        where
          some_none : {A : Type 0} {x : A} → Some x ≡ None → ⊥
          some_none e = cc
      go false e h = ap (λ (xs : List Request). g ∷ xs) (h e)

  pub free_apart : (gs : List Request) (s u : ℕ) (ts : List (Live C)) (t : Live C) → of_session u ts ≡ Some t → u ≢ s → bar_each_other (free gs (others s ts)) t.grants ≡ false
  free_apart [] s u ts t found differ = refl
  free_apart (g ∷ gs) s u ts t found differ = go (is_barred g (others s ts)) refl (free_apart gs s u ts t found differ)
    where
      go : (b : Bool) → is_barred g (others s ts) ≡ b → bar_each_other (free gs (others s ts)) t.grants ≡ false → bar_each_other (if b then [] else g ∷ free gs (others s ts)) t.grants ≡ false
      go true e h = refl
      go false e h = both_false (bars t.grants g) (bar_each_other (free gs (others s ts)) t.grants) (not_barred g s u ts t e found differ) h
