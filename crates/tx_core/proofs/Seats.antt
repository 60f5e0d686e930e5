-- What a core keeps of the sessions, where one of them moves.
use Rattle.std.proofs.Common.{◌≡◌, ◌≢◌, ℕ, Bool, true, false, cond, List, [], ◌∷◌, ◌++◌, Option, Some, None, ◌==◌, refl, sym, ap, subst, ◌∙◌, arith}
use Rattle.std.proofs.lemmas.Bool.Decides.{nat_tests}
use Rattle.std.proofs.lemmas.Option.{same_Some}
use Rattle.std.specs.Map.{lookup, set_value}
use Rattle.tree_model.specs.Tree.{Tree}
use Rattle.lock_resources.specs.declared.request.Request.{Request}
use Rattle.call_contract.specs.Calls.{CallMeaning}
use Rattle.call_contract.specs.States.{Live, of_session, put, others}
use Rattle.call_contract.proofs.Lists.{found_put, found_put_other, found_others, found_ended}
use Rattle.tx_core.specs.declared.parts.Seat.{Seat}
use Rattle.tx_core.specs.Holding.{grants_of}
use Rattle.tx_core.specs.inside.Standing.{IsSeat, IsSeatOf}
use Rattle.tx_core.proofs.Holding.{with_more}

pub is_self : (o p : ℕ) → (o == p) ≡ true → o ≡ p
is_self o p e = grind (arith, nat_tests, e)

pub isnt : (o p : ℕ) → (o == p) ≡ false → p ≢ o
isnt o p e f = other (sym e ∙ ap (λ x. o == x) f ∙ itself)
  where
    itself : (o == o) ≡ true
    itself = grind (arith, nat_tests)

    other : false ≡ true → ⊥
    other e = grind (arith, e)

-- entries are what they were where the value that they have is written again
pub written_again : {K X : Type 0} (test : K → Bool) (es : List (K × X)) (v : X) → lookup test es ≡ Some v → set_value test es v ≡ es
written_again test [] v has = refl
written_again {K = K} {X = X} test (e ∷ es) v has = go (test e.0) (written_again test es v) has
  where
    go : (b : Bool) → (lookup test es ≡ Some v → set_value test es v ≡ es) → cond b (Some e.1) (lookup test es) ≡ Some v → cond b ((e.0, v) ∷ es) (e ∷ set_value test es v) ≡ e ∷ es
    go true rest has = ap (λ (x : X). (e.0, x) ∷ es) (sym (same_Some e.1 v has))
    go false rest has = ap (λ (xs : List (K × X)). e ∷ xs) (rest has)

module _ {C : Type 0} (is_valid : C → Type 0) (m : CallMeaning C) where
  -- one session's transaction takes its seat
  pub seats_put : (tree : Tree) (live : List (Live C)) (old new : ℕ → Option Seat) (s : ℕ) (seat : Seat) (t : Live C)
      → ((o : ℕ) → IsSeat is_valid m tree (old o) (of_session o live))
      → ((o : ℕ) → new o ≡ cond (s == o) (Some seat) (old o))
      → t.session ≡ s → IsSeatOf is_valid m tree seat t
      → (o : ℕ) → IsSeat is_valid m tree (new o) (of_session o (put t live))
  seats_put tree live old new s seat t all is named one o = go (s == o) refl
    where
      go : (b : Bool) → (s == o) ≡ b → IsSeat is_valid m tree (new o) (of_session o (put t live))
      go true e =
          let found : of_session o (put t live) ≡ Some t = ap (λ x. of_session x (put t live)) (sym (is_self s o e) ∙ sym named) ∙ found_put t live in
          subst (λ (x : Option Seat). IsSeat is_valid m tree x (of_session o (put t live))) (sym (is o ∙ ap (λ b. cond b (Some seat) (old o)) e))
          (subst (λ (x : Option (Live C)). IsSeat is_valid m tree (Some seat) x) (sym found) one)
      go false e =
          let found : of_session o (put t live) ≡ of_session o live = found_put_other o t live (subst (λ x. o ≢ x) (sym named) (isnt s o e)) in
          subst (λ (x : Option Seat). IsSeat is_valid m tree x (of_session o (put t live))) (sym (is o ∙ ap (λ b. cond b (Some seat) (old o)) e))
          (subst (λ (x : Option (Live C)). IsSeat is_valid m tree (old o) x) (sym found) (all o))

  -- one session's transaction leaves it
  pub seats_out : (tree : Tree) (live : List (Live C)) (old new : ℕ → Option Seat) (s : ℕ)
      → ((o : ℕ) → IsSeat is_valid m tree (old o) (of_session o live))
      → ((o : ℕ) → new o ≡ cond (s == o) None (old o))
      → (o : ℕ) → IsSeat is_valid m tree (new o) (of_session o (others s live))
  seats_out tree live old new s all is o = go (s == o) refl
    where
      go : (b : Bool) → (s == o) ≡ b → IsSeat is_valid m tree (new o) (of_session o (others s live))
      go true e =
          let found : of_session o (others s live) ≡ None = ap (λ x. of_session x (others s live)) (sym (is_self s o e)) ∙ found_ended s live in
          subst (λ (x : Option Seat). IsSeat is_valid m tree x (of_session o (others s live))) (sym (is o ∙ ap (λ b. cond b None (old o)) e))
          (subst (λ (x : Option (Live C)). IsSeat is_valid m tree None x) (sym found) tt)
      go false e =
          subst (λ (x : Option Seat). IsSeat is_valid m tree x (of_session o (others s live))) (sym (is o ∙ ap (λ b. cond b None (old o)) e))
          (subst (λ (x : Option (Live C)). IsSeat is_valid m tree (old o) x) (sym (found_others s o live (isnt s o e))) (all o))

module _ {C : Type 0} where
  -- a session's grants grow
  pub grants_put : (live : List (Live C)) (s : ℕ) (t : Live C) (qs : List Request) → t.session ≡ s → t.grants ≡ grants_of (of_session s live) ++ qs
      → (o : ℕ) → with_more (λ u. grants_of (of_session u live)) s qs o ≡ grants_of (of_session o (put t live))
  grants_put live s t qs named is o = go (s == o) refl
    where
      go : (b : Bool) → (s == o) ≡ b → with_more (λ u. grants_of (of_session u live)) s qs o ≡ grants_of (of_session o (put t live))
      go true e =
          let at : s ≡ o = is_self s o e in
          let found : of_session o (put t live) ≡ Some t = ap (λ x. of_session x (put t live)) (sym at ∙ sym named) ∙ found_put t live in
          ap (λ b. cond b (grants_of (of_session o live) ++ qs) (grants_of (of_session o live))) e
          ∙ ap (λ x. grants_of (of_session x live) ++ qs) (sym at) ∙ sym is ∙ sym (ap grants_of found)
      go false e =
          ap (λ b. cond b (grants_of (of_session o live) ++ qs) (grants_of (of_session o live))) e
          ∙ sym (ap grants_of (found_put_other o t live (subst (λ x. o ≢ x) (sym named) (isnt s o e))))

  -- what is told of each session's transaction, where one moves
  pub told_put : {X : Type 0} (f : Option (Live C) → X) (live : List (Live C)) (s : ℕ) (t : Live C) (x : X) → t.session ≡ s → f (Some t) ≡ x
      → (o : ℕ) → cond (s == o) x (f (of_session o live)) ≡ f (of_session o (put t live))
  told_put {X = X} f live s t x named is o = go (s == o) refl
    where
      go : (b : Bool) → (s == o) ≡ b → cond (s == o) x (f (of_session o live)) ≡ f (of_session o (put t live))
      go true e =
          let found : of_session o (put t live) ≡ Some t = ap (λ y. of_session y (put t live)) (sym (is_self s o e) ∙ sym named) ∙ found_put t live in
          ap (λ b. cond b x (f (of_session o live))) e ∙ sym is ∙ sym (ap f found)
      go false e =
          ap (λ b. cond b x (f (of_session o live))) e
          ∙ sym (ap f (found_put_other o t live (subst (λ y. o ≢ y) (sym named) (isnt s o e))))

  -- where it is the same of that one
  pub told_kept : {X : Type 0} (f : Option (Live C) → X) (live : List (Live C)) (s : ℕ) (t : Live C) → t.session ≡ s → f (Some t) ≡ f (of_session s live)
      → (o : ℕ) → f (of_session o live) ≡ f (of_session o (put t live))
  told_kept {X = X} f live s t named is o = go (s == o) refl
    where
      go : (b : Bool) → (s == o) ≡ b → f (of_session o live) ≡ f (of_session o (put t live))
      go true e =
          let at : s ≡ o = is_self s o e in
          let found : of_session o (put t live) ≡ Some t = ap (λ y. of_session y (put t live)) (sym at ∙ sym named) ∙ found_put t live in
          ap (λ y. f (of_session y live)) (sym at) ∙ sym is ∙ sym (ap f found)
      go false e = sym (ap f (found_put_other o t live (subst (λ y. o ≢ y) (sym named) (isnt s o e))))

  -- where one ends
  pub told_out : {X : Type 0} (f : Option (Live C) → X) (live : List (Live C)) (s o : ℕ) → cond (s == o) (f None) (f (of_session o live)) ≡ f (of_session o (others s live))
  told_out {X = X} f live s o = go (s == o) refl
    where
      go : (b : Bool) → (s == o) ≡ b → cond (s == o) (f None) (f (of_session o live)) ≡ f (of_session o (others s live))
      go true e =
          let found : of_session o (others s live) ≡ None = ap (λ y. of_session y (others s live)) (sym (is_self s o e)) ∙ found_ended s live in
          ap (λ b. cond b (f None) (f (of_session o live))) e ∙ sym (ap f found)
      go false e = ap (λ b. cond b (f None) (f (of_session o live))) e ∙ sym (ap f (found_others s o live (isnt s o e)))

pub numbers_turned : (s o : ℕ) → (s == o) ≡ (o == s)
numbers_turned s o = grind (arith, nat_tests)

pub not_equal : (x y : ℕ) → (x ≡ y → ⊥) → (x == y) ≡ false
not_equal x y apart = go (x == y) refl
  where
    go : (b : Bool) → (x == y) ≡ b → (x == y) ≡ false
    go false e = e
    go true e = absurd (apart (is_self x y e))
