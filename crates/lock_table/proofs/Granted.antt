-- What a table holds, and lists of grants.
use Rattle.std.proofs.Common.{◌≡◌, ℕ, Bool, true, false, cond, not, ◌&&◌, ◌||◌, List, [], ◌∷◌, ◌++◌, Option, Some, None, ◌==◌, refl, sym, ap, ◌∙◌, arith}
use Rattle.std.proofs.lemmas.Bool.Decides.{nat_tests}
use Rattle.lock_modes.specs.declared.ask.Ask.{Ask}
use Rattle.lock_resources.specs.declared.resource.Resource.{Resource}
use Rattle.lock_resources.specs.declared.request.Request.{Request}
use Rattle.lock_table.specs.Asks.{join_with, are_compatible, is_barred_by}
use Rattle.lock_table.specs.Resources.{same_resource}
use Rattle.lock_table.specs.Tables.{Table, held, IsGranted, IsReleased}
use Rattle.lock_table.specs.Grants.{held_after, join_of, clashes_with, with_grant, without_owner, IsTableOf}
use Rattle.lock_table.proofs.Maps.{exact_resources}
use Rattle.lock_table.proofs.Together.{barred_joined}

or_false : (b : Bool) → b ≡ (b || false)
or_false true = refl
or_false false = refl

or_assoc : (a b c : Bool) → ((a || b) || c) ≡ (a || (b || c))
or_assoc true b c = refl
or_assoc false b c = refl

-- what is held after grants bars a mode where it did before, or where one of them does
bars_after : (q : Request) (h : Option Ask) (gs : List Request) → is_barred_by q.ask (held_after h gs q.resource) ≡ (is_barred_by q.ask h || clashes_with gs q)
bars_after q h [] = or_false (is_barred_by q.ask h)
bars_after q h (g ∷ gs) = go (same_resource g.resource q.resource) refl (bars_after q h gs) (bars_after q (Some (join_with g.ask h)) gs)
  where
    go : (b : Bool) → same_resource g.resource q.resource ≡ b
        → is_barred_by q.ask (held_after h gs q.resource) ≡ (is_barred_by q.ask h || clashes_with gs q)
        → is_barred_by q.ask (held_after (Some (join_with g.ask h)) gs q.resource) ≡ (is_barred_by q.ask (Some (join_with g.ask h)) || clashes_with gs q)
        → is_barred_by q.ask (held_after h (g ∷ gs) q.resource) ≡ (is_barred_by q.ask h || clashes_with (g ∷ gs) q)
    go false e rest more =
        ap (λ b. is_barred_by q.ask (held_after (cond b (Some (join_with g.ask h)) h) gs q.resource)) e ∙ rest
        ∙ sym (ap (λ b. is_barred_by q.ask h || ((b && not (are_compatible q.ask g.ask)) || clashes_with gs q)) e)
    go true e rest more =
        ap (λ b. is_barred_by q.ask (held_after (cond b (Some (join_with g.ask h)) h) gs q.resource)) e ∙ more
        ∙ ap (λ b. b || clashes_with gs q) (barred_joined q.ask g.ask h)
        ∙ or_assoc (is_barred_by q.ask h) (not (are_compatible q.ask g.ask)) (clashes_with gs q)
        ∙ sym (ap (λ b. is_barred_by q.ask h || ((b && not (are_compatible q.ask g.ask)) || clashes_with gs q)) e)

pub join_bars : (q : Request) (gs : List Request) → is_barred_by q.ask (join_of gs q.resource) ≡ clashes_with gs q
join_bars q gs = bars_after q None gs

-- grants after others
after_more : (h : Option Ask) (gs : List Request) (q : Request) (r : Resource)
    → held_after h (gs ++ q ∷ []) r ≡ cond (same_resource q.resource r) (Some (join_with q.ask (held_after h gs r))) (held_after h gs r)
after_more h [] q r = refl
after_more h (g ∷ gs) q r = after_more (cond (same_resource g.resource r) (Some (join_with g.ask h)) h) gs q r

is_self : (o p : ℕ) → (o == p) ≡ true → o ≡ p
is_self o p e = grind (arith, nat_tests, e)

pub granted_table : (t u : Table) (grants : ℕ → List Request) (owner : ℕ) (q : Request) → IsTableOf t grants → IsGranted t owner q u → IsTableOf u (with_grant grants owner q)
granted_table t u grants owner q table is o r = is o r ∙ go (owner == o) (same_resource q.resource r) refl refl
  where
    go : (b s : Bool) → (owner == o) ≡ b → same_resource q.resource r ≡ s
        → cond (b && s) (Some (join_with q.ask (held t owner q.resource))) (held t o r) ≡ join_of (cond b (grants o ++ q ∷ []) (grants o)) r
    go false s e f = table o r
    go true true e f =
        ap (λ h. Some (join_with q.ask h)) (ap (λ p. held t p q.resource) (is_self owner o e) ∙ ap (held t o) (exact_resources q.resource r f) ∙ table o r)
        ∙ sym (after_more None (grants o) q r ∙ ap (λ b. cond b (Some (join_with q.ask (join_of (grants o) r))) (join_of (grants o) r)) f)
    go true false e f = table o r ∙ sym (after_more None (grants o) q r ∙ ap (λ b. cond b (Some (join_with q.ask (join_of (grants o) r))) (join_of (grants o) r)) f)

pub released_table : (t u : Table) (grants : ℕ → List Request) (owner : ℕ) → IsTableOf t grants → IsReleased t owner u → IsTableOf u (without_owner grants owner)
released_table t u grants owner table is o r = is o r ∙ go (owner == o)
  where
    go : (b : Bool) → cond b None (held t o r) ≡ join_of (cond b [] (grants o)) r
    go true = refl
    go false = table o r
