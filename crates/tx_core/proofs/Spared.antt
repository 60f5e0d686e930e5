-- A request that an earlier one covers needs no look at the table.
use Rattle.std.proofs.Common.{◌≡◌, ℕ, zero, suc, ◌<◌, length, get_or, Bool, true, false, cond, not, ◌&&◌, List, [], ◌∷◌, Some, ◌==◌, refl, sym, ap, ap₂, subst, ◌∙◌, arith, true≢false}
use Rattle.std.proofs.lemmas.Bool.Decides.{nat_tests}
use Rattle.std.specs.List.Sorted.{IsStrictlySortedBy}
use Rattle.lock_modes.specs.declared.ask.Ask.{Ask}
use Rattle.lock_resources.specs.declared.request.Request.{Request}
use Rattle.lock_resources.specs.declared.resource.Resource.{Resource}
use Rattle.lock_table.specs.Asks.{join_with, is_barred_by, Covers}
use Rattle.lock_table.specs.Resources.{same_resource}
use Rattle.lock_table.specs.Tables.{Table, held, AreHolders, IsGranted}
use Rattle.lock_table.proofs.Listing.{same_itself}
use Rattle.lock_table.proofs.Maps.{exact_resources}
use Rattle.lock_table.proofs.Together.{covered_free}
use Rattle.tx_core.specs.inside.Asking.{AreGranted, IsCovered}
use Rattle.tx_core.proofs.AskedAgain.{covered_then}
use Rattle.tx_core.proofs.Repeated.{granted_covers, covers_more, covers_through}

both_on : (a b : Bool) → (a && b) ≡ true → (a ≡ true) × (b ≡ true)
both_on true b e = (refl, e)
both_on false b e = absurd (true≢false (sym e))

itself : (o : ℕ) → (o == o) ≡ true
itself o = grind (arith, nat_tests)

turned : (o p : ℕ) → (o == p) ≡ false → (p == o) ≡ false
turned o p e = grind (arith, nat_tests, e)

no_index : {A : Type 0} (k : ℕ) → k < 0 → A
no_index k lt = absurd (omega (arith, lt))

-- ---- what one more grant leaves

-- other owners hold what they held
others_hold : (t v : Table) (owner : ℕ) (p : Request) → IsGranted t owner p v → (o : ℕ) → (o == owner) ≡ false → (r : Resource) → held v o r ≡ held t o r
others_hold t v owner p is o off r = is o r ∙ ap (λ b. cond (b && same_resource p.resource r) (Some (join_with p.ask (held t owner p.resource))) (held t o r)) (turned o owner off)

-- what the owner holds covers what it covered
covers_still : (t v : Table) (owner : ℕ) (p : Request) → IsGranted t owner p v → (r : Resource) (a : Ask) → Covers (held t owner r) a → Covers (held v owner r) a
covers_still t v owner p is r a covers = subst (λ h. Covers h a) (sym (is owner r)) (go ((owner == owner) && same_resource p.resource r) refl)
  where
    go : (b : Bool) → ((owner == owner) && same_resource p.resource r) ≡ b → Covers (cond b (Some (join_with p.ask (held t owner p.resource))) (held t owner r)) a
    go true e = covers_more a p.ask (held t owner p.resource) (subst (λ x. Covers (held t owner x) a) (sym (exact_resources p.resource r (both_on (owner == owner) (same_resource p.resource r) e).1)) covers)
    go false e = covers

-- ---- what was granted

-- the owner has what the request asks, and nobody bars it
record IsHeld (t : Table) (owner : ℕ) (q : Request) : Type 0 where
  covers : Covers (held t owner q.resource) q.ask
  free : (o : ℕ) → (o == owner) ≡ false → is_barred_by q.ask (held t o q.resource) ≡ false

granted_held : (t v : Table) (owner : ℕ) (q : Request) → AreHolders t owner q [] → IsGranted t owner q v → IsHeld v owner q
granted_held t v owner q none is = record {
  covers = subst (λ h. Covers h q.ask) (sym (is owner q.resource))
      (subst (λ b. Covers (cond b (Some (join_with q.ask (held t owner q.resource))) (held t owner q.resource)) q.ask) (sym (ap₂ (λ (x y : Bool). x && y) (itself owner) (same_itself q.resource))) (granted_covers q.ask (held t owner q.resource)));
  free = λ o off. ap (is_barred_by q.ask) (others_hold t v owner q is o off q.resource) ∙ sym (none.each o ∙ ap (λ b. not b && is_barred_by q.ask (held t o q.resource)) off);
}

-- and stays so by further grants
held_still : (t : Table) (owner : ℕ) (qs : List Request) (u : Table) (e : Request) → AreGranted t owner qs u → IsHeld t owner e → IsHeld u owner e
held_still t owner [] u e same is = record {
  covers = subst (λ h. Covers h e.ask) (sym (same owner e.resource)) is.covers;
  free = λ o off. ap (is_barred_by e.ask) (same o e.resource) ∙ is.free o off;
}
held_still t owner (q ∷ qs) u e (v, none, got, rest) is = held_still v owner qs u e rest (record {
  covers = covers_still t v owner q got e.resource e.ask is.covers;
  free = λ o off. ap (is_barred_by e.ask) (others_hold t v owner q got o off e.resource) ∙ is.free o off;
})

each_held : (t : Table) (owner : ℕ) (qs : List Request) (u : Table) → AreGranted t owner qs u → (k : ℕ) (e : Request) → k < length qs → e ≡ get_or qs k e → IsHeld u owner e
each_held t owner [] u same k e lt at = no_index k lt
each_held t owner (q ∷ qs) u (v, none, got, rest) zero e lt at = subst (IsHeld u owner) (sym at) (held_still v owner qs u q rest (granted_held t v owner q none got))
each_held t owner (q ∷ qs) u (v, none, got, rest) (suc k) e lt at = each_held v owner qs u rest k e (omega (arith, lt)) at

-- ---- what an earlier request covers

nobody : (t : Table) (owner : ℕ) (q : Request) → ((o : ℕ) → (o == owner) ≡ false → is_barred_by q.ask (held t o q.resource) ≡ false) → AreHolders t owner q []
unfolding IsStrictlySortedBy
nobody t owner q free = record { rising = tt; each = λ o. go o (o == owner) refl }
  where
    go : (o : ℕ) (b : Bool) → (o == owner) ≡ b → false ≡ (not (o == owner) && is_barred_by q.ask (held t o q.resource))
    go o true e = sym (ap (λ b. not b && is_barred_by q.ask (held t o q.resource)) e)
    go o false e = sym (ap (λ b. not b && is_barred_by q.ask (held t o q.resource)) e ∙ free o e)

held_free : (t : Table) (owner : ℕ) (q : Request) → IsHeld t owner q → AreHolders t owner q [] × IsGranted t owner q t
held_free t owner q is = (nobody t owner q is.free, λ o r. sym (covered_then t owner q is.covers o r))

-- where a request is held, so is what it covers
held_through : (t : Table) (owner : ℕ) (e q : Request) → IsHeld t owner e → e.resource ≡ q.resource → Covers (Some e.ask) q.ask → IsHeld t owner q
held_through t owner e q is same within = record {
  covers = subst (λ r. Covers (held t owner r) q.ask) same (covers_through q.ask e.ask (held t owner e.resource) within is.covers);
  free = λ o off. subst (λ r. is_barred_by q.ask (held t o r) ≡ false) same (covered_free q.ask (Some e.ask) (held t o e.resource) within (is.free o off));
}

-- after these grants nobody bars a request that one of them covers, and its grant changes nothing
pub spared : (t : Table) (owner : ℕ) (earlier : List Request) (u : Table) (q : Request) → AreGranted t owner earlier u → IsCovered earlier q → AreHolders u owner q [] × IsGranted u owner q u
spared t owner earlier u q granted (k, e, lt, at, same, within) = held_free u owner q (held_through u owner e q (each_held t owner earlier u granted k e lt at) same within)
