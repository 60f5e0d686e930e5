-- What an owner asks again for, and what a table says of owners' modes.
use Rattle.std.proofs.Common.{◌≡◌, ℕ, Bool, true, false, cond, not, ◌&&◌, [], Some, ◌==◌, refl, sym, ap, ap₂, ◌∙◌, arith}
use Rattle.std.proofs.lemmas.Bool.Decides.{nat_tests}
use Rattle.std.specs.List.Sorted.{IsStrictlySortedBy}
use Rattle.lock_resources.specs.declared.resource.Resource.{Resource}
use Rattle.lock_resources.specs.declared.request.Request.{Request}
use Rattle.lock_table.specs.Asks.{join_with, is_barred_by, is_barred, Covers}
use Rattle.lock_table.specs.Resources.{same_resource}
use Rattle.lock_table.specs.Tables.{Table, held, AreHolders, IsGranted}
use Rattle.lock_table.specs.inside.Rows.{RowMap, table_of, AreTogether}
use Rattle.lock_table.proofs.Maps.{exact_resources}
use Rattle.lock_table.proofs.Shown.{shown_as}
use Rattle.lock_table.proofs.Together.{covered_free}

-- owners of a table hold what goes together
pub together_held : (rows : RowMap) (t : Table) → table_of rows ≡ t → AreTogether rows
    → (o p : ℕ) (r : Resource) → (p == o) ≡ false → is_barred (held t o r) (held t p r) ≡ false
together_held rows t is all o p r apart = ap₂ is_barred (shown_as rows t is o r) (shown_as rows t is p r) ∙ all o p r apart

-- nobody bars what the owner has already
pub covered_nobody : (t : Table) (owner : ℕ) (q : Request) → Covers (held t owner q.resource) q.ask
    → ((o : ℕ) → (o == owner) ≡ false → is_barred (held t owner q.resource) (held t o q.resource) ≡ false) → AreHolders t owner q []
unfolding IsStrictlySortedBy
covered_nobody t owner q covers all = record {
  rising = tt;
  each = λ o. go o (o == owner) refl;
}
  where
    go : (o : ℕ) (b : Bool) → (o == owner) ≡ b → false ≡ (not (o == owner) && is_barred_by q.ask (held t o q.resource))
    go o true e = sym (ap (λ b. not b && is_barred_by q.ask (held t o q.resource)) e)
    go o false e = sym (ap (λ b. not b && is_barred_by q.ask (held t o q.resource)) e ∙ covered_free q.ask (held t owner q.resource) (held t o q.resource) covers (all o e))

and_both : (a b : Bool) → (a && b) ≡ true → (a ≡ true) × (b ≡ true)
and_both true b e = (refl, e)
and_both false b e = grind (arith, e)

is_self : (o p : ℕ) → (o == p) ≡ true → o ≡ p
is_self o p e = grind (arith, nat_tests, e)

-- a grant of what the owner has already changes nothing
pub covered_granted : (t : Table) (owner : ℕ) (q : Request) → Covers (held t owner q.resource) q.ask → IsGranted t owner q t
covered_granted t owner q covers o r = go ((owner == o) && same_resource q.resource r) refl
  where
    go : (b : Bool) → ((owner == o) && same_resource q.resource r) ≡ b
        → held t o r ≡ cond ((owner == o) && same_resource q.resource r) (Some (join_with q.ask (held t owner q.resource))) (held t o r)
    go true e = ap (held t o) (sym (exact_resources q.resource r (and_both _ _ e).1)) ∙ ap (λ p. held t p q.resource) (sym (is_self owner o (and_both _ _ e).0)) ∙ covers
        ∙ sym (ap (λ b. cond b (Some (join_with q.ask (held t owner q.resource))) (held t o r)) e)
    go false e = sym (ap (λ b. cond b (Some (join_with q.ask (held t owner q.resource))) (held t o r)) e)

-- where nobody bars a request, what each other owner holds goes with it
pub free_of : (t : Table) (owner : ℕ) (q : Request) → AreHolders t owner q [] → (p : ℕ) → (p == owner) ≡ false → is_barred_by q.ask (held t p q.resource) ≡ false
free_of t owner q free p off = sym (free.each p ∙ ap (λ b. not b && is_barred_by q.ask (held t p q.resource)) off)
