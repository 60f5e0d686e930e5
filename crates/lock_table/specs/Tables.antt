-- Who holds which mode at which resource, and who bars a request (docs/PROFILE.md, "Holding and waiting").
use Rattle.std.specs.Prelude.{◌≡◌, ◌≢◌, ℕ, Bool, not, ◌&&◌, ◌==◌, cond, List, [], Option, Some, None}
use Rattle.std.specs.Map.{lookup}
use Rattle.std.specs.Ordering.{nat_cmp}
use Rattle.std.specs.List.{list_any}
use Rattle.std.specs.List.Sorted.{IsStrictlySortedBy}
use Rattle.lock_modes.specs.declared.ask.Ask.{Ask}
use Rattle.lock_resources.specs.declared.resource.Resource.{Resource}
use Rattle.lock_resources.specs.declared.request.Request.{Request}
use Rattle.lock_table.specs.declared.table.Asked.{Asked}
use Rattle.lock_table.specs.declared.table.Asked.TheVariants.{Granted, Conflict}
use Rattle.lock_table.specs.Asks.{join_with, is_barred_by}
use Rattle.lock_table.specs.Resources.{same_resource}

-- for each resource, in any order, the owners with the modes that they hold there, ascending
abbrev pub Table : Type 0
Table = List (Resource × List (ℕ × Ask))

-- what a row has for an owner
abbrev pub for_owner : Option (List (ℕ × Ask)) → ℕ → Option Ask
for_owner None o = None
for_owner (Some row) o = lookup (λ k. k == o) row

-- what the owner holds at the resource
abbrev pub held : Table → ℕ → Resource → Option Ask
held t o r = for_owner (lookup (λ q. same_resource q r) t) o

-- whether owner o, being another one, bars what the owner asks
abbrev pub bars : Table → ℕ → Request → ℕ → Bool
bars t owner q o = not (o == owner) && is_barred_by q.ask (held t o q.resource)

-- all owners that bar it, ascending
pub record AreHolders (t : Table) (owner : ℕ) (q : Request) (hs : List ℕ) : Type 0 where
  pub rising : IsStrictlySortedBy nat_cmp hs
  pub each : (o : ℕ) → list_any (λ h. h == o) hs ≡ bars t owner q o

-- what is held at a resource after a grant
abbrev pub held_then : Table → ℕ → Request → ℕ → Resource → Option Ask
held_then t owner q o r = cond ((owner == o) && same_resource q.resource r) (Some (join_with q.ask (held t owner q.resource))) (held t o r)

-- the owner holds the join of what it held and of this, and all else is held as before
abbrev pub IsGranted : Table → ℕ → Request → Table → Type 0
IsGranted t owner q u = (o : ℕ) (r : Resource) → held u o r ≡ held_then t owner q o r

-- all is held as before
abbrev pub IsSame : Table → Table → Type 0
IsSame t u = (o : ℕ) (r : Resource) → held u o r ≡ held t o r

-- the owner holds nothing, and all else is held as before
abbrev pub IsReleased : Table → ℕ → Table → Type 0
IsReleased t owner u = (o : ℕ) (r : Resource) → held u o r ≡ cond (owner == o) None (held t o r)

-- what is answered, and the table then
abbrev pub Answers : Table → ℕ → Request → Table → Asked → Type 0
Answers t owner q u Granted = AreHolders t owner q [] × IsGranted t owner q u
Answers t owner q u (Conflict hs) = AreHolders t owner q hs × (hs ≢ []) × IsSame t u
