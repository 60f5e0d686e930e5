-- What the grants of one owner come to, in the order in which they were given.
use Rattle.std.specs.Prelude.{◌≡◌, ℕ, Bool, not, ◌&&◌, ◌==◌, cond, List, [], ◌∷◌, ◌++◌, Option, Some, None}
use Rattle.std.specs.List.{list_any}
use Rattle.lock_modes.specs.declared.ask.Ask.{Ask}
use Rattle.lock_resources.specs.declared.resource.Resource.{Resource}
use Rattle.lock_resources.specs.declared.request.Request.{Request}
use Rattle.lock_table.specs.Asks.{join_with, are_compatible}
use Rattle.lock_table.specs.Resources.{same_resource}
use Rattle.lock_table.specs.Tables.{Table, held}

-- what is held at the resource after these grants, if this was held before
abbrev pub held_after : Option Ask → List Request → Resource → Option Ask
held_after h [] r = h
held_after h (g ∷ gs) r = held_after (cond (same_resource g.resource r) (Some (join_with g.ask h)) h) gs r

-- the join of the grants at the resource
abbrev pub join_of : List Request → Resource → Option Ask
join_of gs r = held_after None gs r

-- two owners may not both be granted these
abbrev pub clash : Request → Request → Bool
clash q g = same_resource g.resource q.resource && not (are_compatible q.ask g.ask)

-- one of the grants clashes with the request
abbrev pub clashes_with : List Request → Request → Bool
clashes_with gs q = list_any (λ g. clash q g) gs

-- what each owner was granted, in the order in which it was
abbrev pub AllGrants : Type 0
AllGrants = ℕ → List Request

-- the grants of an owner with one more
abbrev pub with_grant : AllGrants → ℕ → Request → AllGrants
with_grant grants owner q o = cond (owner == o) (grants o ++ q ∷ []) (grants o)

-- the grants without those of an owner
abbrev pub without_owner : AllGrants → ℕ → AllGrants
without_owner grants owner o = cond (owner == o) [] (grants o)

-- the table holds for each owner and resource the join of these grants
abbrev pub IsTableOf : Table → AllGrants → Type 0
IsTableOf t grants = (o : ℕ) (r : Resource) → held t o r ≡ join_of (grants o) r
