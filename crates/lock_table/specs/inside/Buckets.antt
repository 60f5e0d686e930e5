-- A bucket: a map of maps, read at a resource and an owner.
use Rattle.std.specs.Prelude.{◌≡◌, ℕ, ◌&&◌, ◌==◌, cond, Option, Some, None}
use Rattle.std.specs.Ordering.{nat_cmp}
use Rattle.std.specs.BTreeMap.{BTreeMap}
use Rattle.std.specs.BTreeMap as tree
use Rattle.lock_modes.specs.declared.ask.Ask.{Ask}
use Rattle.lock_resources.specs.declared.resource.Resource.{Resource}
use Rattle.lock_table.specs.Resources.{resource_cmp, same_resource}

-- for some resources the owners there with their modes
abbrev pub Bucket : Type 0
Bucket = BTreeMap Resource (BTreeMap ℕ Ask)

-- the row of a resource there, if it has one
abbrev pub row_there : Bucket → Resource → Option (BTreeMap ℕ Ask)
row_there bucket r = tree.get resource_cmp bucket r

-- what a row has for an owner
abbrev pub in_row : Option (BTreeMap ℕ Ask) → ℕ → Option Ask
in_row None o = None
in_row (Some row) o = tree.get nat_cmp row o

-- what the owner holds at the resource there
abbrev pub held_there : Bucket → ℕ → Resource → Option Ask
held_there bucket o r = in_row (row_there bucket r) o

-- the owner holds this at the resource there now; all else is held as it was
abbrev pub HoldsThere : Bucket → ℕ → Resource → Option Ask → Bucket → Type 0
HoldsThere old owner resource now new =
    (o : ℕ) (r : Resource) → held_there new o r ≡ cond ((owner == o) && same_resource resource r) now (held_there old o r)
