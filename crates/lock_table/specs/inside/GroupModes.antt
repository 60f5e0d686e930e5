-- Group modes of resources: nothing goes with one that doesn't go with all that is held there.
use Rattle.std.specs.Prelude.{◌≡◌, ℕ, true, false, length, Option, Some, None}
use Rattle.std.specs.BTreeMap.{BTreeMap}
use Rattle.std.specs.BTreeMap as tree
use Rattle.lock_modes.specs.declared.ask.Ask.{Ask}
use Rattle.lock_resources.specs.declared.resource.Resource.{Resource}
use Rattle.lock_table.specs.Asks.{are_compatible, is_barred_by, Covers}
use Rattle.lock_table.specs.Resources.{resource_cmp}
use Rattle.lock_table.specs.inside.Rows.{RowMap, row_at, held_in}

-- what goes with the first mode goes with what is held
abbrev pub IsAbove : Ask → Option Ask → Type 0
IsAbove t h = (a : Ask) → are_compatible a t ≡ true → is_barred_by a h ≡ false

-- the group mode of a resource, if it has one
abbrev pub group_at : BTreeMap Resource Ask → Resource → Option Ask
group_at groups r = tree.get resource_cmp groups r

-- each is above all that is held at its resource
abbrev pub AreGroupModes : BTreeMap Resource Ask → RowMap → Type 0
AreGroupModes groups rows = (r : Resource) (t : Ask) → group_at groups r ≡ Some t → (o : ℕ) → IsAbove t (held_in rows o r)

-- where there is one, it stays one where this mode is held too
abbrev pub IsUnder : Option Ask → Ask → Type 0
IsUnder None a = Unit {0}
IsUnder (Some t) a = IsAbove t (Some a)

-- there is one that has this mode already, and goes with it
abbrev pub LetsIn : Option Ask → Ask → Type 0
LetsIn None a = ⊥
LetsIn (Some t) a = Covers (Some t) a × (are_compatible a t ≡ true)

-- how many owners a row has
abbrev pub owners_in : Option (BTreeMap ℕ Ask) → ℕ
owners_in None = 0
owners_in (Some row) = length row.entries

-- how many owners hold something at the resource
abbrev pub owners_at : RowMap → Resource → ℕ
owners_at rows r = owners_in (row_at rows r)
