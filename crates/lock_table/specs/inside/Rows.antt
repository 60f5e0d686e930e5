-- The rows in their buckets, read at a resource and an owner, and the list of the resources of each owner.
use Rattle.std.specs.Prelude.{◌≡◌, ℕ, suc, Bool, false, ◌||◌, ◌&&◌, ◌==◌, ◌*◌, ◌+◌, ◌%◌, cond, List, [], ◌∷◌, ◌++◌, Option, Some, None, IsSome, IsTrue}
use Rattle.std.specs.Global.{Vec}
use Rattle.std.specs.List.{slice_get}
use Rattle.std.specs.Ordering.{nat_cmp}
use Rattle.std.specs.BTreeMap.{BTreeMap}
use Rattle.std.specs.BTreeMap as tree
use Rattle.lock_modes.specs.declared.ask.Ask.{Ask}
use Rattle.lock_resources.specs.declared.resource.Resource.{Resource}
use Rattle.lock_resources.specs.Resources.{label_of}
use Rattle.lock_table.specs.Asks.{is_barred}
use Rattle.lock_table.specs.Resources.{same_resource}
use Rattle.lock_table.specs.Tables.{Table}
use Rattle.lock_table.specs.inside.Buckets.{Bucket, row_there, in_row}

-- the buckets, in the order of their numbers
abbrev pub RowMap : Type 0
RowMap = Vec Bucket

-- what the divisions of a label come to, one after the other, behind such a number
abbrev pub mixed_from : ℕ → List ℕ → ℕ
mixed_from n [] = n
mixed_from n (d ∷ ds) = mixed_from ((n * 37 + d) % 4093) ds

-- the number of a resource's bucket
abbrev pub bucket_of : Resource → ℕ
bucket_of r = mixed_from 0 (label_of r)

-- the row of a resource in a bucket that may be missing
abbrev pub row_in : Option Bucket → Resource → Option (BTreeMap ℕ Ask)
row_in None r = None
row_in (Some bucket) r = row_there bucket r

-- the row of a resource, if it has one
abbrev pub row_at : RowMap → Resource → Option (BTreeMap ℕ Ask)
row_at rows r = row_in (slice_get rows.items (bucket_of r)) r

-- what the owner holds at the resource
abbrev pub held_in : RowMap → ℕ → Resource → Option Ask
held_in rows o r = in_row (row_at rows r) o

-- the owner holds this at the resource now; all else is held as it was
abbrev pub HoldsInstead : RowMap → ℕ → Resource → Option Ask → RowMap → Type 0
HoldsInstead old owner resource now new =
    (o : ℕ) (r : Resource) → held_in new o r ≡ cond ((owner == o) && same_resource resource r) now (held_in old o r)

-- whether a resource is in a list
abbrev pub is_listed : Resource → List Resource → Bool
is_listed r [] = false
is_listed r (q ∷ qs) = same_resource q r || is_listed r qs

-- a list that may be missing
abbrev pub listed : Option (List Resource) → List Resource
listed None = []
listed (Some rs) = rs

-- the resources that are listed for an owner
abbrev pub owned_by : BTreeMap ℕ (List Resource) → ℕ → List Resource
owned_by owned o = listed (tree.get nat_cmp owned o)

-- where an owner holds something, that resource is listed for it
abbrev pub AreListed : RowMap → BTreeMap ℕ (List Resource) → Type 0
AreListed rows owned = (o : ℕ) (r : Resource) → IsSome (held_in rows o r) → IsTrue (is_listed r (owned_by owned o))

-- no owner bars what another one holds
abbrev pub AreTogether : RowMap → Type 0
AreTogether rows = (o p : ℕ) (r : Resource) → (p == o) ≡ false → is_barred (held_in rows o r) (held_in rows p r) ≡ false

-- what a table keeps: each resource of an owner is listed for it, and owners hold what goes together
pub record IsKept (rows : RowMap) (owned : BTreeMap ℕ (List Resource)) : Type 0 where
  pub listed : AreListed rows owned
  pub together : AreTogether rows

-- those rows of a bucket that belong into the bucket of this number
abbrev pub rows_in : ℕ → List (Resource × BTreeMap ℕ Ask) → Table
rows_in i [] = []
rows_in i (e ∷ es) = cond (bucket_of e.0 == i) ((e.0, e.1.entries) ∷ rows_in i es) (rows_in i es)

-- the rows of buckets, the first of which has this number
abbrev pub table_from : ℕ → List Bucket → Table
table_from i [] = []
table_from i (b ∷ bs) = rows_in i b.entries ++ table_from (suc i) bs

-- the table that the buckets stand for
abbrev pub table_of : RowMap → Table
table_of rows = table_from 0 rows.items
