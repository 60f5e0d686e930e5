-- What is done in one bucket is done in the rows.
use Rattle.std.proofs.Common.{◌≡◌, ◌<◌, ◌≤◌, ℕ, suc, zero, Bool, true, false, cond, ◌&&◌, List, [], ◌∷◌, ◌++◌, length, get_or, slice_set, Option, Some, None, ◌==◌, refl, sym, ap, subst, ◌∙◌, arith}
use Rattle.std.proofs.lemmas.Bool.Decides.{nat_tests}
use Rattle.std.proofs.lemmas.Option.{slice_get_read, slice_get_past}
use Rattle.std.specs.List.{slice_get}
use Rattle.std.specs.BTreeMap.{IsEmpty, is_at}
use Rattle.std.specs.Map.{lookup}
use Rattle.std.specs.Vec.{with_item}
use Rattle.lock_modes.specs.declared.ask.Ask.{Ask}
use Rattle.lock_resources.specs.declared.resource.Resource.{Resource}
use Rattle.lock_table.specs.inside.Buckets.{Bucket, row_there, in_row, held_there, HoldsThere}
use Rattle.lock_table.specs.inside.Rows.{RowMap, bucket_of, row_in, row_at, held_in, HoldsInstead}
use Rattle.lock_table.specs.Resources.{resource_cmp, same_resource}
use Rattle.lock_table.proofs.Maps.{exact_resources, and_false}

get_set_same : {X : Type 0} → (xs : List X) (i : ℕ) (x : X) → i < length xs → slice_get (slice_set xs i x) i ≡ Some x
get_set_same [] i x l = grind (arith, l)
get_set_same (y ∷ ys) zero x l = refl
get_set_same (y ∷ ys) (suc i) x l = get_set_same ys i x (omega arith)

less_one : (i j : ℕ) → (suc i == suc j) ≡ false → (i == j) ≡ false
less_one i j off = grind (arith, nat_tests, off)

get_set_other : {X : Type 0} → (xs : List X) (i j : ℕ) (x : X) → (i == j) ≡ false → slice_get (slice_set xs i x) j ≡ slice_get xs j
get_set_other [] i j x off = refl
get_set_other (y ∷ ys) zero zero x off = grind (arith, off)
get_set_other (y ∷ ys) zero (suc j) x off = refl
get_set_other (y ∷ ys) (suc i) zero x off = refl
get_set_other (y ∷ ys) (suc i) (suc j) x off = get_set_other ys i j x (less_one i j off)

pub is_self : (i j : ℕ) → (i == j) ≡ true → i ≡ j
is_self i j e = grind (arith, nat_tests, e)

self_is : (i : ℕ) → (i == i) ≡ true
self_is i = grind (arith, nat_tests)

no_way : {A : Type 0} → true ≡ false → A
no_way e = grind (arith, e)

-- resources in different buckets are different
pub apart : (k q : Resource) → (bucket_of k == bucket_of q) ≡ false → same_resource k q ≡ false
apart k q off = go (same_resource k q) refl
  where
    go : (b : Bool) → same_resource k q ≡ b → same_resource k q ≡ false
    go false e = e
    go true e = no_way (sym (self_is (bucket_of k)) ∙ ap (λ r. bucket_of k == bucket_of r) (exact_resources k q e) ∙ off)

-- the rows are those with another bucket at the number of the resource
abbrev pub Replaced : RowMap → Resource → Bucket → RowMap → Type 0
Replaced rows k new then = then.items ≡ slice_set rows.items (bucket_of k) new

row_here : (rows then : RowMap) (k q : Resource) (new : Bucket) → bucket_of k < length rows.items → Replaced rows k new then
    → (bucket_of k == bucket_of q) ≡ true → row_at then q ≡ row_there new q
row_here rows then k q new l is on =
    ap (λ xs. row_in (slice_get xs (bucket_of q)) q) is
    ∙ ap (λ i. row_in (slice_get (slice_set rows.items (bucket_of k) new) i) q) (sym (is_self (bucket_of k) (bucket_of q) on))
    ∙ ap (λ b. row_in b q) (get_set_same rows.items (bucket_of k) new l)

row_elsewhere : (rows then : RowMap) (k q : Resource) (new : Bucket) → Replaced rows k new then
    → (bucket_of k == bucket_of q) ≡ false → row_at then q ≡ row_at rows q
row_elsewhere rows then k q new is off =
    ap (λ xs. row_in (slice_get xs (bucket_of q)) q) is ∙ ap (λ b. row_in b q) (get_set_other rows.items (bucket_of k) (bucket_of q) new off)

-- the row of a resource whose bucket this is
pub row_of_bucket : (rows : RowMap) (k q : Resource) (old : Bucket) → bucket_of k < length rows.items → old ≡ get_or rows.items (bucket_of k) old
    → (bucket_of k == bucket_of q) ≡ true → row_at rows q ≡ row_there old q
row_of_bucket rows k q old l read on =
    ap (λ i. row_in (slice_get rows.items i) q) (sym (is_self (bucket_of k) (bucket_of q) on))
    ∙ ap (λ b. row_in b q) (slice_get_read rows.items (length rows.items) (bucket_of k) old refl l read)

-- what is written in the bucket is written in the rows
pub lifted : (rows then : RowMap) (k : Resource) (old new : Bucket) (owner : ℕ) (w : Option Ask) → bucket_of k < length rows.items
    → old ≡ get_or rows.items (bucket_of k) old → Replaced rows k new then → HoldsThere old owner k w new → HoldsInstead rows owner k w then
lifted rows then k old new owner w l read is there o q = go (bucket_of k == bucket_of q) refl
  where
    go : (b : Bool) → (bucket_of k == bucket_of q) ≡ b → held_in then o q ≡ cond ((owner == o) && same_resource k q) w (held_in rows o q)
    go true on =
        ap (λ r. in_row r o) (row_here rows then k q new l is on) ∙ there o q
        ∙ ap (λ r. cond ((owner == o) && same_resource k q) w (in_row r o)) (sym (row_of_bucket rows k q old l read on))
    go false off =
        ap (λ r. in_row r o) (row_elsewhere rows then k q new is off)
        ∙ sym (ap (λ b. cond ((owner == o) && b) w (held_in rows o q)) (apart k q off) ∙ ap (λ b. cond b w (held_in rows o q)) (and_false (owner == o)))

-- what stays as it is in the bucket stays so in the rows
pub lifted_same : (rows then : RowMap) (k : Resource) (old new : Bucket) → bucket_of k < length rows.items → old ≡ get_or rows.items (bucket_of k) old
    → Replaced rows k new then → ((o : ℕ) (r : Resource) → held_there new o r ≡ held_there old o r) → (o : ℕ) (r : Resource) → held_in then o r ≡ held_in rows o r
lifted_same rows then k old new l read is there o q = go (bucket_of k == bucket_of q) refl
  where
    go : (b : Bool) → (bucket_of k == bucket_of q) ≡ b → held_in then o q ≡ held_in rows o q
    go true on = ap (λ r. in_row r o) (row_here rows then k q new l is on) ∙ there o q ∙ ap (λ r. in_row r o) (sym (row_of_bucket rows k q old l read on))
    go false off = ap (λ r. in_row r o) (row_elsewhere rows then k q new is off)

-- what is held at the resource is held in its bucket
pub held_of_bucket : (rows : RowMap) (k : Resource) (old : Bucket) (o : ℕ) → bucket_of k < length rows.items → old ≡ get_or rows.items (bucket_of k) old
    → held_in rows o k ≡ held_there old o k
held_of_bucket rows k old o l read = ap (λ r. in_row r o) (row_of_bucket rows k k old l read (self_is (bucket_of k)))

pub held_then : (rows then : RowMap) (k : Resource) (new : Bucket) (o : ℕ) → bucket_of k < length rows.items → Replaced rows k new then → held_in then o k ≡ held_there new o k
held_then rows then k new o l is = ap (λ r. in_row r o) (row_here rows then k k new l is (self_is (bucket_of k)))

-- ---- by the number of the bucket

-- a resource whose bucket is missing is nobody's
pub missing : (rows : RowMap) (k : Resource) (i owner : ℕ) → i ≡ bucket_of k → length rows.items ≤ i → HoldsInstead rows owner k None rows
missing rows k i owner is past o q = go (same_resource k q) refl
  where
    none : row_at rows k ≡ None
    none = ap (λ b. row_in b k) (slice_get_past rows.items (bucket_of k) (subst (λ j. length rows.items ≤ j) is past))

    none_after : (b : Bool) (h : Option Ask) → h ≡ None → h ≡ cond b None h
    none_after true h e = e
    none_after false h e = refl

    go : (b : Bool) → same_resource k q ≡ b → held_in rows o q ≡ cond ((owner == o) && same_resource k q) None (held_in rows o q)
    go true e = none_after ((owner == o) && same_resource k q) (held_in rows o q) (ap (held_in rows o) (sym (exact_resources k q e)) ∙ ap (λ r. in_row r o) none)
    go false e = sym (ap (λ b. cond ((owner == o) && b) None (held_in rows o q)) e ∙ ap (λ b. cond b None (held_in rows o q)) (and_false (owner == o)))

pub lifted_at : (rows : RowMap) (k : Resource) (i : ℕ) (old new : Bucket) (owner : ℕ) (w : Option Ask) → i ≡ bucket_of k → i < length rows.items
    → old ≡ get_or rows.items i old → HoldsThere old owner k w new → HoldsInstead rows owner k w (with_item rows i new)
lifted_at rows k i old new owner w is l read there =
    lifted rows (with_item rows i new) k old new owner w (subst (λ j. j < length rows.items) is l) (subst (λ j. old ≡ get_or rows.items j old) is read)
    (ap (λ j. slice_set rows.items j new) is) there

pub lifted_same_at : (rows : RowMap) (k : Resource) (i : ℕ) (old new : Bucket) → i ≡ bucket_of k → i < length rows.items
    → old ≡ get_or rows.items i old → ((o : ℕ) (r : Resource) → held_there new o r ≡ held_there old o r) → (o : ℕ) (r : Resource) → held_in (with_item rows i new) o r ≡ held_in rows o r
lifted_same_at rows k i old new is l read there =
    lifted_same rows (with_item rows i new) k old new (subst (λ j. j < length rows.items) is l) (subst (λ j. old ≡ get_or rows.items j old) is read)
    (ap (λ j. slice_set rows.items j new) is) there

pub held_at : (rows : RowMap) (k : Resource) (i : ℕ) (old : Bucket) (o : ℕ) → i ≡ bucket_of k → i < length rows.items → old ≡ get_or rows.items i old → held_in rows o k ≡ held_there old o k
held_at rows k i old o is l read = held_of_bucket rows k old o (subst (λ j. j < length rows.items) is l) (subst (λ j. old ≡ get_or rows.items j old) is read)

pub held_then_at : (rows : RowMap) (k : Resource) (i : ℕ) (new : Bucket) (o : ℕ) → i ≡ bucket_of k → i < length rows.items → held_in (with_item rows i new) o k ≡ held_there new o k
held_then_at rows k i new o is l = held_then rows (with_item rows i new) k new o (subst (λ j. j < length rows.items) is l) (ap (λ j. slice_set rows.items j new) is)

-- ---- empty buckets

none_there : (b : Bucket) → IsEmpty b → (r : Resource) → row_there b r ≡ None
none_there b empty r = ap (lookup (is_at (resource_cmp r))) empty

one_more : (xs : List Bucket) (b : Bucket) (j : ℕ) (r : Resource) → IsEmpty b → row_in (slice_get (xs ++ b ∷ []) j) r ≡ row_in (slice_get xs j) r
one_more [] b zero r empty = none_there b empty r
one_more [] b (suc j) r empty = refl
one_more (x ∷ xs) b zero r empty = refl
one_more (x ∷ xs) b (suc j) r empty = one_more xs b j r empty

-- an empty bucket more has no row
pub pushed : (rows then : RowMap) (b : Bucket) (r : Resource) → IsEmpty b → then.items ≡ rows.items ++ b ∷ [] → row_at then r ≡ row_at rows r
pushed rows then b r empty is = ap (λ xs. row_in (slice_get xs (bucket_of r)) r) is ∙ one_more rows.items b (bucket_of r) r empty

-- the same where the push may have failed
pub pushed_if : (ok : Bool) (rows then : RowMap) (b : Bucket) (r : Resource) → IsEmpty b → then.items ≡ cond ok (rows.items ++ b ∷ []) rows.items → row_at then r ≡ row_at rows r
pushed_if true rows then b r empty is = pushed rows then b r empty is
pushed_if false rows then b r empty is = ap (λ xs. row_in (slice_get xs (bucket_of r)) r) is

-- what is written after rows of which each has stayed as it was
pub written_after : (rows mid then : RowMap) (k : Resource) (owner : ℕ) (w : Option Ask) → ((r : Resource) → row_at mid r ≡ row_at rows r) → HoldsInstead mid owner k w then → HoldsInstead rows owner k w then
written_after rows mid then k owner w same is o q = is o q ∙ ap (λ r. cond ((owner == o) && same_resource k q) w (in_row r o)) (same q)

pub same_after : (rows mid then : RowMap) → ((r : Resource) → row_at mid r ≡ row_at rows r) → ((o : ℕ) (r : Resource) → held_in then o r ≡ held_in mid o r)
    → (o : ℕ) (r : Resource) → held_in then o r ≡ held_in rows o r
same_after rows mid then same is o q = is o q ∙ ap (λ r. in_row r o) (same q)
