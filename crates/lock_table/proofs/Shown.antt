-- The table that the buckets stand for tells what they hold.
use Rattle.std.proofs.Common.{◌≡◌, ◌<◌, ℕ, zero, suc, ◌+◌, Bool, true, false, cond, List, [], ◌∷◌, ◌++◌, Some, None, ◌==◌, refl, sym, ap, subst, ◌∙◌, arith}
use Rattle.std.proofs.lemmas.Bool.Decides.{nat_tests}
use Rattle.std.specs.BTreeMap.{BTreeMap, is_at}
use Rattle.std.specs.Map.{lookup}
use Rattle.std.specs.Ordering.{nat_cmp}
use Rattle.std.specs.Cmp.{unsigned_ties}
use Rattle.lock_modes.specs.declared.ask.Ask.{Ask}
use Rattle.lock_resources.specs.declared.resource.Resource.{Resource}
use Rattle.std.specs.List.{slice_get}
use Rattle.lock_table.specs.inside.Buckets.{Bucket, in_row}
use Rattle.lock_table.specs.inside.Rows.{RowMap, bucket_of, row_in, held_in, rows_in, table_from, table_of}
use Rattle.lock_table.specs.Resources.{resource_cmp, same_resource}
use Rattle.lock_table.specs.Tables.{Table, for_owner, held}
use Rattle.lock_table.proofs.Maps.{same_turned}
use Rattle.lock_table.proofs.Lifted.{apart, is_self}

none_some : {A : Type 0} {X : Type 0} {x : X} → None ≡ Some x → A
none_some e = grind (arith, e)

at_key : (q k : ℕ) → (k == q) ≡ is_at (nat_cmp q) k
at_key q k = grind (arith, nat_tests, unsigned_ties q k)

in_list : (o : ℕ) (row : List (ℕ × Ask)) → lookup (λ k. k == o) row ≡ lookup (is_at (nat_cmp o)) row
in_list o [] = refl
in_list o (e ∷ es) = ap (λ b. cond b (Some e.1) (lookup (λ k. k == o) es)) (at_key o e.0) ∙ ap (cond (is_at (nat_cmp o) e.0) (Some e.1)) (in_list o es)

turned : (i j : ℕ) → (i == j) ≡ false → (j == i) ≡ false
turned i j e = grind (arith, nat_tests, e)

below : (i j : ℕ) → i < j → (i == j) ≡ false
below i j l = grind (arith, nat_tests, l)

above : (i j : ℕ) → j < i → (i == j) ≡ false
above i j l = grind (arith, nat_tests, l)

after_none : {K X : Type 0} → (p : K → Bool) (xs ys : List (K × X)) → lookup p xs ≡ None → lookup p (xs ++ ys) ≡ lookup p ys
after_none p [] ys none = refl
after_none {X = X} p (x ∷ xs) ys none = go (p x.0) none (after_none p xs ys)
  where
    go : (b : Bool) → cond b (Some x.1) (lookup p xs) ≡ None → (lookup p xs ≡ None → lookup p (xs ++ ys) ≡ lookup p ys) → cond b (Some x.1) (lookup p (xs ++ ys)) ≡ lookup p ys
    go true e rest = none_some (sym e)
    go false e rest = rest e

before_none : {K X : Type 0} → (p : K → Bool) (xs ys : List (K × X)) → lookup p ys ≡ None → lookup p (xs ++ ys) ≡ lookup p xs
before_none p [] ys none = none
before_none p (x ∷ xs) ys none = ap (cond (p x.0) (Some x.1)) (before_none p xs ys none)

bucket_or_not : (q r : Resource) (i : ℕ) → (bucket_of q == i) ≡ true → (bucket_of r == i) ≡ false → same_resource q r ≡ false
bucket_or_not q r i on off = apart q r (subst (λ j. (j == bucket_of r) ≡ false) (sym (is_self (bucket_of q) i on)) (turned (bucket_of r) i off))

-- a bucket has no row of a resource that belongs into another
none_in : (i : ℕ) (r : Resource) (es : List (Resource × BTreeMap ℕ Ask)) → (bucket_of r == i) ≡ false → lookup (λ q. same_resource q r) (rows_in i es) ≡ None
none_in i r [] off = refl
none_in i r (e ∷ es) off = go (bucket_of e.0 == i) refl (none_in i r es off)
  where
    go : (b : Bool) → (bucket_of e.0 == i) ≡ b → lookup (λ q. same_resource q r) (rows_in i es) ≡ None
        → lookup (λ q. same_resource q r) (cond b ((e.0, e.1.entries) ∷ rows_in i es) (rows_in i es)) ≡ None
    go false e rest = rest
    go true on rest = ap (λ b. cond b (Some e.1.entries) (lookup (λ q. same_resource q r) (rows_in i es))) (bucket_or_not e.0 r i on off) ∙ rest

none_from : (i : ℕ) (r : Resource) (bs : List Bucket) → bucket_of r < i → lookup (λ q. same_resource q r) (table_from i bs) ≡ None
none_from i r [] l = refl
none_from i r (b ∷ bs) l =
    after_none (λ q. same_resource q r) (rows_in i b.entries) (table_from (suc i) bs) (none_in i r b.entries (below (bucket_of r) i l))
    ∙ none_from (suc i) r bs (omega arith)

-- its own bucket has what is there
in_rows : (o : ℕ) (r : Resource) (es : List (Resource × BTreeMap ℕ Ask))
    → for_owner (lookup (λ q. same_resource q r) (rows_in (bucket_of r) es)) o ≡ in_row (lookup (is_at (resource_cmp r)) es) o
in_rows o r [] = refl
in_rows o r (e ∷ es) = go (bucket_of e.0 == bucket_of r) refl (in_rows o r es)
  where
    step : (a b : Bool) → a ≡ b → for_owner (lookup (λ q. same_resource q r) (rows_in (bucket_of r) es)) o ≡ in_row (lookup (is_at (resource_cmp r)) es) o
        → for_owner (cond a (Some e.1.entries) (lookup (λ q. same_resource q r) (rows_in (bucket_of r) es))) o ≡ in_row (cond b (Some e.1) (lookup (is_at (resource_cmp r)) es)) o
    step true true same rest = in_list o e.1.entries
    step false false same rest = rest
    step true false same rest = grind (arith, same)
    step false true same rest = grind (arith, same)

    go : (b : Bool) → (bucket_of e.0 == bucket_of r) ≡ b → for_owner (lookup (λ q. same_resource q r) (rows_in (bucket_of r) es)) o ≡ in_row (lookup (is_at (resource_cmp r)) es) o
        → for_owner (lookup (λ q. same_resource q r) (cond b ((e.0, e.1.entries) ∷ rows_in (bucket_of r) es) (rows_in (bucket_of r) es))) o
        ≡ in_row (cond (same_resource r e.0) (Some e.1) (lookup (is_at (resource_cmp r)) es)) o
    go true on rest = step (same_resource e.0 r) (same_resource r e.0) (same_turned e.0 r) rest
    go false off rest = rest ∙ sym (ap (λ b. in_row (cond b (Some e.1) (lookup (is_at (resource_cmp r)) es)) o) (same_turned r e.0 ∙ apart e.0 r off))

-- the rows of the buckets from the i-th on, where the resource belongs into the n-th of these
in_buckets : (o i n : ℕ) (r : Resource) (bs : List Bucket) → bucket_of r ≡ i + n
    → for_owner (lookup (λ q. same_resource q r) (table_from i bs)) o ≡ in_row (row_in (slice_get bs n) r) o
in_buckets o i n r [] is = refl
in_buckets o i zero r (b ∷ bs) is =
    ap (λ x. for_owner x o) (before_none (λ q. same_resource q r) (rows_in i b.entries) (table_from (suc i) bs) (none_from (suc i) r bs (omega arith)))
    ∙ subst (λ j. for_owner (lookup (λ q. same_resource q r) (rows_in j b.entries)) o ≡ in_row (lookup (is_at (resource_cmp r)) b.entries) o) (omega arith) (in_rows o r b.entries)
in_buckets o i (suc n) r (b ∷ bs) is =
    ap (λ x. for_owner x o) (after_none (λ q. same_resource q r) (rows_in i b.entries) (table_from (suc i) bs) (none_in i r b.entries (above (bucket_of r) i (omega arith))))
    ∙ in_buckets o (suc i) n r bs (omega arith)

pub shown : (rows : RowMap) (o : ℕ) (r : Resource) → held (table_of rows) o r ≡ held_in rows o r
shown rows o r = in_buckets o 0 (bucket_of r) r rows.items (omega arith)

-- the same of the table that a lock table stands for
pub shown_as : (rows : RowMap) (t : Table) → table_of rows ≡ t → (o : ℕ) (r : Resource) → held t o r ≡ held_in rows o r
shown_as rows t is o r = ap (λ x. held x o r) (sym is) ∙ shown rows o r
