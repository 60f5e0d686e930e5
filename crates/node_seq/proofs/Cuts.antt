-- Where a key stands in a sorted list of entries, and what the reads and changes of the map are there.
use Rattle.std.proofs.Common.{◌≡◌, ℕ, zero, suc, ◌+◌, ◌<◌, ◌≤◌, cond, List, [], ◌∷◌, ◌++◌, length, take, drop, get_or, set, insert, remove, slice_get, Option, Some, None, Result, Ok, Err, MatchResult, Ordering, Less, Equal, Greater, is_lt, refl, sym, ap, subst, ◌∙◌, arith, add-one, option_copied}
use Rattle.std.proofs.lemmas.List.{take-append-drop}
use Rattle.std.proofs.Common.{Bor, ltb-true, ltb-false}
use Rattle.std.proofs.lemmas.Option.{slice_get_past}
use Rattle.std.specs.Slice.{IsItemAt}
use Rattle.std.proofs.lemmas.Fn.{always_returns_same}
use Rattle.std.specs.Fn.{Mut, Called, ComputesKey}
use Rattle.std.specs.Cmp.{alike_right}
use Rattle.std.specs.List.{AllByRecursion}
use Rattle.std.specs.List.Sorted.{IsNonDecreasingBy, IsPartitionPoint, IsSearchInRange, IsBinarySearchResult}
use Rattle.std.specs.Ordering.{ordering_index}
use Rattle.tree_model.specs.declared.key.Key.{Key}
use Rattle.tree_model.specs.declared.record.Record.{Record}
use Rattle.tree_model.specs.Keys.{key_cmp}
use Rattle.tree_model.specs.Entries.{Entries, Above, Below, Sorted, get, first_above, last_below, put, del}
use Rattle.std.specs.Option.{option_or}
use Rattle.tree_model.proofs.Keys.{key_total, key_itself, key_turned_back, key_tied}
use Rattle.tree_model.proofs.Entries.{NotBelow, above_not_below, head_of, last_of, first_above_past, first_above_head, last_below_past, last_below_last, get_past, get_none, get_here, first_above_above, last_below_below, put_past, put_here, put_new, del_past, del_here, del_none, sorted_below, sorted_behind}
use Rattle.tree_model.proofs.Lists.{all_on}
use Rattle.node_seq.specs.Reads.{LiesAbove, LiesBelow}
use Rattle.node_seq.specs.inside.Seqs.{StandsAt, BelongsAt, before}

-- ---- facts by index and facts by recursion

module _ {A : Type 0} where
  at_index : (P : A → Type 0) (xs : List A) (i : ℕ) (d : A) → i < length xs → AllByRecursion P xs → P (get_or xs i d)
  at_index P [] i d l h = absurd (omega arith)
  at_index P (x ∷ xs) zero d l h = h.0
  at_index P (x ∷ xs) (suc i) d l h = at_index P xs i d (omega arith) h.1

  all_taken : (P : A → Type 0) (xs : List A) (n : ℕ) → n ≤ length xs → ((k : ℕ) (d : A) → 0 ≤ k → k < n → P (get_or xs k d)) → AllByRecursion P (take n xs)
  all_taken P xs zero l h = tt
  all_taken P [] (suc n) l h = tt
  all_taken P (x ∷ xs) (suc n) l h = (h 0 x (omega arith) (omega arith), all_taken P xs n (omega arith) (λ k d _ m. h (suc k) d (omega arith) (omega arith)))

  all_dropped : (P : A → Type 0) (xs : List A) (n : ℕ) → ((k : ℕ) (d : A) → n ≤ k → k < length xs → P (get_or xs k d)) → AllByRecursion P (drop n xs)
  all_dropped P [] zero h = tt
  all_dropped P [] (suc n) h = tt
  all_dropped P (x ∷ xs) zero h = (h 0 x (omega arith) (omega arith), all_dropped P xs zero (λ k d _ m. h (suc k) d (omega arith) (omega arith)))
  all_dropped P (x ∷ xs) (suc n) h = all_dropped P xs n (λ k d l m. h (suc k) d (omega arith) (omega arith))

  -- the list at an index: what stands before it, there, and behind it
  pub split_at : (xs : List A) (i : ℕ) (d : A) → i < length xs → xs ≡ take i xs ++ (get_or xs i d ∷ drop (suc i) xs)
  split_at [] i d l = absurd (omega arith)
  split_at (x ∷ xs) zero d l = refl
  split_at (x ∷ xs) (suc i) d l = ap (λ v. x ∷ v) (split_at xs i d (omega arith))

  -- within the list no default is read
  any_default : (xs : List A) (i : ℕ) (c d : A) → i < length xs → get_or xs i c ≡ get_or xs i d
  any_default [] i c d l = absurd (omega arith)
  any_default (x ∷ xs) zero c d l = refl
  any_default (x ∷ xs) (suc i) c d l = any_default xs i c d (omega arith)

  get_is : (xs : List A) (i : ℕ) (d : A) → i < length xs → slice_get xs i ≡ Some (get_or xs i d)
  get_is [] i d l = absurd (omega arith)
  get_is (x ∷ xs) zero d l = refl
  get_is (x ∷ xs) (suc i) d l = get_is xs i d (omega arith)

  pub set_at : (xs : List A) (i : ℕ) (v : A) → i < length xs → set xs i v ≡ take i xs ++ (v ∷ drop (suc i) xs)
  set_at [] i v l = absurd (omega arith)
  set_at (x ∷ xs) zero v l = refl
  set_at (x ∷ xs) (suc i) v l = ap (λ w. x ∷ w) (set_at xs i v (omega arith))

-- what `get` lends of a slice
pub looked_up : {A : Type 0} (xs : List A) (i : ℕ) (r : Option (Bor A)) → IsItemAt xs i r → option_copied r ≡ slice_get xs i
looked_up xs i None h = sym (slice_get_past xs i (ltb-false i (length xs) (sym h.0)))
looked_up xs i (Some x) h = ap Some h.1 ∙ sym (get_is xs i x.now (ltb-true i (length xs) (sym h.0)))

-- ---- what a search finds

tied_place : (e f k : Key) → key_cmp e f ≡ Less → ordering_index (key_cmp e k) ≤ ordering_index (key_cmp f k)
tied_place e f k h =
    elim (key_cmp f k) as (λ o. key_cmp f k ≡ o → ordering_index (key_cmp e k) ≤ ordering_index o) [
      | Less ↦ λ q. let lower : ordering_index (key_cmp e k) ≡ 0 = ap ordering_index (key_total.trans e f k h q) in omega arith
      | Equal ↦ λ q. let lower : ordering_index (key_cmp e k) ≡ 0 = ap ordering_index (sym (alike_right key_total f k e q) ∙ h) in omega arith
      | Greater ↦ λ _. at_most (key_cmp e k)
    ] refl
  where
    at_most : (o : Ordering) → ordering_index o ≤ 2
    at_most Less = omega arith
    at_most Equal = omega arith
    at_most Greater = omega arith

pub sorted_places : (k : Key) (es : Entries) → Sorted es → IsNonDecreasingBy (λ e. ordering_index (key_cmp e.0 k)) es
sorted_places k [] s i j d l m = absurd (omega arith)
sorted_places k (e ∷ es) s zero zero d l m = omega arith
sorted_places k (e ∷ es) s zero (suc j) d l m = tied_place e.0 (get_or es j d).0 k (at_index (Above e.0) es j d (omega arith) s.0)
sorted_places k (e ∷ es) s (suc i) zero d l m = absurd (omega arith)
sorted_places k (e ∷ es) s (suc i) (suc j) d l m = sorted_places k es s.1 i j d (omega arith) (omega arith)

pub stands_at : (k : Key) (es : Entries) (i : ℕ) (d : Key × Record) → Sorted es → i < length es → key_cmp (get_or es i d).0 k ≡ Equal → StandsAt es k i
stands_at k es i d s l h =
    let e : Key × Record = get_or es i d in
    let tied : e.0 ≡ k = key_tied e.0 k h in
    let prefix = take i es in
    let back = drop (suc i) es in
    let whole : es ≡ prefix ++ (e ∷ back) = split_at es i d l in
    let sorted : Sorted (prefix ++ (e ∷ back)) = subst Sorted whole s in
    record {
      value = e.1;
      within = l;
      here = λ d'. any_default es i d' d l ∙ ap (λ v. let pair : Key × Record = (v, e.1) in pair) tied;
      whole = subst (λ v. es ≡ prefix ++ ((v, e.1) ∷ back)) tied whole;
      below = subst (λ v. AllByRecursion (Below v) prefix) tied (sorted_below prefix back e sorted);
      above = subst (λ v. AllByRecursion (Above v) back) tied (sorted_behind prefix (e ∷ back) sorted).0;
    }

pub belongs_at : (k : Key) (es : Entries) (i : ℕ) → i ≤ length es → IsPartitionPoint (λ e. key_cmp e.0 k ≡ Less) (λ e. key_cmp e.0 k ≡ Greater) es i → BelongsAt es k i
belongs_at k es i l h = record {
  within = l;
  below = all_taken (Below k) es i l h.0;
  above = all_on (λ e. key_cmp e.0 k ≡ Greater) (Above k) (λ e g. key_turned_back e.0 k g) (drop i es) (all_dropped (λ e. key_cmp e.0 k ≡ Greater) es i h.1);
}

pub searched : (k : Key) (es : Entries) (r : Result ℕ ℕ) → Sorted es → IsSearchInRange r (length es) → IsBinarySearchResult (λ e. key_cmp e.0 k) es r → MatchResult r (StandsAt es k) (BelongsAt es k)
searched k [] (Ok i) s l h = absurd (omega arith)
searched k (e ∷ es) (Ok i) s l h = stands_at k (e ∷ es) i e s l (h e)
searched k es (Err i) s l h = belongs_at k es i l (h (sorted_places k es s))

pub searched_by : {F : Type 0} {g : Mut F (Bor (Key × Record) × Unit {0}) Ordering} {f : F} (k : Key) (es : Entries) (r : Result ℕ ℕ) → Sorted es → IsSearchInRange r (length es)
    → ((ord : Key × Record → Ordering) → ComputesKey g ord f → IsBinarySearchResult ord es r)
    → ((a : Bor (Key × Record) × Unit {0}) (o : Ordering) (f' : F) → Called g f a o f' → (o ≡ key_cmp a.0.now.0 k) × (f' ≡ f))
    → MatchResult r (StandsAt es k) (BelongsAt es k)
searched_by {g = g} {f = f} k es r s l clause h = searched k es r s l (clause (λ e. key_cmp e.0 k) (always_returns_same g (λ a o. o ≡ key_cmp a.0.now.0 k) f h))

-- ---- what the map has at the key and beside it

head_dropped : (es : Entries) (i : ℕ) → slice_get es i ≡ head_of (drop i es)
head_dropped [] zero = refl
head_dropped [] (suc i) = refl
head_dropped (e ∷ es) zero = refl
head_dropped (e ∷ es) (suc i) = head_dropped es i

last_taken : (es : Entries) (m : ℕ) → m < length es → last_of (take (suc m) es) ≡ slice_get es m
last_taken [] m l = absurd (omega arith)
last_taken (e ∷ es) zero l = refl
last_taken (e ∷ es) (suc m) l = ap (λ o. option_or o (Some e)) (last_taken es m (omega arith) ∙ get_is es m e (omega arith)) ∙ sym (get_is es m e (omega arith))

last_before : (es : Entries) (i : ℕ) → i ≤ length es → last_of (take i es) ≡ before es i
last_before es zero l = refl
last_before es (suc m) l = last_taken es m (omega arith)

parts : (es : Entries) (i : ℕ) → es ≡ take i es ++ drop i es
parts es i = sym (take-append-drop i es)

module _ (k : Key) (es : Entries) (i : ℕ) (z : StandsAt es k i) where
  pub get_stands : get k es ≡ Some z.value
  get_stands = ap (get k) z.whole ∙ get_past k (take i es) ((k, z.value) ∷ drop (suc i) es) z.below ∙ get_here (k, z.value) (drop (suc i) es)

  pub first_above_stands : first_above k es ≡ slice_get es (i + 1)
  first_above_stands =
      ap (first_above k) z.whole
      ∙ first_above_past k (take i es) ((k, z.value) ∷ drop (suc i) es) z.below
      ∙ ap (λ o. cond (is_lt o) (Some (k, z.value)) (first_above k (drop (suc i) es))) (key_itself k)
      ∙ first_above_head k (drop (suc i) es) z.above
      ∙ sym (head_dropped es (suc i))
      ∙ ap (slice_get es) (sym (add-one i))

  pub last_below_stands : last_below k es ≡ before es i
  last_below_stands =
      ap (last_below k) z.whole
      ∙ last_below_past k (take i es) ((k, z.value) ∷ drop (suc i) es) (ap is_lt (key_itself k), all_on (Above k) (NotBelow k) (above_not_below k) (drop (suc i) es) z.above)
      ∙ last_below_last k (take i es) z.below
      ∙ last_before es i (omega (arith, z.within))

  pub put_stands : (v : Record) → put (k, v) es ≡ set es i (k, v)
  put_stands v =
      ap (put (k, v)) z.whole
      ∙ put_past (k, v) (take i es) ((k, z.value) ∷ drop (suc i) es) z.below
      ∙ ap (λ w. take i es ++ w) (put_here (k, v) (k, z.value) (drop (suc i) es) (key_itself k))
      ∙ sym (set_at es i (k, v) z.within)

  pub del_stands : del k es ≡ remove es i
  del_stands =
      ap (del k) z.whole
      ∙ del_past k (take i es) ((k, z.value) ∷ drop (suc i) es) z.below
      ∙ ap (λ w. take i es ++ w) (del_here k (k, z.value) (drop (suc i) es) (key_itself k))

module _ (k : Key) (es : Entries) (i : ℕ) (z : BelongsAt es k i) where
  pub get_belongs : get k es ≡ None
  get_belongs = ap (get k) (parts es i) ∙ get_past k (take i es) (drop i es) z.below ∙ get_none k (drop i es) z.above

  pub first_above_belongs : first_above k es ≡ slice_get es i
  first_above_belongs = ap (first_above k) (parts es i) ∙ first_above_past k (take i es) (drop i es) z.below ∙ first_above_head k (drop i es) z.above ∙ sym (head_dropped es i)

  pub last_below_belongs : last_below k es ≡ before es i
  last_below_belongs =
      ap (last_below k) (parts es i)
      ∙ last_below_past k (take i es) (drop i es) (all_on (Above k) (NotBelow k) (above_not_below k) (drop i es) z.above)
      ∙ last_below_last k (take i es) z.below
      ∙ last_before es i z.within

  pub put_belongs : (v : Record) → put (k, v) es ≡ insert es i (k, v)
  put_belongs v = ap (put (k, v)) (parts es i) ∙ put_past (k, v) (take i es) (drop i es) z.below ∙ ap (λ w. take i es ++ w) (put_new (k, v) (drop i es) z.above)

  pub del_belongs : del k es ≡ es
  del_belongs = ap (del k) (parts es i) ∙ del_past k (take i es) (drop i es) z.below ∙ ap (λ w. take i es ++ w) (del_none k (drop i es) z.above) ∙ sym (parts es i)

-- ---- what is found lies on the side that was asked

pub found_above : (k : Key) (es : Entries) (o : Option (Key × Record)) → o ≡ first_above k es → LiesAbove k o
found_above k es None h = tt
found_above k es (Some e) h = first_above_above k e es (sym h)

pub found_below : (k : Key) (es : Entries) (o : Option (Key × Record)) → o ≡ last_below k es → LiesBelow k o
found_below k es None h = tt
found_below k es (Some e) h = last_below_below k e es (sym h)
