-- The map of entries that are parted where a test of keys turns, and of those of them that a valid tree may have.
use Rattle.std.proofs.Common.{◌≡◌, ◌⊎◌, ℕ, Bool, true, false, not, cond, List, [], ◌∷◌, ◌++◌, filter, Option, Some, None, inl, inr, Less, Equal, Greater, refl, sym, ap, subst, ◌∙◌}
use Rattle.std.proofs.lemmas.Option.{none-some, same_Some}
use Rattle.std.specs.List.{AllByRecursion}
use Rattle.std.specs.Option.{option_or}
use Rattle.std.specs.Ordering.{is_lt, is_eq}
use Rattle.std.specs.Prelude.{is_some, option_map}
use Rattle.std.specs.declared.cmp.Ordering.{Ordering}
use Rattle.tree_model.specs.declared.key.Key.{Key}
use Rattle.tree_model.specs.declared.record.Record.{Record}
use Rattle.tree_model.specs.Entries.{Entries, Above, Below, Sorted, get, first_above, last_below}
use Rattle.tree_model.specs.Keys.{key_cmp}
use Rattle.tree_model.proofs.Keys.{key_total, key_itself, key_tied, key_turned, key_turned_back}
use Rattle.node_records.specs.declared.entries.Entry.{Entry}
use Rattle.node_pages.specs.Chunks.{records_behind, records_in}
use Rattle.node_pages.specs.Filling.{last_behind}
use Rattle.node_pages.specs.Following.{bytes_of, hand_after, Runs, NonePass, HeadPasses}
use Rattle.node_pages.proofs.RunLaws.{IsFrom, all_mapped, keys_follow, last_key, hand_behind, runs_behind, none_in_hand, records_parts, keys_kept, records_rise, first_record, keys_have}
use Rattle.paged_seq.specs.PagedMaps.{valid_at}
use Rattle.paged_seq.specs.Places.{comes, passes, begun_record}

-- ---- lists of entries in order

pub eq_equal : (o : Ordering) → is_eq o ≡ true → o ≡ Equal
eq_equal Less h = cc
eq_equal Equal h = refl
eq_equal Greater h = cc

pub lt_less : (o : Ordering) → is_lt o ≡ true → o ≡ Less
lt_less Less h = refl
lt_less Equal h = cc
lt_less Greater h = cc

not_equal : (k j : Key) → key_cmp j k ≡ Less → is_eq (key_cmp k j) ≡ false
not_equal k j less = ap is_eq (key_turned j k less)

-- entries below a key don't change what is found at it
pub get_behind : (k : Key) (a b : Entries) → AllByRecursion (Below k) a → get k (a ++ b) ≡ get k b
get_behind k [] b below = refl
get_behind k (e ∷ a) b below = ap (λ t. cond t (Some e.1) (get k (a ++ b))) (not_equal k e.0 below.0) ∙ get_behind k a b below.1

pub get_above : (k : Key) (es : Entries) → AllByRecursion (Above k) es → get k es ≡ None
get_above k [] above = refl
get_above k (e ∷ es) above = ap (λ o. cond (is_eq o) (Some e.1) (get k es)) above.0 ∙ get_above k es above.1

-- an entry that isn't above a key
abbrev pub NotAbove : Key → Key × Record → Type 0
NotAbove k e = is_lt (key_cmp k e.0) ≡ false

pub first_behind : (k : Key) (a b : Entries) → AllByRecursion (NotAbove k) a → first_above k (a ++ b) ≡ first_above k b
first_behind k [] b none = refl
first_behind k (e ∷ a) b none = ap (λ t. cond t (Some e) (first_above k (a ++ b))) none.0 ∙ first_behind k a b none.1

-- an entry that isn't below a key
abbrev pub NotBelow : Key → Key × Record → Type 0
NotBelow k e = is_lt (key_cmp e.0 k) ≡ false

pub last_none : (k : Key) (es : Entries) → AllByRecursion (NotBelow k) es → last_below k es ≡ None
last_none k [] none = refl
last_none k (e ∷ es) none = (λ i. option_or (last_none k es none.1 i) (cond (none.0 i) (Some e) None))

above_not_below : (k j : Key) (e : Key × Record) → Above j e → IsFrom e.0 j ⊎ NotBelow k e → NotBelow k e
above_not_below k j e above (inr not) = not
above_not_below k j e above (inl (inl less)) = let turned = key_turned j e.0 above in cc (turned, less)
above_not_below k j e above (inl (inr same)) = let itself = key_itself j in let tied : key_cmp j j ≡ Less = ap (λ (x : Key). key_cmp j x) (sym same) ∙ above in cc (itself, tied)

above_each : (k j : Key) (es : Entries) → AllByRecursion (Above j) es → AllByRecursion (λ e. IsFrom e.0 j ⊎ NotBelow k e) es → AllByRecursion (NotBelow k) es
above_each k j [] above each = tt
above_each k j (e ∷ es) above each = (above_not_below k j e above.0 each.0, above_each k j es above.1 each.1)

-- the entry at j is the last below k, where each other one below k is below j
pub last_is : (k j : Key) (r : Record) (es : Entries) → Sorted es → get j es ≡ Some r → key_cmp j k ≡ Less → AllByRecursion (λ e. IsFrom e.0 j ⊎ NotBelow k e) es → last_below k es ≡ Some (j, r)
last_is k j r [] sorted found less each = cc
last_is k j r (e ∷ es) sorted found less each = elim (key_cmp j e.0) as (λ o. key_cmp j e.0 ≡ o → cond (is_eq o) (Some e.1) (get j es) ≡ Some r → last_below k (e ∷ es) ≡ Some (j, r)) [
  | Less ↦ λ h f. absurd (none-some r (sym (get_above j es (all_mapped (Above e.0) (Above j) (λ x above. key_total.trans j e.0 x.0 h above) es sorted.0)) ∙ f))
  | Equal ↦ λ h f.
      let same : j ≡ e.0 = key_tied j e.0 h in
      let record_is : e.1 ≡ r = same_Some e.1 r f in
      let none : last_below k es ≡ None = last_none k es (above_each k j es (subst (λ (x : Key). AllByRecursion (Above x) es) (sym same) sorted.0) each.1) in
      let below : is_lt (key_cmp e.0 k) ≡ true = ap (λ (x : Key). is_lt (key_cmp x k)) (sym same) ∙ ap is_lt less in
      (λ i. option_or (none i) (cond (below i) (Some e) None)) ∙ (λ i. Some (sym same i, record_is i))
  | Greater ↦ λ h f. ap (λ o. option_or o (cond (is_lt (key_cmp e.0 k)) (Some e) None)) (last_is k j r es sorted.1 f less each.1)
] refl found

-- ---- valid entries

module _ (valid : Key × Record → Bool) where
  abbrev pub kept : Entries → Entries
  kept es = filter valid es

  all_kept : (P : Key × Record → Type 0) (es : Entries) → AllByRecursion P es → AllByRecursion P (kept es)
  all_kept P [] all = tt
  all_kept P (e ∷ es) all = elim (valid e) as (λ b. AllByRecursion P (cond b (e ∷ kept es) (kept es))) [ true ↦ (all.0, all_kept P es all.1) | false ↦ all_kept P es all.1 ]

  pub kept_sorted : (es : Entries) → Sorted es → Sorted (kept es)
  kept_sorted [] sorted = tt
  kept_sorted (e ∷ es) sorted = elim (valid e) as (λ b. Sorted (cond b (e ∷ kept es) (kept es))) [ true ↦ (all_kept (Above e.0) es sorted.0, kept_sorted es sorted.1) | false ↦ kept_sorted es sorted.1 ]

  pub get_kept : (k : Key) (es : Entries) → Sorted es → get k (kept es) ≡ valid_at valid k (get k es)
  get_kept k [] sorted = refl
  get_kept k (e ∷ es) sorted = elim (key_cmp k e.0) as (λ o. key_cmp k e.0 ≡ o → get k (cond (valid e) (e ∷ kept es) (kept es)) ≡ valid_at valid k (cond (is_eq o) (Some e.1) (get k es))) [
    | Less ↦ λ h. (elim (valid e) as (λ b. get k (cond b (e ∷ kept es) (kept es)) ≡ get k (kept es)) [ true ↦ ap (λ o. cond (is_eq o) (Some e.1) (get k (kept es))) h | false ↦ refl ]) ∙ get_kept k es sorted.1
    | Equal ↦ λ h.
        let same : k ≡ e.0 = key_tied k e.0 h in
        let none : get k (kept es) ≡ None = get_above k (kept es) (subst (λ (x : Key). AllByRecursion (Above x) (kept es)) (sym same) (all_kept (Above e.0) es sorted.0)) in
        (elim (valid e) as (λ b. get k (cond b (e ∷ kept es) (kept es)) ≡ cond b (Some e.1) None) [ true ↦ ap (λ o. cond (is_eq o) (Some e.1) (get k (kept es))) h | false ↦ none ])
        ∙ ap (λ (x : Key). cond (valid (x, e.1)) (Some e.1) None) (sym same)
    | Greater ↦ λ h. (elim (valid e) as (λ b. get k (cond b (e ∷ kept es) (kept es)) ≡ get k (kept es)) [ true ↦ ap (λ o. cond (is_eq o) (Some e.1) (get k (kept es))) h | false ↦ refl ]) ∙ get_kept k es sorted.1
  ] refl

-- ---- records of entries that are parted where a test turns

-- these are all entries, and a test of keys turns between them
pub record IsSplit (k : Key) (b : Bool) (all below above : List Entry) : Type 0 where
  pub runs : Runs None None all
  pub parts : all ≡ below ++ above
  pub none : NonePass (passes k b) below
  pub first : HeadPasses (passes k b) above

record SplitRecords (k : Key) (b : Bool) (all below above : List Entry) : Type 0 where
  records : records_in all ≡ records_in below ++ records_in above
  runs : Runs (last_key None below) None above
  fail : AllByRecursion (λ r. passes k b r.0 ≡ false) (records_in below)

split_records : (k : Key) (b : Bool) (all below above : List Entry) → IsSplit k b all below above → SplitRecords k b all below above
split_records k b all below above s =
    let runs : Runs None None (below ++ above) = subst (Runs None None) s.parts s.runs in
    let none : hand_behind None below ≡ None = none_in_hand (passes k b) below above runs s.none s.first in
    record {
      records = ap (λ (l : List Entry). records_in l) s.parts ∙ records_parts below above None ∙ ap (λ (h : Option (List ℕ × ℕ)). records_in below ++ records_behind (bytes_of h) above) none;
      runs = subst (λ (h : Option (List ℕ × ℕ)). Runs (last_key None below) h above) none (runs_behind below above None None runs);
      fail = keys_kept (λ j. passes k b j ≡ false) below [] s.none;
    }

fails_below : (o : Ordering) → comes false o ≡ false → o ≡ Less
fails_below Less h = refl
fails_below Equal h = cc
fails_below Greater h = cc

passes_beyond : (o : Ordering) → comes true o ≡ true → o ≡ Greater
passes_beyond Less h = cc
passes_beyond Equal h = cc
passes_beyond Greater h = refl

fails_beyond : (k j : Key) → passes k true j ≡ false → is_lt (key_cmp k j) ≡ false
fails_beyond k j h = elim (key_cmp j k) as (λ o. key_cmp j k ≡ o → comes true o ≡ false → is_lt (key_cmp k j) ≡ false) [
  | Less ↦ λ e f. ap is_lt (key_turned j k e)
  | Equal ↦ λ e f. ap (λ (x : Key). is_lt (key_cmp k x)) (key_tied j k e) ∙ ap is_lt (key_itself k)
  | Greater ↦ λ e f. cc
] refl h

-- the record that the entries above begin with
head_record : (k : Key) (b : Bool) (all below : List Entry) (e : Entry) (es : List Entry) → SplitRecords k b all below (e ∷ es)
    → (r : Record) × (rs : Entries) × (begun_record (Some e) es ≡ Some r) × (records_in (e ∷ es) ≡ (e.key, r) ∷ rs) × AllByRecursion (Above e.key) rs
head_record k b all below e es s =
    let first = first_record e.key e.last None e.bytes es s.runs.1 s.runs.2 in
    let sorted : Sorted (records_in (e ∷ es)) = records_rise (e ∷ es) (last_key None below) None s.runs in
    (first.0, first.1, first.2, first.3, (subst Sorted first.3 sorted).0)

below_each : (k : Key) (es : Entries) → AllByRecursion (λ r. passes k false r.0 ≡ false) es → AllByRecursion (Below k) es
below_each k es all = all_mapped (λ r. passes k false r.0 ≡ false) (Below k) (λ r h. fails_below (key_cmp r.0 k) h) es all

pub get_none : (k : Key) (all below above : List Entry) → IsSplit k false all below above → above ≡ [] → get k (records_in all) ≡ None
get_none k all below above s none =
    let p = split_records k false all below above s in
    ap (get k) p.records ∙ get_behind k (records_in below) (records_in above) (below_each k (records_in below) p.fail) ∙ ap (λ (l : List Entry). get k (records_in l)) none

passes_other : (k j : Key) → passes k false j ≡ true → is_eq (key_cmp j k) ≡ false → key_cmp k j ≡ Less
passes_other k j h other = elim (key_cmp j k) as (λ o. key_cmp j k ≡ o → comes false o ≡ true → is_eq o ≡ false → key_cmp k j ≡ Less) [
  | Less ↦ λ e p n. cc
  | Equal ↦ λ e p n. cc
  | Greater ↦ λ e p n. key_turned_back j k e
] refl h other

pub get_other : (k : Key) (all below above : List Entry) (e : Entry) (es : List Entry) → IsSplit k false all below above → above ≡ e ∷ es → is_eq (key_cmp e.key k) ≡ false → get k (records_in all) ≡ None
get_other k all below above e es s is other =
    let t : IsSplit k false all below (e ∷ es) = subst (IsSplit k false all below) is s in
    let p = split_records k false all below (e ∷ es) t in
    let h = head_record k false all below e es p in
    let less : key_cmp k e.key ≡ Less = passes_other k e.key t.first other in
    let above_all : AllByRecursion (Above k) ((e.key, h.0) ∷ h.1) = (less, all_mapped (Above e.key) (Above k) (λ x above. key_total.trans k e.key x.0 less above) h.1 h.4) in
    ap (get k) p.records ∙ get_behind k (records_in below) (records_in (e ∷ es)) (below_each k (records_in below) p.fail) ∙ ap (get k) h.3 ∙ get_above k ((e.key, h.0) ∷ h.1) above_all

-- the record was found
pub get_found : (k : Key) (all below above : List Entry) (e : Entry) (es : List Entry) → IsSplit k false all below above → above ≡ e ∷ es → key_cmp e.key k ≡ Equal
    → (r : Record) × (begun_record (Some e) es ≡ Some r) × (get k (records_in all) ≡ Some r)
get_found k all below above e es s is same =
    let t : IsSplit k false all below (e ∷ es) = subst (IsSplit k false all below) is s in
    let p = split_records k false all below (e ∷ es) t in
    let h = head_record k false all below e es p in
    let key : e.key ≡ k = key_tied e.key k same in
    let itself : key_cmp k e.key ≡ Equal = ap (λ (x : Key). key_cmp k x) key ∙ key_itself k in (
      h.0,
      h.2,
      ap (get k) p.records ∙ get_behind k (records_in below) (records_in (e ∷ es)) (below_each k (records_in below) p.fail) ∙ ap (get k) h.3
          ∙ ap (λ (o : Ordering). cond (is_eq o) (Some h.0) (get k h.1)) itself,
    )

-- ---- neighbours

beyond_each : (k : Key) (es : Entries) → AllByRecursion (λ r. passes k true r.0 ≡ false) es → AllByRecursion (NotAbove k) es
beyond_each k es all = all_mapped (λ r. passes k true r.0 ≡ false) (NotAbove k) (λ r h. fails_beyond k r.0 h) es all

pub above_none : (k : Key) (all below above : List Entry) → IsSplit k true all below above → above ≡ [] → first_above k (records_in all) ≡ None
above_none k all below above s none =
    let p = split_records k true all below above s in
    ap (first_above k) p.records ∙ first_behind k (records_in below) (records_in above) (beyond_each k (records_in below) p.fail) ∙ ap (λ (l : List Entry). first_above k (records_in l)) none

pub above_found : (k : Key) (all below above : List Entry) (e : Entry) (es : List Entry) → IsSplit k true all below above → above ≡ e ∷ es
    → (key_cmp k e.key ≡ Less) × (r : Record) × (begun_record (Some e) es ≡ Some r) × (first_above k (records_in all) ≡ Some (e.key, r))
above_found k all below above e es s is =
    let t : IsSplit k true all below (e ∷ es) = subst (IsSplit k true all below) is s in
    let p = split_records k true all below (e ∷ es) t in
    let h = head_record k true all below e es p in
    let less : key_cmp k e.key ≡ Less = key_turned_back e.key k (passes_beyond (key_cmp e.key k) t.first) in (
      less,
      h.0,
      h.2,
      ap (first_above k) p.records ∙ first_behind k (records_in below) (records_in (e ∷ es)) (beyond_each k (records_in below) p.fail) ∙ ap (first_above k) h.3
          ∙ ap (λ (o : Ordering). cond (is_lt o) (Some (e.key, h.0)) (first_above k h.1)) less,
    )

not_below : (o : Ordering) → comes false o ≡ true → is_lt o ≡ false
not_below Less h = cc
not_below Equal h = refl
not_below Greater h = refl

from_not : (k i j : Key) → IsFrom i j → is_lt (key_cmp i k) ≡ false → is_lt (key_cmp j k) ≡ false
from_not k i j (inr same) not = ap (λ (x : Key). is_lt (key_cmp x k)) (sym same) ∙ not
from_not k i j (inl less) not = elim (key_cmp j k) as (λ o. key_cmp j k ≡ o → is_lt o ≡ false) [
  | Less ↦ λ h. let down : key_cmp i k ≡ Less = key_total.trans i j k less h in sym (ap is_lt down) ∙ not
  | Equal ↦ λ h. refl
  | Greater ↦ λ h. refl
] refl

-- keys from one on that passes aren't below
above_side : (k : Key) (last : Option Key) (above : List Entry) → HeadPasses (passes k false) above → Runs last None above → AllByRecursion (λ e. is_lt (key_cmp e.key k) ≡ false) above
above_side k last [] first runs = tt
above_side k last (e ∷ es) first runs =
    let not = not_below (key_cmp e.key k) first in
    (not, all_mapped (λ f. IsFrom e.key f.key) (λ f. is_lt (key_cmp f.key k) ≡ false) (λ f from. from_not k e.key f.key from not) es (keys_follow e.key (hand_after None e.last e.bytes) es runs.2))

all_both : {A : Type 0} (P : A → Type 0) (xs ys : List A) → AllByRecursion P xs → AllByRecursion P ys → AllByRecursion P (xs ++ ys)
all_both P [] ys a b = b
all_both P (x ∷ xs) ys a b = (a.0, all_both P xs ys a.1 b)

last_in : (P : Entry → Type 0) (xs : List Entry) (x e : Entry) → P x → AllByRecursion P xs → last_behind (Some x) xs ≡ Some e → P e
last_in P [] x e one all is = subst P (same_Some x e is) one
last_in P (y ∷ ys) x e one all is = last_in P ys y e all.0 all.1 is

all_front : {A : Type 0} (P : A → Type 0) (xs ys : List A) → AllByRecursion P (xs ++ ys) → AllByRecursion P xs
all_front P [] ys all = tt
all_front P (x ∷ xs) ys all = (all.0, all_front P xs ys all.1)

last_of : (P : Entry → Type 0) (xs : List Entry) (e : Entry) → AllByRecursion P xs → last_behind None xs ≡ Some e → P e
last_of P [] e all is = absurd (none-some e is)
last_of P (x ∷ xs) e all is = last_in P xs x e all.0 all.1 is

some_last : (x : Entry) (xs : List Entry) → last_behind (Some x) xs ≡ None → ⊥
some_last x [] none = cc
some_last x (y ∷ ys) none = some_last y ys none

-- each of these keys is that of the last entry, or lies below it; more entries may follow
pub to_last : (xs more : List Entry) (start : Option Entry) (e : Entry) (last : Option Key) (h : Option (List ℕ × ℕ)) → Runs last h (xs ++ more) → last_behind start xs ≡ Some e → AllByRecursion (λ x. IsFrom x.key e.key) xs
to_last [] more start e last h runs is = tt
to_last (x ∷ xs) more start e last h runs is =
    let follow = keys_follow x.key (hand_after h x.last x.bytes) (xs ++ more) runs.2 in
    (last_in (λ f. IsFrom x.key f.key) xs x e (inr refl) (all_front (λ f. IsFrom x.key f.key) xs more follow) is, to_last xs more (Some x) e (Some x.key) (hand_after h x.last x.bytes) runs.2 is)

pub below_none : (k : Key) (all below above : List Entry) → IsSplit k false all below above → last_behind None below ≡ None → last_below k (records_in all) ≡ None
below_none k all [] above s none =
    let p = split_records k false all [] above s in
    ap (last_below k) p.records ∙ last_none k (records_in above) (keys_kept (λ j. is_lt (key_cmp j k) ≡ false) above [] (above_side k None above s.first p.runs))
below_none k all (x ∷ xs) above s none = absurd (some_last x xs none)

pub below_found : (k : Key) (all below above : List Entry) (e : Entry) → IsSplit k false all below above → last_behind None below ≡ Some e
    → (key_cmp e.key k ≡ Less) × (is_some (get e.key (records_in all)) ≡ true) × ((r : Record) → get e.key (records_in all) ≡ Some r → last_below k (records_in all) ≡ Some (e.key, r))
below_found k all below above e s is =
    let p = split_records k false all below above s in
    let runs : Runs None None (below ++ above) = subst (Runs None None) s.parts s.runs in
    let less : key_cmp e.key k ≡ Less = fails_below (key_cmp e.key k) (last_of (λ x. passes k false x.key ≡ false) below e s.none is) in
    let down : AllByRecursion (λ r. IsFrom r.0 e.key ⊎ NotBelow k r) (records_in below) =
    all_mapped (λ r. IsFrom r.0 e.key) (λ r. IsFrom r.0 e.key ⊎ NotBelow k r) (λ r from. inl from) (records_in below) (keys_kept (λ j. IsFrom j e.key) below [] (to_last below above None e None None runs is)) in
    let up : AllByRecursion (λ r. IsFrom r.0 e.key ⊎ NotBelow k r) (records_in above) =
    all_mapped (λ r. is_lt (key_cmp r.0 k) ≡ false) (λ r. IsFrom r.0 e.key ⊎ NotBelow k r) (λ r not. inr not) (records_in above)
    (keys_kept (λ j. is_lt (key_cmp j k) ≡ false) above [] (above_side k (last_key None below) above s.first p.runs)) in
    let each : AllByRecursion (λ r. IsFrom r.0 e.key ⊎ NotBelow k r) (records_in all) =
    subst (λ (l : Entries). AllByRecursion (λ r. IsFrom r.0 e.key ⊎ NotBelow k r) l) (sym p.records) (all_both (λ r. IsFrom r.0 e.key ⊎ NotBelow k r) (records_in below) (records_in above) down up) in
    let have = keys_have all None None s.runs in
    let there : is_some (get e.key (records_in all)) ≡ true =
    last_of (λ x. is_some (get x.key (records_in all)) ≡ true) below e (all_front (λ x. is_some (get x.key (records_in all)) ≡ true) below above (subst (λ (l : List Entry). AllByRecursion (λ x. is_some (get x.key (records_in all)) ≡ true) l) s.parts have)) is in
    (less, there, λ r found. last_is k e.key r (records_in all) (records_rise all None None s.runs) found less each)

pub some_is : (o : Option Record) → is_some o ≡ true → (r : Record) × (o ≡ Some r)
some_is None h = cc
some_is (Some r) h = (r, refl)

pub key_is : (o : Option Entry) (k : Key) → option_map (λ e. e.key) o ≡ Some k → (e : Entry) × (o ≡ Some e) × (e.key ≡ k)
key_is None k h = cc
key_is (Some e) k h = (e, refl, same_Some e.key k h)

pub no_key : (o : Option Entry) → option_map (λ e. e.key) o ≡ None → o ≡ None
no_key None h = refl
no_key (Some e) h = cc
