-- The differences of two lists of entries, step by step: what goes below an entry that comes, and what is left above it.
use Rattle.std.proofs.Common.{◌≡◌, ◌-◌, ◌≤◌, Bool, true, false, cond, List, [], ◌∷◌, ◌++◌, map, filter, length, take, drop, slice_index_or, Some, None, Ordering, Less, Equal, Greater, is_lt, is_eq, is_ge, refl, sym, ap, subst, ◌∙◌, append_assoc, append-nil, true≢false, arith}
use Rattle.std.specs.List.{AllByRecursion}
use Rattle.std.proofs.lemmas.List.{take_rest}
use Rattle.tree_model.specs.declared.change.Change.{Change}
use Rattle.tree_model.specs.declared.key.Key.{Key}
use Rattle.tree_model.specs.declared.record.Record.{Record}
use Rattle.tree_model.specs.Keys.{key_cmp}
use Rattle.tree_model.specs.Changes.{put_change, drop_change, stands, put_unless, differences}
use Rattle.tree_model.specs.Entries.{Entries, Above, Sorted, get, entries_below, entries_above}
use Rattle.tree_model.proofs.Differences.{rising_differences}
use Rattle.tree_model.proofs.Entries.{all_above_lower, get_none, get_skip, beyond_all}
use Rattle.tree_model.proofs.Keys.{key_itself, key_turned, key_turned_back, key_tied}
use Rattle.tree_model.proofs.Lists.{all_append}
use Rattle.tree_model.proofs.Orders.{ordered, lt_is, eq_is}
use Rattle.node_seq.specs.ChangeLists.{IsChangeList, PutsValidEntry}
use Rattle.node_seq.specs.Reads.{IsValidEntry}
use Rattle.dom_writes.specs.inside.Merges.{BeginsAt, not_below, up_to}

-- ---- the entries from a key on

pub begins_at : (k : Key) (es : Entries) → BeginsAt k (not_below k es)
begins_at k [] = tt
begins_at k (e ∷ es) = elim (is_lt (key_cmp e.0 k)) as (λ b. is_lt (key_cmp e.0 k) ≡ b → BeginsAt k (cond b (not_below k es) (e ∷ es))) [
  | true ↦ λ _. begins_at k es
  | false ↦ λ h. h
] refl

pub sorted_from : (k : Key) (es : Entries) → Sorted es → Sorted (not_below k es)
sorted_from k [] s = tt
sorted_from k (e ∷ es) s = elim (is_lt (key_cmp e.0 k)) as (λ b. Sorted (cond b (not_below k es) (e ∷ es))) [ true ↦ sorted_from k es s.1 | false ↦ s ]

-- an entry below a key isn't above it, and has another key
below_is_past : (k : Key) (e : Key × Record) → is_lt (key_cmp e.0 k) ≡ true → key_cmp k e.0 ≡ Greater
below_is_past k e h = key_turned e.0 k (lt_is _ h)

pub get_from : (k : Key) (es : Entries) → get k (not_below k es) ≡ get k es
get_from k [] = refl
get_from k (e ∷ es) = elim (is_lt (key_cmp e.0 k)) as (λ b. is_lt (key_cmp e.0 k) ≡ b → get k (cond b (not_below k es) (e ∷ es)) ≡ get k (e ∷ es)) [
  | true ↦ λ h. get_from k es ∙ sym (get_skip k e es (ap is_eq (below_is_past k e h)))
  | false ↦ λ _. refl
] refl

pub above_from : (k : Key) (es : Entries) → entries_above k (not_below k es) ≡ entries_above k es
above_from k [] = refl
above_from k (e ∷ es) = elim (is_lt (key_cmp e.0 k)) as (λ b. is_lt (key_cmp e.0 k) ≡ b → entries_above k (cond b (not_below k es) (e ∷ es)) ≡ entries_above k (e ∷ es)) [
  | true ↦ λ h. above_from k es ∙ sym (ap (λ o. cond (is_lt o) (e ∷ entries_above k es) (entries_above k es)) (below_is_past k e h))
  | false ↦ λ _. refl
] refl

-- ---- one entry after another

-- an entry below the key goes
pub from_goes_on : (k : Key) (e : Key × Record) (es : Entries) → is_lt (key_cmp e.0 k) ≡ true → not_below k es ≡ not_below k (e ∷ es)
from_goes_on k e es h = sym (ap (λ b. cond b (not_below k es) (e ∷ es)) h)

pub drops_go_on : (k : Key) (e : Key × Record) (es : Entries) (cs : List Change) → is_lt (key_cmp e.0 k) ≡ true
    → (cs ++ (drop_change e ∷ [])) ++ map drop_change (entries_below k es) ≡ cs ++ map drop_change (entries_below k (e ∷ es))
drops_go_on k e es cs h = append_assoc cs (drop_change e ∷ []) (map drop_change (entries_below k es))
    ∙ sym (ap (λ b. cs ++ map drop_change (cond b (e ∷ entries_below k es) (entries_below k es))) h)

-- the first that isn't ends that
none_below : (k : Key) (es : Entries) → AllByRecursion (Above k) es → entries_below k es ≡ []
none_below k [] h = refl
none_below k (e ∷ es) h = ap (λ o. cond (is_lt o) (e ∷ entries_below k es) (entries_below k es)) (key_turned k e.0 h.0) ∙ none_below k es h.1

pub stops : (k : Key) (es : Entries) → Sorted es → BeginsAt k es → entries_below k es ≡ []
stops k [] s h = refl
stops k (e ∷ es) s h = ap (λ b. cond b (e ∷ entries_below k es) (entries_below k es)) h ∙ ordered (entries_below k es ≡ []) (key_cmp e.0 k)
    (λ less. absurd (true≢false (sym (ap is_lt less) ∙ h)))
    (λ equal. none_below k es (subst (λ j. AllByRecursion (Above j) es) (key_tied e.0 k equal) s.0))
    (λ more. none_below k es (all_above_lower k e.0 (key_turned_back e.0 k more) es s.0))

-- an order that isn't less
pub not_less : (o : Ordering) → is_ge o ≡ true → is_lt o ≡ false
not_less Less h = cc
not_less Equal h = refl
not_less Greater h = refl

pub from_here : (k : Key) (es : Entries) → BeginsAt k es → es ≡ not_below k es
from_here k [] h = refl
from_here k (e ∷ es) h = sym (ap (λ b. cond b (not_below k es) (e ∷ es)) h)

-- ---- the first of them

-- a list that has items, and the first one
pub with_first : (xs : Entries) (e : Key × Record) → 1 ≤ length xs → xs ≡ slice_index_or xs 0 e ∷ take (length xs - 1) (drop 1 xs)
with_first [] e h = absurd (omega (arith, h))
with_first (x ∷ xs) e h = ap (λ v. x ∷ v) (sym (take_rest (x ∷ xs) 1))

-- it is that whatever is answered of a list without any
pub same_first : (xs : Entries) (d e : Key × Record) → 1 ≤ length xs → slice_index_or xs 0 d ≡ slice_index_or xs 0 e
same_first [] d e h = absurd (omega (arith, h))
same_first (x ∷ xs) d e h = refl

pub here : (k : Key) (e : Key × Record) (es rest : Entries) → es ≡ e ∷ rest → is_eq (key_cmp e.0 k) ≡ true → Some e.1 ≡ get k es
here k e es rest is same =
    let key : e.0 ≡ k = key_tied e.0 k (eq_is _ same) in
    sym (ap (get k) is ∙ ap (λ o. cond (is_eq o) (Some e.1) (get k rest)) (subst (λ j. key_cmp k j ≡ Equal) (sym key) (key_itself k)))

pub above_here : (k : Key) (e : Key × Record) (es rest : Entries) → es ≡ e ∷ rest → Sorted es → is_eq (key_cmp e.0 k) ≡ true → rest ≡ entries_above k es
above_here k e es rest is s same =
    let key : e.0 ≡ k = key_tied e.0 k (eq_is _ same) in
    sym (ap (entries_above k) is
    ∙ ap (λ o. cond (is_lt o) (e ∷ entries_above k rest) (entries_above k rest)) (subst (λ j. key_cmp k j ≡ Equal) (sym key) (key_itself k))
    ∙ beyond_all k rest (subst (λ j. AllByRecursion (Above j) rest) key (subst Sorted is s).0))

-- one with another key lies above, as all behind it do
all_above : (k : Key) (e : Key × Record) (es rest : Entries) → es ≡ e ∷ rest → Sorted es → BeginsAt k es → is_eq (key_cmp e.0 k) ≡ false → AllByRecursion (Above k) es
all_above k e es rest is s h apart =
    subst (AllByRecursion (Above k)) (sym is) (by (subst Sorted is s) (subst (BeginsAt k) is h))
  where
    by : Sorted (e ∷ rest) → BeginsAt k (e ∷ rest) → AllByRecursion (Above k) (e ∷ rest)
    by t g = ordered (AllByRecursion (Above k) (e ∷ rest)) (key_cmp e.0 k)
        (λ less. absurd (true≢false (sym (ap is_lt less) ∙ g)))
        (λ equal. absurd (true≢false (sym (ap is_eq equal) ∙ apart)))
        (λ more. let above : key_cmp k e.0 ≡ Less = key_turned_back e.0 k more in (above, all_above_lower k e.0 above rest t.0))

pub missing_here : (k : Key) (e : Key × Record) (es rest : Entries) → es ≡ e ∷ rest → Sorted es → BeginsAt k es → is_eq (key_cmp e.0 k) ≡ false → None ≡ get k es
missing_here k e es rest is s h apart = sym (get_none k es (all_above k e es rest is s h apart))

pub above_missing : (k : Key) (e : Key × Record) (es rest : Entries) → es ≡ e ∷ rest → Sorted es → BeginsAt k es → is_eq (key_cmp e.0 k) ≡ false → es ≡ entries_above k es
above_missing k e es rest is s h apart = sym (beyond_all k es (all_above k e es rest is s h apart))

-- ---- an entry that comes

-- the entry isn't put, or it is
pub left_out : (x : Key × Record) (es : Entries) (cs ds : List Change) (b : Bool) → b ≡ stands x.1 (get x.0 es) → b ≡ true
    → ds ≡ cs ++ map drop_change (entries_below x.0 es) → ds ≡ cs ++ up_to x es
left_out x es cs ds b e h g = g ∙ ap (λ v. cs ++ v) (sym (append-nil (map drop_change (entries_below x.0 es))))
    ∙ ap (λ t. cs ++ (map drop_change (entries_below x.0 es) ++ put_unless t x)) (sym h ∙ e)

pub put_at_end : (x : Key × Record) (es : Entries) (cs ds now : List Change) (b : Bool) → b ≡ stands x.1 (get x.0 es) → b ≡ false
    → ds ≡ cs ++ map drop_change (entries_below x.0 es) → now ≡ ds ++ (put_change x ∷ []) → now ≡ cs ++ up_to x es
put_at_end x es cs ds now b e h g f = f ∙ ap (λ v. v ++ (put_change x ∷ [])) g ∙ append_assoc cs (map drop_change (entries_below x.0 es)) (put_change x ∷ [])
    ∙ ap (λ t. cs ++ (map drop_change (entries_below x.0 es) ++ put_unless t x)) (sym h ∙ e)

pub merge_goes_on : (x : Key × Record) (es rest zs : Entries) (cs ds : List Change) → ds ≡ cs ++ up_to x es → rest ≡ entries_above x.0 es
    → ds ++ differences rest zs ≡ cs ++ differences es (x ∷ zs)
merge_goes_on x es rest zs cs ds e r =
    (λ i. e i ++ differences (r i) zs)
    ∙ append_assoc cs (up_to x es) (differences (entries_above x.0 es) zs)
    ∙ ap (λ v. cs ++ v) (append_assoc (map drop_change (entries_below x.0 es)) (put_unless (stands x.1 (get x.0 es)) x) (differences (entries_above x.0 es) zs))

all_kept : (P : Key × Record → Type 0) (p : Key × Record → Bool) (es : Entries) → AllByRecursion P es → AllByRecursion P (filter p es)
all_kept P p [] h = tt
all_kept P p (e ∷ es) h = elim (p e) as (λ b. AllByRecursion P (cond b (e ∷ filter p es) (filter p es))) [ true ↦ (h.0, all_kept P p es h.1) | false ↦ all_kept P p es h.1 ]

sorted_kept : (p : Key × Record → Bool) (es : Entries) → Sorted es → Sorted (filter p es)
sorted_kept p [] s = tt
sorted_kept p (e ∷ es) s = elim (p e) as (λ b. Sorted (cond b (e ∷ filter p es) (filter p es))) [ true ↦ (all_kept (Above e.0) p es s.0, sorted_kept p es s.1) | false ↦ sorted_kept p es s.1 ]

pub sorted_above : (k : Key) (es : Entries) → Sorted es → Sorted (entries_above k es)
sorted_above k = sorted_kept (λ e. is_lt (key_cmp k e.0))

-- ---- change lists

drops_put_nothing : (es : Entries) → AllByRecursion PutsValidEntry (map drop_change es)
drops_put_nothing [] = tt
drops_put_nothing (e ∷ es) = (tt, drops_put_nothing es)

put_if_valid : (b : Bool) (x : Key × Record) → IsValidEntry x → AllByRecursion PutsValidEntry (put_unless b x)
put_if_valid true x h = tt
put_if_valid false x h = (h, tt)

puts_valid : (es fs : Entries) → AllByRecursion IsValidEntry fs → AllByRecursion PutsValidEntry (differences es fs)
puts_valid es [] h = drops_put_nothing es
puts_valid es (x ∷ xs) h =
    all_append PutsValidEntry (map drop_change (entries_below x.0 es)) _ (drops_put_nothing (entries_below x.0 es))
    (all_append PutsValidEntry (put_unless (stands x.1 (get x.0 es)) x) _ (put_if_valid (stands x.1 (get x.0 es)) x h.0) (puts_valid (entries_above x.0 es) xs h.1))

-- differences may be laid over a map where what comes is valid
pub differences_change_list : (es fs : Entries) → Sorted es → Sorted fs → AllByRecursion IsValidEntry fs → IsChangeList (differences es fs)
differences_change_list es fs s t h = record { rise = rising_differences es fs s t; puts = puts_valid es fs h }

-- so may deletions
pub drops_change_list : (es : Entries) → Sorted es → IsChangeList (map drop_change es)
drops_change_list es s = differences_change_list es [] s tt tt

pub no_change_list : IsChangeList []
no_change_list = record { rise = tt; puts = tt }

pub empty_change_list : (cs : List Change) → cs ≡ [] → IsChangeList cs
empty_change_list cs e = subst IsChangeList (sym e) no_change_list
