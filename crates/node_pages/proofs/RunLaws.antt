-- Entries that follow one another as the rules of entries want it: their keys rise, and so do those of the records that they hold.
use Rattle.std.proofs.Common.{◌≡◌, ◌==◌, ◌⊎◌, ℕ, ◌+◌, Bool, true, false, cond, List, [], ◌∷◌, ◌++◌, Option, Some, None, option_and_then, inl, inr, Less, Equal, Greater, refl, sym, ap, subst, ◌∙◌}
use Rattle.std.specs.List.{AllByRecursion}
use Rattle.std.specs.declared.cmp.Ordering.{Ordering}
use Rattle.std.specs.Ordering.{is_lt, is_eq}
use Rattle.std.specs.Prelude.{is_some}
use Rattle.tree_model.specs.declared.key.Key.{Key}
use Rattle.tree_model.specs.declared.record.Record.{Record}
use Rattle.tree_model.specs.Entries.{Entries, Above, Sorted, get}
use Rattle.tree_model.specs.Keys.{key_cmp}
use Rattle.tree_model.proofs.Keys.{key_total, key_itself, key_tied}
use Rattle.node_records.specs.Records.{record_of}
use Rattle.node_records.specs.declared.entries.Entry.{Entry}
use Rattle.node_records.proofs.ReadLaws.{both}
use Rattle.node_pages.specs.Chunks.{one_more, records_behind, whole_record}
use Rattle.node_pages.specs.Following.{bytes_of, chunks_in, goes, hand_after, IsWhole, Runs, NonePass, HeadPasses}

-- ---- keys

-- a key is this one or lies above it
abbrev pub IsFrom : Key → Key → Type 0
IsFrom k j = (key_cmp k j ≡ Less) ⊎ (k ≡ j)

lt_less : (o : Ordering) → is_lt o ≡ true → o ≡ Less
lt_less Less h = refl
lt_less Equal h = cc
lt_less Greater h = cc

eq_equal : (o : Ordering) → is_eq o ≡ true → o ≡ Equal
eq_equal Less h = cc
eq_equal Equal h = refl
eq_equal Greater h = cc

pub above_from : (a b c : Key) → key_cmp a b ≡ Less → IsFrom b c → key_cmp a c ≡ Less
above_from a b c x (inl y) = key_total.trans a b c x y
above_from a b c x (inr y) = subst (λ (z : Key). key_cmp a z ≡ Less) y x

pub from_on : (a b c : Key) → IsFrom a b → IsFrom b c → IsFrom a c
from_on a b c (inl x) g = inl (above_from a b c x g)
from_on a b c (inr x) g = subst (λ (z : Key). IsFrom z c) (sym x) g

pub all_mapped : {A : Type 0} (P Q : A → Type 0) → ((x : A) → P x → Q x) → (xs : List A) → AllByRecursion P xs → AllByRecursion Q xs
all_mapped P Q f [] all = tt
all_mapped P Q f (x ∷ xs) all = (f x all.0, all_mapped P Q f xs all.1)

rises_less : (k j : Key) (c : ℕ) → goes (Some k) None j c ≡ true → key_cmp k j ≡ Less
rises_less k j c h = lt_less (key_cmp k j) (both (is_lt (key_cmp k j)) (c == 0) h).0

pub stays_same : (k j : Key) (h : List ℕ × ℕ) (c : ℕ) → goes (Some k) (Some h) j c ≡ true → k ≡ j
stays_same k j h c g = key_tied k j (eq_equal (key_cmp k j) (both (is_eq (key_cmp k j)) (c == h.1) g).0)

goes_from : (k : Key) (h : Option (List ℕ × ℕ)) (j : Key) (c : ℕ) → goes (Some k) h j c ≡ true → IsFrom k j
goes_from k None j c g = inl (rises_less k j c g)
goes_from k (Some h) j c g = inr (stays_same k j h c g)

-- entries behind one with this key have it, or keys above it
pub keys_follow : (k : Key) (h : Option (List ℕ × ℕ)) (es : List Entry) → Runs (Some k) h es → AllByRecursion (λ e. IsFrom k e.key) es
keys_follow k h [] runs = tt
keys_follow k h (e ∷ es) runs =
    let one = goes_from k h e.key e.chunk runs.0 in
    (one, all_mapped (λ f. IsFrom e.key f.key) (λ f. IsFrom k f.key) (λ f g. from_on k e.key f.key one g) es (keys_follow e.key (hand_after h e.last e.bytes) es runs.2))

-- behind a whole record all keys lie above its own
pub keys_rise : (k : Key) (es : List Entry) → Runs (Some k) None es → AllByRecursion (λ e. key_cmp k e.key ≡ Less) es
keys_rise k [] runs = tt
keys_rise k (e ∷ es) runs =
    let one = rises_less k e.key e.chunk runs.0 in
    (one, all_mapped (λ f. IsFrom e.key f.key) (λ f. key_cmp k f.key ≡ Less) (λ f g. above_from k e.key f.key one g) es (keys_follow e.key (hand_after None e.last e.bytes) es runs.2))

-- ---- behind some of the entries

abbrev pub last_key : Option Key → List Entry → Option Key
last_key last [] = last
last_key last (e ∷ es) = last_key (Some e.key) es

abbrev pub hand_behind : Option (List ℕ × ℕ) → List Entry → Option (List ℕ × ℕ)
hand_behind h [] = h
hand_behind h (e ∷ es) = hand_behind (hand_after h e.last e.bytes) es

pub runs_behind : (xs ys : List Entry) (last : Option Key) (h : Option (List ℕ × ℕ)) → Runs last h (xs ++ ys) → Runs (last_key last xs) (hand_behind h xs) ys
runs_behind [] ys last h runs = runs
runs_behind (x ∷ xs) ys last h runs = runs_behind xs ys (Some x.key) (hand_after h x.last x.bytes) runs.2

abbrev LastFails : (Key → Bool) → Option Key → Type 0
LastFails p None = Unit {0}
LastFails p (Some k) = p k ≡ false

last_fails : (p : Key → Bool) (xs : List Entry) (last : Option Key) → LastFails p last → NonePass p xs → LastFails p (last_key last xs)
last_fails p [] last fails none = fails
last_fails p (x ∷ xs) last fails none = last_fails p xs (Some x.key) none.0 none.1

turns : (p : Key → Bool) (last : Option Key) (h : Option (List ℕ × ℕ)) (ys : List Entry) → LastFails p last → HeadPasses p ys → Runs last h ys → h ≡ None
turns p last h [] fails passes runs = runs
turns p last None (y ∷ ys) fails passes runs = refl
turns p None (Some h) (y ∷ ys) fails passes runs = cc (runs.0)
turns p (Some k) (Some h) (y ∷ ys) fails passes runs = let same : p k ≡ p y.key = ap p (stays_same k y.key h y.chunk runs.0) in cc (fails, passes, same)

-- no record goes over a place where a test of keys turns
pub none_in_hand : (p : Key → Bool) (xs ys : List Entry) → Runs None None (xs ++ ys) → NonePass p xs → HeadPasses p ys → hand_behind None xs ≡ None
none_in_hand p xs ys runs none passes = turns p (last_key None xs) (hand_behind None xs) ys (last_fails p xs None tt none) passes (runs_behind xs ys None None runs)

-- ---- the records

one_more_front : (k : Key) (o : Option Record) (a b : Entries) → one_more k o (a ++ b) ≡ one_more k o a ++ b
one_more_front k None a b = refl
one_more_front k (Some r) a b = refl

parts_one : (k : Key) (last : Bool) (bytes : List ℕ) (es ys : List Entry) (h : Option (List ℕ × ℕ))
    → ((g : Option (List ℕ × ℕ)) → records_behind (bytes_of g) (es ++ ys) ≡ records_behind (bytes_of g) es ++ records_behind (bytes_of (hand_behind g es)) ys)
    → cond last (one_more k (record_of (bytes_of h ++ bytes)) (records_behind [] (es ++ ys))) (records_behind (bytes_of h ++ bytes) (es ++ ys))
    ≡ cond last (one_more k (record_of (bytes_of h ++ bytes)) (records_behind [] es)) (records_behind (bytes_of h ++ bytes) es) ++ records_behind (bytes_of (hand_behind (hand_after h last bytes) es)) ys
parts_one k true bytes es ys h parts =
    let o = record_of (bytes_of h ++ bytes) in
    ap (λ (l : Entries). one_more k o l) (parts None) ∙ one_more_front k o (records_behind [] es) (records_behind (bytes_of (hand_behind None es)) ys)
parts_one k false bytes es ys h parts = parts (Some (bytes_of h ++ bytes, chunks_in h + 1))

-- the records of entries are those of some of them, and then those of the others
pub records_parts : (xs ys : List Entry) (h : Option (List ℕ × ℕ)) → records_behind (bytes_of h) (xs ++ ys) ≡ records_behind (bytes_of h) xs ++ records_behind (bytes_of (hand_behind h xs)) ys
records_parts [] ys h = refl
records_parts (x ∷ xs) ys h = parts_one x.key x.last x.bytes xs ys h (records_parts xs ys)

more_kept : (P : Key → Type 0) (k : Key) (o : Option Record) (rs : Entries) → P k → AllByRecursion (λ r. P r.0) rs → AllByRecursion (λ r. P r.0) (one_more k o rs)
more_kept P k None rs one all = all
more_kept P k (Some r) rs one all = (one, all)

-- what holds of the keys of entries holds of those of the records
pub keys_kept : (P : Key → Type 0) (es : List Entry) (bytes : List ℕ) → AllByRecursion (λ e. P e.key) es → AllByRecursion (λ r. P r.0) (records_behind bytes es)
keys_kept P [] bytes all = tt
keys_kept P (e ∷ es) bytes all = elim e.last as (λ b. AllByRecursion (λ r. P r.0) (cond b (one_more e.key (record_of (bytes ++ e.bytes)) (records_behind [] es)) (records_behind (bytes ++ e.bytes) es))) [
  | true ↦ more_kept P e.key (record_of (bytes ++ e.bytes)) (records_behind [] es) all.0 (keys_kept P es [] all.1)
  | false ↦ keys_kept P es (bytes ++ e.bytes) all.1
]

more_sorted : (k : Key) (o : Option Record) (rs : Entries) → AllByRecursion (Above k) rs → Sorted rs → Sorted (one_more k o rs)
more_sorted k None rs above sorted = sorted
more_sorted k (Some r) rs above sorted = (above, sorted)

sorted_one : (k : Key) (last : Bool) (bytes : List ℕ) (es : List Entry) (h : Option (List ℕ × ℕ)) → Runs (Some k) (hand_after h last bytes) es
    → ((g : Option (List ℕ × ℕ)) → Runs (Some k) g es → Sorted (records_behind (bytes_of g) es))
    → Sorted (cond last (one_more k (record_of (bytes_of h ++ bytes)) (records_behind [] es)) (records_behind (bytes_of h ++ bytes) es))
sorted_one k true bytes es h runs sorted = more_sorted k (record_of (bytes_of h ++ bytes)) (records_behind [] es) (keys_kept (λ j. key_cmp k j ≡ Less) es [] (keys_rise k es runs)) (sorted None runs)
sorted_one k false bytes es h runs sorted = sorted (Some (bytes_of h ++ bytes, chunks_in h + 1)) runs

-- the records rise by their keys
pub records_rise : (es : List Entry) (last : Option Key) (h : Option (List ℕ × ℕ)) → Runs last h es → Sorted (records_behind (bytes_of h) es)
records_rise [] last h runs = tt
records_rise (e ∷ es) last h runs = sorted_one e.key e.last e.bytes es h runs.2 (λ g more. records_rise es (Some e.key) g more)

-- ---- the record that entries begin with

some_is : (o : Option Record) → is_some o ≡ true → (r : Record) × (o ≡ Some r)
some_is None h = cc
some_is (Some r) h = (r, refl)

-- entries behind one with this key begin with its record
pub first_record : (k : Key) (last : Bool) (h : Option (List ℕ × ℕ)) (bytes : List ℕ) (es : List Entry) → IsWhole h last bytes → Runs (Some k) (hand_after h last bytes) es
    → (r : Record) × (rs : Entries) × (option_and_then record_of (whole_record last (bytes_of h ++ bytes) es) ≡ Some r)
    × (cond last (one_more k (record_of (bytes_of h ++ bytes)) (records_behind [] es)) (records_behind (bytes_of h ++ bytes) es) ≡ (k, r) ∷ rs)
first_record k true h bytes es whole runs =
    let s = some_is (record_of (bytes_of h ++ bytes)) whole in
    (s.0, records_behind [] es, s.1, ap (λ (o : Option Record). one_more k o (records_behind [] es)) s.1)
first_record k false h bytes [] whole runs = cc
first_record k false h bytes (f ∷ fs) whole runs =
    let g : List ℕ × ℕ = (bytes_of h ++ bytes, chunks_in h + 1) in
    let next = first_record f.key f.last (Some g) f.bytes fs runs.1 runs.2 in
    let same : k ≡ f.key = stays_same k f.key g f.chunk runs.0 in
    (next.0, next.1, next.2, next.3 ∙ ap (λ (j : Key). (j, next.0) ∷ next.1) (sym same))

more_has : (j k : Key) (o : Option Record) (rs : Entries) → is_some (get j rs) ≡ true → is_some (get j (one_more k o rs)) ≡ true
more_has j k None rs had = had
more_has j k (Some r) rs had = elim (is_eq (key_cmp j k)) as (λ b. is_some (cond b (Some r) (get j rs)) ≡ true) [ true ↦ refl | false ↦ had ]

has_still : (j k : Key) (last : Bool) (h : Option (List ℕ × ℕ)) (bytes : List ℕ) (es : List Entry) → is_some (get j (records_behind (bytes_of (hand_after h last bytes)) es)) ≡ true
    → is_some (get j (cond last (one_more k (record_of (bytes_of h ++ bytes)) (records_behind [] es)) (records_behind (bytes_of h ++ bytes) es))) ≡ true
has_still j k true h bytes es had = more_has j k (record_of (bytes_of h ++ bytes)) (records_behind [] es) had
has_still j k false h bytes es had = had

-- each entry's key has a record
pub keys_have : (es : List Entry) (last : Option Key) (h : Option (List ℕ × ℕ)) → Runs last h es → AllByRecursion (λ e. is_some (get e.key (records_behind (bytes_of h) es)) ≡ true) es
keys_have [] last h runs = tt
keys_have (e ∷ es) last h runs =
    let first = first_record e.key e.last h e.bytes es runs.1 runs.2 in
    let found : is_some (get e.key (records_behind (bytes_of h) (e ∷ es))) ≡ true =
    ap (λ (l : Entries). is_some (get e.key l)) first.3 ∙ ap (λ (o : Ordering). is_some (cond (is_eq o) (Some first.0) (get e.key first.1))) (key_itself e.key) in (
      found,
      all_mapped (λ f. is_some (get f.key (records_behind (bytes_of (hand_after h e.last e.bytes)) es)) ≡ true) (λ f. is_some (get f.key (records_behind (bytes_of h) (e ∷ es))) ≡ true)
          (λ f had. has_still f.key e.key e.last h e.bytes es had) es (keys_have es (Some e.key) (hand_after h e.last e.bytes) runs.2),
    )
