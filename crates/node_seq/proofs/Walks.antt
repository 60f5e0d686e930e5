-- A walk over a map, one read after another: what is left of it, which falls with each step, and what it has gathered.
use Rattle.std.proofs.Common.{◌≡◌, ℕ, suc, ◌+◌, ◌<◌, ◌≤◌, Bool, true, false, cond, List, [], ◌∷◌, ◌++◌, filter, length, reverse, Option, Some, None, unwrap_or, Ordering, Less, Equal, Greater, is_lt, refl, sym, ap, subst, ◌∙◌, arith, le_trans, append_assoc, append-nil}
use Rattle.std.proofs.lemmas.List.{reverse-append}
use Rattle.std.specs.List.{AllByRecursion}
use Rattle.tree_model.specs.declared.key.Key.{Key}
use Rattle.tree_model.specs.declared.record.Record.{Record}
use Rattle.tree_model.specs.Keys.{key_cmp}
use Rattle.tree_model.specs.Entries.{Entries, Above, Below, Sorted, first_above, last_below, entries_above, entries_below}
use Rattle.std.specs.Option.{option_or}
use Rattle.tree_model.proofs.Entries.{first_above_has, last_below_has, last_below_below, above_lower, scan_on, scan_end}
use Rattle.tree_model.proofs.Keys.{key_total, key_itself, key_turned}
use Rattle.tree_model.proofs.Lists.{all_on}
use Rattle.node_seq.specs.WalkSteps.{from_entry, steps_left, HasStepped}
use Rattle.node_seq.specs.inside.Ranks.{keys_before}
use Rattle.node_seq.specs.Reads.{LiesAbove, LiesBelow, IsEntryOfTrees}
use Rattle.node_seq.proofs.Ranks.{key_nearer, key_left, key_earlier, key_before}

-- ---- counts of the items that pass a test

module _ {A : Type 0} where
  no_fewer : (b : Bool) (x : A) (xs : List A) → length xs ≤ length (cond b (x ∷ xs) xs)
  no_fewer true x xs = omega arith
  no_fewer false x xs = omega arith

-- of two tests of which the second passes only what the first does
module _ {A : Type 0} (p q : A → Bool) (within : (x : A) → q x ≡ true → p x ≡ true) where
  no_more : (xs : List A) → length (filter q xs) ≤ length (filter p xs)
  no_more [] = omega arith
  no_more (x ∷ xs) = elim (q x) as (λ b. q x ≡ b → length (cond b (x ∷ filter q xs) (filter q xs)) ≤ length (cond (p x) (x ∷ filter p xs) (filter p xs))) [
    | true ↦ λ t. subst (λ b. suc (length (filter q xs)) ≤ length (cond b (x ∷ filter p xs) (filter p xs))) (sym (within x t)) (let ih = no_more xs in omega (arith, ih))
    | false ↦ λ _. le_trans (no_more xs) (no_fewer (p x) x (filter p xs))
  ] refl

  one_more : (x : A) (xs : List A) → length (filter q xs) < length (filter p xs) → length (filter q (x ∷ xs)) < length (filter p (x ∷ xs))
  one_more x xs h = elim (q x) as (λ b. q x ≡ b → length (cond b (x ∷ filter q xs) (filter q xs)) < length (cond (p x) (x ∷ filter p xs) (filter p xs))) [
    | true ↦ λ t. subst (λ b. suc (length (filter q xs)) < length (cond b (x ∷ filter p xs) (filter p xs))) (sym (within x t)) (omega (arith, h))
    | false ↦ λ _. le_trans h (no_fewer (p x) x (filter p xs))
  ] refl

  here : (x : A) (xs : List A) → p x ≡ true → q x ≡ false → length (filter q (x ∷ xs)) < length (filter p (x ∷ xs))
  here x xs a b =
      let m = no_more xs in
      subst (λ v. length (cond v (x ∷ filter q xs) (filter q xs)) < length (cond (p x) (x ∷ filter p xs) (filter p xs))) (sym b)
      (subst (λ v. length (filter q xs) < length (cond v (x ∷ filter p xs) (filter p xs))) (sym a) (omega (arith, m)))

  -- an item that passes the first test alone makes a difference
  fewer : (xs : List A) → AllByRecursion (λ x. p x ≡ true → q x ≡ false → length (filter q xs) < length (filter p xs)) xs
  fewer [] = tt
  fewer (x ∷ xs) = (here x xs, all_on (λ y. p y ≡ true → q y ≡ false → length (filter q xs) < length (filter p xs)) (λ y. p y ≡ true → q y ≡ false → length (filter q (x ∷ xs)) < length (filter p (x ∷ xs))) (λ y h a b. one_more x xs (h a b)) xs (fewer xs))

-- ---- what lies above an entry that was found, and what lies below it

lt_is : (o : Ordering) → is_lt o ≡ true → o ≡ Less
lt_is Less h = refl
lt_is Equal h = cc
lt_is Greater h = cc

pub fewer_above : (k j : Key) (e : Key × Record) (es : Entries) → Above k e → first_above j es ≡ Some e → length (entries_above e.0 es) < length (entries_above k es)
fewer_above k j e es a h =
    let p : Key × Record → Bool = λ x. is_lt (key_cmp k x.0) in
    let q : Key × Record → Bool = λ x. is_lt (key_cmp e.0 x.0) in
    first_above_has (λ x. p x ≡ true → q x ≡ false → length (entries_above e.0 es) < length (entries_above k es)) j e es
    (fewer p q (λ x t. ap is_lt (key_total.trans k e.0 x.0 a (lt_is _ t))) es) h (ap is_lt a) (ap is_lt (key_itself e.0))

pub fewer_below : (k j : Key) (e : Key × Record) (es : Entries) → Below k e → last_below j es ≡ Some e → length (entries_below e.0 es) < length (entries_below k es)
fewer_below k j e es b h =
    let p : Key × Record → Bool = λ x. is_lt (key_cmp x.0 k) in
    let q : Key × Record → Bool = λ x. is_lt (key_cmp x.0 e.0) in
    last_below_has (λ x. p x ≡ true → q x ≡ false → length (entries_below e.0 es) < length (entries_below k es)) j e es
    (fewer p q (λ x t. ap is_lt (key_total.trans x.0 e.0 k (lt_is _ t) b)) es) h (ap is_lt b) (ap is_lt (key_itself e.0))

-- ---- what is left of a walk: the measure of its loop

-- of steps downwards from a key
abbrev pub left_below : Option Entries → Key → ℕ
left_below None k = keys_before k
left_below (Some es) k = length (entries_below k es) + 1

abbrev pub left_downwards : Option Entries → Option (Key × Record) → ℕ
left_downwards contents None = 0
left_downwards contents (Some e) = left_below contents e.0

-- A walk was at the entry e, and read from the key j, which is that entry's or a later one. `was` is its map at its beginning, `now` at the read.
pub falls_upwards : (was now : Option Entries) (e : Key × Record) (j : Key) (o : Option (Key × Record)) → now ≡ was
    → (was ≡ None → IsEntryOfTrees (Some e))
    → ((es : Entries) → now ≡ Some es → o ≡ first_above j es) → LiesAbove e.0 o → (now ≡ None → IsEntryOfTrees o)
    → steps_left was o < steps_left was (Some e)
falls_upwards None now e j None same valid value above found = key_left e.0 (valid refl).0
falls_upwards None now e j (Some f) same valid value above found = key_nearer e.0 f.0 (valid refl).0 (found same).0 above
falls_upwards (Some es) now e j None same valid value above found = omega arith
falls_upwards (Some es) now e j (Some f) same valid value above found = let fewer = fewer_above e.0 j f es above (sym (value es same)) in omega (arith, fewer)

-- The same downwards: j is the key of the entry e or an earlier one.
pub falls_downwards : (was now : Option Entries) (e : Key × Record) (j : Key) (o : Option (Key × Record)) → now ≡ was
    → (was ≡ None → IsEntryOfTrees (Some e))
    → ((es : Entries) → now ≡ Some es → o ≡ last_below j es) → LiesBelow e.0 o → (now ≡ None → IsEntryOfTrees o)
    → left_downwards was o < left_downwards was (Some e)
falls_downwards None now e j None same valid value below found = key_before e.0
falls_downwards None now e j (Some f) same valid value below found = key_earlier e.0 f.0 (valid refl).0 (found same).0 below
falls_downwards (Some es) now e j None same valid value below found = omega arith
falls_downwards (Some es) now e j (Some f) same valid value below found = let fewer = fewer_below e.0 j f es below (sym (value es same)) in omega (arith, fewer)

-- what lies above a key lies above each lower one, and the other way round
pub above_earlier : (k j : Key) (o : Option (Key × Record)) → key_cmp k j ≡ Less → LiesAbove j o → LiesAbove k o
above_earlier k j None h a = tt
above_earlier k j (Some e) h a = above_lower k j h e a

pub below_later : (k j : Key) (o : Option (Key × Record)) → key_cmp j k ≡ Less → LiesBelow j o → LiesBelow k o
below_later k j None h b = tt
below_later k j (Some e) h b = key_total.trans e.0 j k b h

-- ---- what a walk upwards gathers

pub walk_found : (k : Key) (o : Option (Key × Record)) (es : Entries) → Sorted es → o ≡ first_above k es → from_entry o es ≡ entries_above k es
walk_found k None es s h = sym (scan_end k es (sym h))
walk_found k (Some e) es s h = sym (scan_on k e es s (sym h))

-- a step: the entry is gathered, and the next one found
pub walk_step : (out all : Entries) (e : Key × Record) (o : Option (Key × Record)) (es : Entries) → Sorted es → out ++ from_entry (Some e) es ≡ all → o ≡ first_above e.0 es → (out ++ (e ∷ [])) ++ from_entry o es ≡ all
walk_step out all e o es s h g = append_assoc out (e ∷ []) (from_entry o es) ∙ ap (λ v. out ++ (e ∷ v)) (walk_found e.0 o es s g) ∙ h

-- a step answers the entry that it stood before, and at the end nothing
pub stepped_on : (contents : Option Entries) (e : Key × Record) (o : Option (Key × Record))
    → ((es : Entries) → contents ≡ Some es → Sorted es) → (contents ≡ None → IsEntryOfTrees (Some e))
    → ((es : Entries) → contents ≡ Some es → o ≡ first_above e.0 es) → LiesAbove e.0 o → (contents ≡ None → IsEntryOfTrees o)
    → HasStepped contents (Some e) o (Some e)
stepped_on contents e o sorted valid value above found = record {
  entry = refl;
  rest = λ es t. ap (λ v. e ∷ v) (sym (walk_found e.0 o es (sorted es t) (value es t)));
  valid = found;
  shorter = falls_upwards contents contents e e.0 o refl valid value above found;
}

pub stepped_at_end : (contents : Option Entries) → HasStepped contents None None None
stepped_at_end contents = record { entry = refl; rest = λ es t. refl; valid = λ t. tt; shorter = tt }

-- ---- what a walk downwards gathers

pub short_none : (k : Key) (es : Entries) → AllByRecursion (Above k) es → entries_below k es ≡ []
short_none k [] h = refl
short_none k (e ∷ es) h = ap (λ o. cond (is_lt o) (e ∷ entries_below k es) (entries_below k es)) (key_turned k e.0 h.0) ∙ short_none k es h.1

pub short_end : (k : Key) (es : Entries) → last_below k es ≡ None → entries_below k es ≡ []
short_end k [] h = refl
short_end k (x ∷ es) h = elim (last_below k es) as (λ o. last_below k es ≡ o → option_or o (cond (is_lt (key_cmp x.0 k)) (Some x) None) ≡ None → entries_below k (x ∷ es) ≡ []) [
  | None ↦ λ q. elim (is_lt (key_cmp x.0 k)) as (λ b. cond b (Some x) None ≡ None → cond b (x ∷ entries_below k es) (entries_below k es) ≡ []) [ true ↦ λ g. cc | false ↦ λ _. short_end k es q ]
  | Some y ↦ λ _ g. cc
] refl h

entry_is : (a b : Key × Record) → Some a ≡ Some b → a ≡ b
entry_is a b e = ap (λ o. unwrap_or o a) e

-- the entry before a key ends what lies below, and the rest lies below it
pub short_on : (k : Key) (e : Key × Record) (es : Entries) → Sorted es → last_below k es ≡ Some e → entries_below k es ≡ entries_below e.0 es ++ (e ∷ [])
short_on k e [] s h = cc
short_on k e (x ∷ es) s h = elim (last_below k es) as (λ o. last_below k es ≡ o → option_or o (cond (is_lt (key_cmp x.0 k)) (Some x) None) ≡ Some e → entries_below k (x ∷ es) ≡ entries_below e.0 (x ∷ es) ++ (e ∷ [])) [
  | None ↦ λ q. elim (is_lt (key_cmp x.0 k)) as (λ b. cond b (Some x) None ≡ Some e → cond b (x ∷ entries_below k es) (entries_below k es) ≡ entries_below e.0 (x ∷ es) ++ (e ∷ [])) [
    | true ↦ λ g. subst (λ v. x ∷ entries_below k es ≡ entries_below v.0 (x ∷ es) ++ (v ∷ [])) (entry_is x e g)
        (ap (λ v. x ∷ v) (short_end k es q)
        ∙ sym (ap (λ v. v ++ (x ∷ [])) (ap (λ o. cond (is_lt o) (x ∷ entries_below x.0 es) (entries_below x.0 es)) (key_itself x.0) ∙ short_none x.0 es s.0)))
    | false ↦ λ g. cc
  ]
  | Some y ↦ λ q g.
      let found : last_below k es ≡ Some e = q ∙ g in
      let early : key_cmp x.0 e.0 ≡ Less = last_below_has (Above x.0) k e es s.0 found in
      let low : key_cmp x.0 k ≡ Less = key_total.trans x.0 e.0 k early (last_below_below k e es found) in
      ap (λ o. cond (is_lt o) (x ∷ entries_below k es) (entries_below k es)) low
      ∙ ap (λ v. x ∷ v) (short_on k e es s.1 found)
      ∙ sym (ap (λ o. cond (is_lt o) (x ∷ entries_below e.0 es) (entries_below e.0 es) ++ (e ∷ [])) early)
] refl h

-- the entry found and all below it, the greatest first; none where nothing was found
abbrev pub back_from_found : Option (Key × Record) → Entries → Entries
back_from_found None es = []
back_from_found (Some e) es = e ∷ reverse (entries_below e.0 es)

pub back_found : (k : Key) (o : Option (Key × Record)) (es : Entries) → Sorted es → o ≡ last_below k es → back_from_found o es ≡ reverse (entries_below k es)
back_found k None es s h = sym (ap reverse (short_end k es (sym h)))
back_found k (Some e) es s h = sym (ap reverse (short_on k e es s (sym h)) ∙ reverse-append (entries_below e.0 es) (e ∷ []))

pub back_step : (out all : Entries) (e : Key × Record) (o : Option (Key × Record)) (es : Entries) → Sorted es → out ++ back_from_found (Some e) es ≡ all → o ≡ last_below e.0 es → (out ++ (e ∷ [])) ++ back_from_found o es ≡ all
back_step out all e o es s h g = append_assoc out (e ∷ []) (back_from_found o es) ∙ ap (λ v. out ++ (e ∷ v)) (back_found e.0 o es s g) ∙ h

-- the end: nothing more is found
pub back_ended : (out all : Entries) (o : Option (Key × Record)) (es : Entries) → ((e : Key × Record) → o ≡ Some e → ⊥) → out ++ back_from_found o es ≡ all → out ≡ all
back_ended out all None es never h = sym (append-nil out) ∙ h
back_ended out all (Some e) es never h = absurd (never e refl)
