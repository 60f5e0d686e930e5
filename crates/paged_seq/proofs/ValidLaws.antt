-- Entries that a valid tree may have, as a test; and the first and the last of them beside a key.
use Rattle.std.proofs.Common.{◌≡◌, ◌≤◌, ◌⊎◌, ℕ, suc, ◌+◌, Bool, true, false, ◌&&◌, ◌||◌, nat_le, cond, [], ◌∷◌, length, Option, Some, None, IfSome, inl, inr, Less, Equal, Greater, refl, sym, ap, subst, ◌∙◌, arith}
use Rattle.std.proofs.lemmas.Bool.{leb-true, le-leb, and_from}
use Rattle.std.proofs.lemmas.Option.{none-some, same_Some}
use Rattle.std.specs.List.{AllByRecursion}
use Rattle.std.specs.Option.{option_or}
use Rattle.std.specs.Ordering.{is_lt}
use Rattle.std.specs.declared.cmp.Ordering.{Ordering}
use Rattle.dewey_labels.specs.Labels.{is_label_within, level}
use Rattle.dewey_labels.proofs.Limits.{label_of_test, test_of_label}
use Rattle.tree_model.specs.declared.key.Key.{Key}
use Rattle.tree_model.specs.declared.record.Record.{Record}
use Rattle.tree_model.specs.Entries.{Entries, Above, Below, Sorted, first_above, last_below, entries_above, entries_below}
use Rattle.tree_model.specs.Keys.{IsKeyName, IsValidKey, key_cmp}
use Rattle.tree_model.specs.Limits.{deepest_level}
use Rattle.tree_model.specs.Names.{Name, is_name}
use Rattle.tree_model.proofs.Keys.{key_total, key_itself, key_turned}
use Rattle.node_records.proofs.ReadLaws.{both}
use Rattle.node_seq.specs.Reads.{LiesAbove, LiesBelow}
use Rattle.paged_seq.specs.PagedMaps.{is_key_name, is_valid_entry, valid_entries}

-- ---- as a test

abbrev pub key_test : Key → Bool
key_test k = is_label_within k.label && (nat_le (level k.label) deepest_level && is_key_name k.name)

empty_name : (n : Name) → nat_le (length n) 0 ≡ true → n ≡ []
empty_name [] h = refl
empty_name (x ∷ xs) h = let none = leb-true (suc (length xs)) 0 h in absurd (omega (arith, none))

either : (a b : Bool) → (a || b) ≡ true → (a ≡ true) ⊎ (b ≡ true)
either true b h = inl refl
either false b h = inr h

name_valid : (n : Name) → is_key_name n ≡ true → IsKeyName n
name_valid n h = elim (either (nat_le (length n) 0) (is_name n) h) [ inl none ↦ inl (empty_name n none) | inr is ↦ inr is ]

right_or : (a b : Bool) → b ≡ true → (a || b) ≡ true
right_or true b h = refl
right_or false b h = h

name_test : (n : Name) → IsKeyName n → is_key_name n ≡ true
name_test n (inl none) = ap (λ (m : Name). nat_le (length m) 0 || is_name m) none
name_test n (inr is) = right_or (nat_le (length n) 0) (is_name n) is

pub test_valid : (k : Key) → key_test k ≡ true → IsValidKey k
test_valid k h =
    let a = both (is_label_within k.label) (nat_le (level k.label) deepest_level && is_key_name k.name) h in
    let b = both (nat_le (level k.label) deepest_level) (is_key_name k.name) a.1 in
    record { label = label_of_test k.label a.0; level = leb-true (level k.label) deepest_level b.0; name = name_valid k.name b.1 }

pub valid_test : (k : Key) → IsValidKey k → key_test k ≡ true
valid_test k v =
    and_from (is_label_within k.label) (nat_le (level k.label) deepest_level && is_key_name k.name) (test_of_label k.label v.label)
    (and_from (nat_le (level k.label) deepest_level) (is_key_name k.name) (le-leb (level k.label) deepest_level v.level) (name_test k.name v.name))

pub same_test : (a b : Bool) → (a ≡ true → b ≡ true) → (b ≡ true → a ≡ true) → a ≡ b
same_test true b f g = sym (f refl)
same_test false true f g = g refl
same_test false false f g = refl

-- ---- beside a key

-- the entry that was found above a key, or the first one that a valid tree may have behind it
abbrev pub next_valid : Entries → Option (Key × Record) → Option (Key × Record)
next_valid es None = None
next_valid es (Some e) = cond (is_valid_entry e) (Some e) (first_above e.0 (valid_entries es))

abbrev pub prev_valid : Entries → Option (Key × Record) → Option (Key × Record)
prev_valid es None = None
prev_valid es (Some e) = cond (is_valid_entry e) (Some e) (last_below e.0 (valid_entries es))

-- how many entries are left from the one that was found on
abbrev pub left_above : Entries → Option (Key × Record) → ℕ
left_above es None = 0
left_above es (Some e) = length (entries_above e.0 es) + 1

abbrev pub left_below : Entries → Option (Key × Record) → ℕ
left_below es None = 0
left_below es (Some e) = length (entries_below e.0 es) + 1

all_kept : (P : Key × Record → Type 0) (es : Entries) → AllByRecursion P es → AllByRecursion P (valid_entries es)
all_kept P [] all = tt
all_kept P (e ∷ es) all = elim (is_valid_entry e) as (λ b. AllByRecursion P (cond b (e ∷ valid_entries es) (valid_entries es))) [ true ↦ (all.0, all_kept P es all.1) | false ↦ all_kept P es all.1 ]

all_mapped : (P Q : Key × Record → Type 0) → ((x : Key × Record) → P x → Q x) → (xs : Entries) → AllByRecursion P xs → AllByRecursion Q xs
all_mapped P Q f [] all = tt
all_mapped P Q f (x ∷ xs) all = (f x all.0, all_mapped P Q f xs all.1)

is_less : (o : Ordering) → is_lt o ≡ true → o ≡ Less
is_less Less h = refl
is_less Equal h = cc
is_less Greater h = cc

head_of : Entries → Option (Key × Record)
head_of [] = None
head_of (e ∷ es) = Some e

first_head : (k : Key) (es : Entries) → AllByRecursion (Above k) es → first_above k es ≡ head_of es
unfolding head_of
first_head k [] all = refl
first_head k (e ∷ es) all = ap (λ o. cond (is_lt o) (Some e) (first_above k es)) all.0

first_in : (P : Key × Record → Type 0) (k : Key) (es : Entries) (e : Key × Record) → AllByRecursion P es → first_above k es ≡ Some e → P e
first_in P k [] e all is = absurd (none-some e is)
first_in P k (x ∷ es) e all is = elim (is_lt (key_cmp k x.0)) as (λ b. cond b (Some x) (first_above k es) ≡ Some e → P e) [ true ↦ λ h. subst P (same_Some x e h) all.0 | false ↦ λ h. first_in P k es e all.1 h ] is

last_in : (P : Key × Record → Type 0) (k : Key) (es : Entries) (e : Key × Record) → AllByRecursion P es → last_below k es ≡ Some e → P e
last_in P k [] e all is = absurd (none-some e is)
last_in P k (x ∷ es) e all is = elim (last_below k es) as (λ o. last_below k es ≡ o → option_or o (cond (is_lt (key_cmp x.0 k)) (Some x) None) ≡ Some e → P e) [
  | Some y ↦ λ h g. last_in P k es e all.1 (h ∙ g)
  | None ↦ λ h g. elim (is_lt (key_cmp x.0 k)) as (λ b. cond b (Some x) None ≡ Some e → P e) [ true ↦ λ f. subst P (same_Some x e f) all.0 | false ↦ λ f. absurd (none-some e f) ] g
] refl is

-- an entry that isn't above a key isn't the first there
skip_first : (k : Key) (x : Key × Record) (es : Entries) → is_lt (key_cmp k x.0) ≡ false → first_above k (valid_entries (x ∷ es)) ≡ first_above k (valid_entries es)
skip_first k x es not = elim (is_valid_entry x) as (λ b. first_above k (cond b (x ∷ valid_entries es) (valid_entries es)) ≡ first_above k (valid_entries es)) [
  | true ↦ ap (λ b. cond b (Some x) (first_above k (valid_entries es))) not
  | false ↦ refl
]

lower_not : (j k : Key) → key_cmp j k ≡ Less → is_lt (key_cmp k j) ≡ false
lower_not j k less = ap is_lt (key_turned j k less)

next_behind : (x : Key × Record) (es : Entries) (o : Option (Key × Record)) → ((e : Key × Record) → o ≡ Some e → Above x.0 e) → next_valid es o ≡ next_valid (x ∷ es) o
next_behind x es None above = refl
next_behind x es (Some e) above = ap (λ (f : Option (Key × Record)). cond (is_valid_entry e) (Some e) f) (sym (skip_first e.0 x es (lower_not x.0 e.0 (above e refl))))

pub above_valid : (k : Key) (es : Entries) → Sorted es → first_above k (valid_entries es) ≡ next_valid es (first_above k es)
above_valid k [] sorted = refl
above_valid k (x ∷ es) sorted = elim (is_lt (key_cmp k x.0)) as (λ b. is_lt (key_cmp k x.0) ≡ b → first_above k (valid_entries (x ∷ es)) ≡ next_valid (x ∷ es) (cond b (Some x) (first_above k es))) [
  | true ↦ λ h.
      let less : key_cmp k x.0 ≡ Less = is_less (key_cmp k x.0) h in
      let up : AllByRecursion (Above k) (valid_entries es) = all_kept (Above k) es (all_mapped (Above x.0) (Above k) (λ y above. key_total.trans k x.0 y.0 less above) es sorted.0) in
      let same : first_above k (valid_entries es) ≡ first_above x.0 (valid_entries (x ∷ es)) =
      first_head k (valid_entries es) up ∙ sym (first_head x.0 (valid_entries es) (all_kept (Above x.0) es sorted.0)) ∙ sym (skip_first x.0 x es (ap is_lt (key_itself x.0))) in
      elim (is_valid_entry x) as (λ b. first_above k (cond b (x ∷ valid_entries es) (valid_entries es)) ≡ cond b (Some x) (first_above x.0 (valid_entries (x ∷ es)))) [
        | true ↦ ap (λ b. cond b (Some x) (first_above k (valid_entries es))) h
        | false ↦ same
      ]
  | false ↦ λ h. skip_first k x es h ∙ above_valid k es sorted.1 ∙ next_behind x es (first_above k es) (λ e is. first_in (Above x.0) k es e sorted.0 is)
] refl

filter_all : (k : Key) (es : Entries) → AllByRecursion (Above k) es → entries_above k es ≡ es
filter_all k [] all = refl
filter_all k (e ∷ es) all = ap (λ o. cond (is_lt o) (e ∷ entries_above k es) (entries_above k es)) all.0 ∙ ap (λ (l : Entries). e ∷ l) (filter_all k es all.1)

skip_above : (k : Key) (x : Key × Record) (es : Entries) → is_lt (key_cmp k x.0) ≡ false → entries_above k (x ∷ es) ≡ entries_above k es
skip_above k x es not = ap (λ b. cond b (x ∷ entries_above k es) (entries_above k es)) not

left_behind : (x : Key × Record) (es : Entries) (o : Option (Key × Record)) → ((e : Key × Record) → o ≡ Some e → Above x.0 e) → left_above (x ∷ es) o ≡ left_above es o
left_behind x es None above = refl
left_behind x es (Some e) above = ap (λ (l : Entries). length l + 1) (skip_above e.0 x es (lower_not x.0 e.0 (above e refl)))

pub above_left : (k : Key) (es : Entries) → Sorted es → left_above es (first_above k es) ≤ length (entries_above k es)
above_left k [] sorted = omega arith
above_left k (x ∷ es) sorted = elim (is_lt (key_cmp k x.0)) as (λ b. is_lt (key_cmp k x.0) ≡ b → left_above (x ∷ es) (cond b (Some x) (first_above k es)) ≤ length (cond b (x ∷ entries_above k es) (entries_above k es))) [
  | true ↦ λ h.
      let less : key_cmp k x.0 ≡ Less = is_less (key_cmp k x.0) h in
      let mine : length (entries_above x.0 (x ∷ es)) ≡ length es = ap (λ (l : Entries). length l) (skip_above x.0 x es (ap is_lt (key_itself x.0)) ∙ filter_all x.0 es sorted.0) in
      let all : length (entries_above k es) ≡ length es = ap (λ (l : Entries). length l) (filter_all k es (all_mapped (Above x.0) (Above k) (λ y above. key_total.trans k x.0 y.0 less above) es sorted.0)) in
      omega (arith, mine, all)
  | false ↦ λ h. subst (λ (n : ℕ). n ≤ length (entries_above k es)) (sym (left_behind x es (first_above k es) (λ e is. first_in (Above x.0) k es e sorted.0 is))) (above_left k es sorted.1)
] refl

pub above_within : (k : Key) (es : Entries) → length (entries_above k es) ≤ length es
above_within k [] = omega arith
above_within k (x ∷ es) = let less = above_within k es in elim (is_lt (key_cmp k x.0)) as (λ b. length (cond b (x ∷ entries_above k es) (entries_above k es)) ≤ length (x ∷ es)) [ true ↦ omega (arith, less) | false ↦ omega (arith, less) ]

-- ---- downwards

none_last : (k : Key) (es : Entries) → AllByRecursion (Above k) es → last_below k es ≡ None
none_last k [] all = refl
none_last k (e ∷ es) all = (λ i. option_or (none_last k es all.1 i) (cond (lower_not k e.0 all.0 i) (Some e) None))

below_step : (k : Key) (x e : Key × Record) (es : Entries) → is_lt (key_cmp x.0 k) ≡ true → is_lt (key_cmp x.0 e.0) ≡ true → last_below k (valid_entries es) ≡ cond (is_valid_entry e) (Some e) (last_below e.0 (valid_entries es))
    → last_below k (valid_entries (x ∷ es)) ≡ cond (is_valid_entry e) (Some e) (last_below e.0 (valid_entries (x ∷ es)))
below_step k x e es low lower is = elim (is_valid_entry x) as (λ b. last_below k (cond b (x ∷ valid_entries es) (valid_entries es)) ≡ cond (is_valid_entry e) (Some e) (last_below e.0 (cond b (x ∷ valid_entries es) (valid_entries es)))) [
  | true ↦ (λ i. option_or (is i) (cond (low i) (Some x) None)) ∙ (elim (is_valid_entry e) as (λ b. option_or (cond b (Some e) (last_below e.0 (valid_entries es))) (Some x) ≡ cond b (Some e) (option_or (last_below e.0 (valid_entries es)) (cond (is_lt (key_cmp x.0 e.0)) (Some x) None))) [
    | true ↦ refl
    | false ↦ ap (λ b. option_or (last_below e.0 (valid_entries es)) (cond b (Some x) None)) (sym lower)
  ])
  | false ↦ is
]

lower_is : (k : Key) (x e : Key × Record) → Above x.0 e → Below k e → is_lt (key_cmp x.0 k) ≡ true
lower_is k x e above below = ap is_lt (key_total.trans x.0 e.0 k above below)

last_below_is : (k : Key) (es : Entries) (e : Key × Record) → last_below k es ≡ Some e → Below k e
last_below_is k [] e is = absurd (none-some e is)
last_below_is k (x ∷ es) e is = elim (last_below k es) as (λ o. last_below k es ≡ o → option_or o (cond (is_lt (key_cmp x.0 k)) (Some x) None) ≡ Some e → Below k e) [
  | Some y ↦ λ h g. last_below_is k es e (h ∙ g)
  | None ↦ λ h g. elim (is_lt (key_cmp x.0 k)) as (λ b. is_lt (key_cmp x.0 k) ≡ b → cond b (Some x) None ≡ Some e → Below k e) [
    | true ↦ λ t f. subst (Below k) (same_Some x e f) (is_less (key_cmp x.0 k) t)
    | false ↦ λ t f. absurd (none-some e f)
  ] refl g
] refl is

pub below_valid : (k : Key) (es : Entries) → Sorted es → last_below k (valid_entries es) ≡ prev_valid es (last_below k es)
below_valid k [] sorted = refl
below_valid k (x ∷ es) sorted = elim (last_below k es) as (λ o. last_below k es ≡ o → last_below k (valid_entries (x ∷ es)) ≡ prev_valid (x ∷ es) (option_or o (cond (is_lt (key_cmp x.0 k)) (Some x) None))) [
  | Some e ↦ λ h.
      let above : Above x.0 e = last_in (Above x.0) k es e sorted.0 h in
      below_step k x e es (lower_is k x e above (last_below_is k es e h)) (ap is_lt above) (below_valid k es sorted.1 ∙ ap (prev_valid es) h)
  | None ↦ λ h.
      let none : last_below k (valid_entries es) ≡ None = below_valid k es sorted.1 ∙ ap (prev_valid es) h in
      let low : last_below x.0 (valid_entries es) ≡ None = none_last x.0 (valid_entries es) (all_kept (Above x.0) es sorted.0) in
      elim (is_lt (key_cmp x.0 k)) as (λ b. is_lt (key_cmp x.0 k) ≡ b → last_below k (valid_entries (x ∷ es)) ≡ prev_valid (x ∷ es) (cond b (Some x) None)) [
        | true ↦ λ t. elim (is_valid_entry x) as (λ b. last_below k (cond b (x ∷ valid_entries es) (valid_entries es)) ≡ cond b (Some x) (last_below x.0 (cond b (x ∷ valid_entries es) (valid_entries es)))) [
          | true ↦ (λ i. option_or (none i) (cond (t i) (Some x) None))
          | false ↦ none ∙ sym low
        ]
        | false ↦ λ t. elim (is_valid_entry x) as (λ b. last_below k (cond b (x ∷ valid_entries es) (valid_entries es)) ≡ None) [
          | true ↦ (λ i. option_or (none i) (cond (t i) (Some x) None))
          | false ↦ none
        ]
      ] refl
] refl

none_below : (k : Key) (es : Entries) → AllByRecursion (Above k) es → entries_below k es ≡ []
none_below k [] all = refl
none_below k (e ∷ es) all = ap (λ b. cond b (e ∷ entries_below k es) (entries_below k es)) (lower_not k e.0 all.0) ∙ none_below k es all.1

pub below_left : (k : Key) (es : Entries) → Sorted es → left_below es (last_below k es) ≤ length (entries_below k es)
below_left k [] sorted = omega arith
below_left k (x ∷ es) sorted = elim (last_below k es) as (λ o. last_below k es ≡ o → left_below (x ∷ es) (option_or o (cond (is_lt (key_cmp x.0 k)) (Some x) None)) ≤ length (cond (is_lt (key_cmp x.0 k)) (x ∷ entries_below k es) (entries_below k es))) [
  | Some e ↦ λ h.
      let above : Above x.0 e = last_in (Above x.0) k es e sorted.0 h in
      let low = lower_is k x e above (last_below_is k es e h) in
      let mine : length (entries_below e.0 (x ∷ es)) ≡ suc (length (entries_below e.0 es)) = ap (λ b. length (cond b (x ∷ entries_below e.0 es) (entries_below e.0 es))) (ap is_lt above) in
      let all : length (cond (is_lt (key_cmp x.0 k)) (x ∷ entries_below k es) (entries_below k es)) ≡ suc (length (entries_below k es)) = ap (λ b. length (cond b (x ∷ entries_below k es) (entries_below k es))) low in
      let others : length (entries_below e.0 es) + 1 ≤ length (entries_below k es) = subst (λ (o : Option (Key × Record)). left_below es o ≤ length (entries_below k es)) h (below_left k es sorted.1) in
      omega (arith, mine, all, others)
  | None ↦ λ h. elim (is_lt (key_cmp x.0 k)) as (λ b. left_below (x ∷ es) (cond b (Some x) None) ≤ length (cond b (x ∷ entries_below k es) (entries_below k es))) [
    | true ↦
        let itself : is_lt (key_cmp x.0 x.0) ≡ false = ap is_lt (key_itself x.0) in
        let mine : length (entries_below x.0 (x ∷ es)) ≡ 0 = ap (λ b. length (cond b (x ∷ entries_below x.0 es) (entries_below x.0 es))) itself ∙ ap (λ (l : Entries). length l) (none_below x.0 es sorted.0) in
        omega (arith, mine)
    | false ↦ omega arith
  ]
] refl

pub below_within : (k : Key) (es : Entries) → length (entries_below k es) ≤ length es
below_within k [] = omega arith
below_within k (x ∷ es) = let less = below_within k es in elim (is_lt (key_cmp x.0 k)) as (λ b. length (cond b (x ∷ entries_below k es) (entries_below k es)) ≤ length (x ∷ es)) [ true ↦ omega (arith, less) | false ↦ omega (arith, less) ]

-- ---- one entry after another, upwards

pub up_found : (es : Entries) (x found same : Option (Key × Record)) → x ≡ next_valid es found → same ≡ found → IfSome same (λ e. is_valid_entry e ≡ true) → same ≡ x
up_found es x found None is same valid = ap (next_valid es) same ∙ sym is
up_found es x found (Some e) is same valid = sym (ap (λ b. cond b (Some e) (first_above e.0 (valid_entries es))) valid) ∙ ap (next_valid es) same ∙ sym is

pub up_passed : (es : Entries) (x found next : Option (Key × Record)) (at : Key) (r : Record) → Sorted es → x ≡ next_valid es found → found ≡ Some (at, r) → is_valid_entry (at, r) ≡ false → next ≡ first_above at es → x ≡ next_valid es next
up_passed es x found next at r sorted is there invalid then =
    is ∙ ap (next_valid es) there ∙ ap (λ b. cond b (Some (at, r)) (first_above at (valid_entries es))) invalid ∙ above_valid at es sorted ∙ ap (next_valid es) (sym then)

pub up_left : (es : Entries) (n m : ℕ) (found next : Option (Key × Record)) (at : Key) (r : Record) → Sorted es → n + left_above es found ≤ m → found ≡ Some (at, r) → next ≡ first_above at es → n + 1 + left_above es next ≤ m
up_left es n m found next at r sorted left there then =
    let here : n + (length (entries_above at es) + 1) ≤ m = subst (λ (o : Option (Key × Record)). n + left_above es o ≤ m) there left in
    let fewer : left_above es next ≤ length (entries_above at es) = subst (λ (o : Option (Key × Record)). left_above es o ≤ length (entries_above at es)) (sym then) (above_left at es sorted) in
    omega (arith, here, fewer)

pub up_first : (es : Entries) (k : Key) (found : Option (Key × Record)) → Sorted es → found ≡ first_above k es → left_above es found ≤ length es
up_first es k found sorted is =
    let within = above_within k es in
    let fewer : left_above es found ≤ length (entries_above k es) = subst (λ (o : Option (Key × Record)). left_above es o ≤ length (entries_above k es)) (sym is) (above_left k es sorted) in
    omega (arith, within, fewer)

pub up_end : (es : Entries) (n : ℕ) (x found : Option (Key × Record)) → x ≡ next_valid es found → n + left_above es found ≤ length es → length es ≤ n → None ≡ x
up_end es n x None is left all = sym is
up_end es n x (Some e) is left all = absurd (omega (arith, left, all))

pub up_side : (k at : Key) (r : Record) (found next : Option (Key × Record)) → LiesAbove k found → found ≡ Some (at, r) → LiesAbove at next → LiesAbove k next
up_side k at r found None side there then = tt
up_side k at r found (Some e) side there then = let first : Above k (at, r) = subst (LiesAbove k) there side in key_total.trans k at e.0 first then

-- ---- one entry after another, downwards

pub down_found : (es : Entries) (x found same : Option (Key × Record)) → x ≡ prev_valid es found → same ≡ found → IfSome same (λ e. is_valid_entry e ≡ true) → same ≡ x
down_found es x found None is same valid = ap (prev_valid es) same ∙ sym is
down_found es x found (Some e) is same valid = sym (ap (λ b. cond b (Some e) (last_below e.0 (valid_entries es))) valid) ∙ ap (prev_valid es) same ∙ sym is

pub down_passed : (es : Entries) (x found next : Option (Key × Record)) (at : Key) (r : Record) → Sorted es → x ≡ prev_valid es found → found ≡ Some (at, r) → is_valid_entry (at, r) ≡ false → next ≡ last_below at es → x ≡ prev_valid es next
down_passed es x found next at r sorted is there invalid then =
    is ∙ ap (prev_valid es) there ∙ ap (λ b. cond b (Some (at, r)) (last_below at (valid_entries es))) invalid ∙ below_valid at es sorted ∙ ap (prev_valid es) (sym then)

pub down_left : (es : Entries) (n m : ℕ) (found next : Option (Key × Record)) (at : Key) (r : Record) → Sorted es → n + left_below es found ≤ m → found ≡ Some (at, r) → next ≡ last_below at es → n + 1 + left_below es next ≤ m
down_left es n m found next at r sorted left there then =
    let here : n + (length (entries_below at es) + 1) ≤ m = subst (λ (o : Option (Key × Record)). n + left_below es o ≤ m) there left in
    let fewer : left_below es next ≤ length (entries_below at es) = subst (λ (o : Option (Key × Record)). left_below es o ≤ length (entries_below at es)) (sym then) (below_left at es sorted) in
    omega (arith, here, fewer)

pub down_first : (es : Entries) (k : Key) (found : Option (Key × Record)) → Sorted es → found ≡ last_below k es → left_below es found ≤ length es
down_first es k found sorted is =
    let within = below_within k es in
    let fewer : left_below es found ≤ length (entries_below k es) = subst (λ (o : Option (Key × Record)). left_below es o ≤ length (entries_below k es)) (sym is) (below_left k es sorted) in
    omega (arith, within, fewer)

pub down_end : (es : Entries) (n : ℕ) (x found : Option (Key × Record)) → x ≡ prev_valid es found → n + left_below es found ≤ length es → length es ≤ n → None ≡ x
down_end es n x None is left all = sym is
down_end es n x (Some e) is left all = absurd (omega (arith, left, all))

pub down_side : (k at : Key) (r : Record) (found next : Option (Key × Record)) → LiesBelow k found → found ≡ Some (at, r) → LiesBelow at next → LiesBelow k next
down_side k at r found None side there then = tt
down_side k at r found (Some e) side there then = let first : Below k (at, r) = subst (LiesBelow k) there side in key_total.trans e.0 at k then first
