-- Laws of maps as sorted lists of entries: what is found where a key cuts the list in two, and what a put and a del do.
use Rattle.std.proofs.Common.{◌≡◌, true, false, cond, List, [], ◌∷◌, ◌++◌, Option, Some, None, unwrap_or, Less, Equal, is_lt, is_eq, refl, sym, ap, subst, ◌∙◌, append_assoc}
use Rattle.std.specs.Cmp.{alike_right}
use Rattle.std.specs.List.{AllByRecursion}
use Rattle.tree_model.specs.declared.change.Change.{Change}
use Rattle.tree_model.specs.declared.key.Key.{Key}
use Rattle.tree_model.specs.declared.record.Record.{Record}
use Rattle.tree_model.specs.Keys.{key_cmp}
use Rattle.tree_model.specs.Entries.{Entries, Below, Above, Sorted, get, first_above, last_below, entries_above, put, del, set, changed, put_all}
use Rattle.std.specs.Option.{option_or}
use Rattle.tree_model.specs.Orders.{by_order}
use Rattle.tree_model.proofs.Orders.{by_cases, lt_is}
use Rattle.tree_model.proofs.Keys.{key_total, key_itself, key_turned, key_turned_back, key_tied}
use Rattle.tree_model.proofs.Lists.{all_append, all_on, all_by, all_behind}

-- ---- of entries below a key and above it

-- the entry lies at the key or above it
abbrev pub NotBelow : Key → Key × Record → Type 0
NotBelow k e = is_lt (key_cmp e.0 k) ≡ false

pub above_not_below : (k : Key) (e : Key × Record) → Above k e → NotBelow k e
above_not_below k e h = ap is_lt (key_turned k e.0 h)

-- what lies above a key lies above each lower one
pub above_lower : (j k : Key) → key_cmp j k ≡ Less → (e : Key × Record) → Above k e → Above j e
above_lower j k h e a = key_total.trans j k e.0 h a

pub all_above_lower : (j k : Key) → key_cmp j k ≡ Less → (es : Entries) → AllByRecursion (Above k) es → AllByRecursion (Above j) es
all_above_lower j k h = all_on (Above k) (Above j) (above_lower j k h)

abbrev pub head_of : Entries → Option (Key × Record)
head_of [] = None
head_of (e ∷ es) = Some e

abbrev pub last_of : Entries → Option (Key × Record)
last_of [] = None
last_of (e ∷ es) = option_or (last_of es) (Some e)

-- ---- what is found in two parts of which the key lies between

pub first_above_past : (k : Key) (xs ys : Entries) → AllByRecursion (Below k) xs → first_above k (xs ++ ys) ≡ first_above k ys
first_above_past k [] ys h = refl
first_above_past k (x ∷ xs) ys h = ap (λ o. cond (is_lt o) (Some x) (first_above k (xs ++ ys))) (key_turned x.0 k h.0) ∙ first_above_past k xs ys h.1

pub first_above_head : (k : Key) (ys : Entries) → AllByRecursion (Above k) ys → first_above k ys ≡ head_of ys
first_above_head k [] h = refl
first_above_head k (y ∷ ys) h = ap (λ o. cond (is_lt o) (Some y) (first_above k ys)) h.0

pub last_below_none : (k : Key) (ys : Entries) → AllByRecursion (NotBelow k) ys → last_below k ys ≡ None
last_below_none k [] h = refl
last_below_none k (y ∷ ys) h = λ i. option_or (last_below_none k ys h.1 i) (cond (h.0 i) (Some y) None)

pub last_below_past : (k : Key) (xs ys : Entries) → AllByRecursion (NotBelow k) ys → last_below k (xs ++ ys) ≡ last_below k xs
last_below_past k [] ys h = last_below_none k ys h
last_below_past k (x ∷ xs) ys h = ap (λ o. option_or o (cond (is_lt (key_cmp x.0 k)) (Some x) None)) (last_below_past k xs ys h)

pub last_below_last : (k : Key) (xs : Entries) → AllByRecursion (Below k) xs → last_below k xs ≡ last_of xs
last_below_last k [] h = refl
last_below_last k (x ∷ xs) h = λ i. option_or (last_below_last k xs h.1 i) (cond (is_lt (h.0 i)) (Some x) None)

pub get_past : (k : Key) (xs ys : Entries) → AllByRecursion (Below k) xs → get k (xs ++ ys) ≡ get k ys
get_past k [] ys h = refl
get_past k (x ∷ xs) ys h = ap (λ o. cond (is_eq o) (Some x.1) (get k (xs ++ ys))) (key_turned x.0 k h.0) ∙ get_past k xs ys h.1

pub get_none : (k : Key) (ys : Entries) → AllByRecursion (Above k) ys → get k ys ≡ None
get_none k [] h = refl
get_none k (y ∷ ys) h = ap (λ o. cond (is_eq o) (Some y.1) (get k ys)) h.0 ∙ get_none k ys h.1

pub get_here : (x : Key × Record) (ys : Entries) → get x.0 (x ∷ ys) ≡ Some x.1
get_here x ys = ap (λ o. cond (is_eq o) (Some x.1) (get x.0 ys)) (key_itself x.0)

-- ---- what is found is an entry of the map, above the key or below it

entry_is : (a b : Key × Record) → Some a ≡ Some b → a ≡ b
entry_is a b e = ap (λ o. unwrap_or o a) e

pub first_above_has : (P : Key × Record → Type 0) (k : Key) (e : Key × Record) (es : Entries) → AllByRecursion P es → first_above k es ≡ Some e → P e
first_above_has P k e [] a h = cc
first_above_has P k e (x ∷ es) a h = elim (is_lt (key_cmp k x.0)) as (λ b. cond b (Some x) (first_above k es) ≡ Some e → P e) [ true ↦ λ g. subst P (entry_is x e g) a.0 | false ↦ λ g. first_above_has P k e es a.1 g ] h

pub first_above_above : (k : Key) (e : Key × Record) (es : Entries) → first_above k es ≡ Some e → Above k e
first_above_above k e [] h = cc
first_above_above k e (x ∷ es) h = elim (is_lt (key_cmp k x.0)) as (λ b. is_lt (key_cmp k x.0) ≡ b → cond b (Some x) (first_above k es) ≡ Some e → Above k e) [
  | true ↦ λ q g. subst (Above k) (entry_is x e g) (lt_is _ q)
  | false ↦ λ _ g. first_above_above k e es g
] refl h

pub last_below_has : (P : Key × Record → Type 0) (k : Key) (e : Key × Record) (es : Entries) → AllByRecursion P es → last_below k es ≡ Some e → P e
last_below_has P k e [] a h = cc
last_below_has P k e (x ∷ es) a h = elim (last_below k es) as (λ o. last_below k es ≡ o → option_or o (cond (is_lt (key_cmp x.0 k)) (Some x) None) ≡ Some e → P e) [
  | None ↦ λ _. elim (is_lt (key_cmp x.0 k)) as (λ b. cond b (Some x) None ≡ Some e → P e) [ true ↦ λ g. subst P (entry_is x e g) a.0 | false ↦ λ g. cc ]
  | Some y ↦ λ q g. last_below_has P k e es a.1 (q ∙ g)
] refl h

pub last_below_below : (k : Key) (e : Key × Record) (es : Entries) → last_below k es ≡ Some e → Below k e
last_below_below k e [] h = cc
last_below_below k e (x ∷ es) h = elim (last_below k es) as (λ o. last_below k es ≡ o → option_or o (cond (is_lt (key_cmp x.0 k)) (Some x) None) ≡ Some e → Below k e) [
  | None ↦ λ _. elim (is_lt (key_cmp x.0 k)) as (λ b. is_lt (key_cmp x.0 k) ≡ b → cond b (Some x) None ≡ Some e → Below k e) [ true ↦ λ q g. subst (Below k) (entry_is x e g) (lt_is _ q) | false ↦ λ _ g. cc ] refl
  | Some y ↦ λ q g. last_below_below k e es (q ∙ g)
] refl h

-- ---- a put

pub put_past : (x : Key × Record) (xs ys : Entries) → AllByRecursion (Below x.0) xs → put x (xs ++ ys) ≡ xs ++ put x ys
put_past x [] ys h = refl
put_past x (e ∷ xs) ys h = ap (λ o. by_order o (x ∷ e ∷ (xs ++ ys)) (x ∷ (xs ++ ys)) (e ∷ put x (xs ++ ys))) (key_turned e.0 x.0 h.0) ∙ ap (λ v. e ∷ v) (put_past x xs ys h.1)

-- at a new key
pub put_new : (x : Key × Record) (ys : Entries) → AllByRecursion (Above x.0) ys → put x ys ≡ x ∷ ys
put_new x [] h = refl
put_new x (e ∷ ys) h = ap (λ o. by_order o (x ∷ e ∷ ys) (x ∷ ys) (e ∷ put x ys)) h.0

-- at the key of an entry
pub put_here : (x e : Key × Record) (ys : Entries) → key_cmp x.0 e.0 ≡ Equal → put x (e ∷ ys) ≡ x ∷ ys
put_here x e ys h = ap (λ o. by_order o (x ∷ e ∷ ys) (x ∷ ys) (e ∷ put x ys)) h

pub all_put : (P : Key × Record → Type 0) (x : Key × Record) (es : Entries) → P x → AllByRecursion P es → AllByRecursion P (put x es)
all_put P x [] p a = (p, tt)
all_put P x (e ∷ es) p a = by_cases (AllByRecursion P) (key_cmp x.0 e.0) (x ∷ e ∷ es) (x ∷ es) (e ∷ put x es) (λ _. (p, a)) (λ _. (p, a.1)) (λ _. (a.0, all_put P x es p a.1))

pub sorted_put : (x : Key × Record) (es : Entries) → Sorted es → Sorted (put x es)
sorted_put x [] s = (tt, tt)
sorted_put x (e ∷ es) s = by_cases Sorted (key_cmp x.0 e.0) (x ∷ e ∷ es) (x ∷ es) (e ∷ put x es)
    (λ less. ((less, all_above_lower x.0 e.0 less es s.0), s))
    (λ equal. (subst (λ k. AllByRecursion (Above k) es) (sym (key_tied x.0 e.0 equal)) s.0, s.1))
    (λ greater. (all_put (Above e.0) x es (key_turned_back x.0 e.0 greater) s.0, sorted_put x es s.1))

pub get_put : (x : Key × Record) (es : Entries) → get x.0 (put x es) ≡ Some x.1
get_put x [] = get_here x []
get_put x (e ∷ es) = by_cases (λ v. get x.0 v ≡ Some x.1) (key_cmp x.0 e.0) (x ∷ e ∷ es) (x ∷ es) (e ∷ put x es)
    (λ _. get_here x (e ∷ es)) (λ _. get_here x es) (λ greater. ap (λ o. cond (is_eq o) (Some e.1) (get x.0 (put x es))) greater ∙ get_put x es)

-- an entry of another key is passed over
pub get_skip : (k : Key) (e : Key × Record) (es : Entries) → is_eq (key_cmp k e.0) ≡ false → get k (e ∷ es) ≡ get k es
get_skip k e es h = ap (λ b. cond b (Some e.1) (get k es)) h

-- what stands at a key that is not one stands at no key equal to it
apart : (k a b : Key) → key_cmp a b ≡ Equal → is_eq (key_cmp k a) ≡ false → is_eq (key_cmp k b) ≡ false
apart k a b h g = sym (ap is_eq (alike_right key_total a b k h)) ∙ g

pub get_put_other : (k : Key) (x : Key × Record) (es : Entries) → is_eq (key_cmp k x.0) ≡ false → get k (put x es) ≡ get k es
get_put_other k x [] h = get_skip k x [] h
get_put_other k x (e ∷ es) h = by_cases (λ v. get k v ≡ get k (e ∷ es)) (key_cmp x.0 e.0) (x ∷ e ∷ es) (x ∷ es) (e ∷ put x es)
    (λ _. get_skip k x (e ∷ es) h)
    (λ equal. get_skip k x es h ∙ sym (get_skip k e es (apart k x.0 e.0 equal h)))
    (λ _. ap (λ v. cond (is_eq (key_cmp k e.0)) (Some e.1) v) (get_put_other k x es h))

-- ---- a del

pub del_past : (k : Key) (xs ys : Entries) → AllByRecursion (Below k) xs → del k (xs ++ ys) ≡ xs ++ del k ys
del_past k [] ys h = refl
del_past k (e ∷ xs) ys h = ap (λ o. by_order o (e ∷ (xs ++ ys)) (xs ++ ys) (e ∷ del k (xs ++ ys))) (key_turned e.0 k h.0) ∙ ap (λ v. e ∷ v) (del_past k xs ys h.1)

-- at the key of an entry
pub del_here : (k : Key) (e : Key × Record) (ys : Entries) → key_cmp k e.0 ≡ Equal → del k (e ∷ ys) ≡ ys
del_here k e ys h = ap (λ o. by_order o (e ∷ ys) ys (e ∷ del k ys)) h

-- at a key that is not there
pub del_none : (k : Key) (ys : Entries) → AllByRecursion (Above k) ys → del k ys ≡ ys
del_none k [] h = refl
del_none k (e ∷ ys) h = ap (λ o. by_order o (e ∷ ys) ys (e ∷ del k ys)) h.0

pub all_del : (P : Key × Record → Type 0) (k : Key) (es : Entries) → AllByRecursion P es → AllByRecursion P (del k es)
all_del P k [] a = tt
all_del P k (e ∷ es) a = by_cases (AllByRecursion P) (key_cmp k e.0) (e ∷ es) es (e ∷ del k es) (λ _. a) (λ _. a.1) (λ _. (a.0, all_del P k es a.1))

pub sorted_del : (k : Key) (es : Entries) → Sorted es → Sorted (del k es)
sorted_del k [] s = tt
sorted_del k (e ∷ es) s = by_cases Sorted (key_cmp k e.0) (e ∷ es) es (e ∷ del k es) (λ _. s) (λ _. s.1) (λ _. (all_del (Above e.0) k es s.0, sorted_del k es s.1))

pub get_del : (k : Key) (es : Entries) → Sorted es → get k (del k es) ≡ None
get_del k [] s = refl
get_del k (e ∷ es) s = by_cases (λ v. get k v ≡ None) (key_cmp k e.0) (e ∷ es) es (e ∷ del k es)
    (λ less. get_none k (e ∷ es) (less, all_above_lower k e.0 less es s.0))
    (λ equal. get_none k es (subst (λ j. AllByRecursion (Above j) es) (sym (key_tied k e.0 equal)) s.0))
    (λ greater. ap (λ o. cond (is_eq o) (Some e.1) (get k (del k es))) greater ∙ get_del k es s.1)

pub get_del_other : (k j : Key) (es : Entries) → is_eq (key_cmp k j) ≡ false → get k (del j es) ≡ get k es
get_del_other k j [] h = refl
get_del_other k j (e ∷ es) h = by_cases (λ v. get k v ≡ get k (e ∷ es)) (key_cmp j e.0) (e ∷ es) es (e ∷ del j es)
    (λ _. refl)
    (λ equal. sym (get_skip k e es (apart k j e.0 equal h)))
    (λ _. ap (λ v. cond (is_eq (key_cmp k e.0)) (Some e.1) v) (get_del_other k j es h))

-- ---- changes

pub sorted_set : (k : Key) (now : Option Record) (es : Entries) → Sorted es → Sorted (set k now es)
sorted_set k None es s = sorted_del k es s
sorted_set k (Some r) es s = sorted_put (k, r) es s

pub sorted_changed : (cs : List Change) (es : Entries) → Sorted es → Sorted (changed cs es)
sorted_changed [] es s = s
sorted_changed (c ∷ cs) es s = sorted_changed cs (set c.key c.now es) (sorted_set c.key c.now es s)

pub get_set : (k : Key) (now : Option Record) (es : Entries) → Sorted es → get k (set k now es) ≡ now
get_set k None es s = get_del k es s
get_set k (Some r) es s = get_put (k, r) es

pub get_set_other : (k j : Key) (now : Option Record) (es : Entries) → is_eq (key_cmp k j) ≡ false → get k (set j now es) ≡ get k es
get_set_other k j None es h = get_del_other k j es h
get_set_other k j (Some r) es h = get_put_other k (j, r) es h

pub changed_append : (cs ds : List Change) (es : Entries) → changed (cs ++ ds) es ≡ changed ds (changed cs es)
changed_append [] ds es = refl
changed_append (c ∷ cs) ds es = changed_append cs ds (set c.key c.now es)

-- ---- a stretch of new keys goes in, and a stretch comes out

abbrev pub del_all : Entries → Entries → Entries
del_all [] es = es
del_all (x ∷ xs) es = del_all xs (del x.0 es)

pub put_stretch : (a s b : Entries) → Sorted s → AllByRecursion (λ x. AllByRecursion (Below x.0) a) s → AllByRecursion (λ x. AllByRecursion (Above x.0) b) s → put_all s (a ++ b) ≡ a ++ (s ++ b)
put_stretch a [] b t lo hi = refl
put_stretch a (x ∷ s) b t lo hi =
    ap (put_all s) (put_past x a b lo.0 ∙ ap (λ v. a ++ v) (put_new x b hi.0) ∙ sym (append_assoc a (x ∷ []) b))
    ∙ put_stretch (a ++ (x ∷ [])) s b t.1 (all_by (λ y. AllByRecursion (Below y.0) a) (Above x.0) (λ y. AllByRecursion (Below y.0) (a ++ (x ∷ []))) (λ y l u. all_append (Below y.0) a (x ∷ []) l (u, tt)) s lo.1 t.0) hi.1
    ∙ append_assoc a (x ∷ []) (s ++ b)

pub del_stretch : (a s b : Entries) → AllByRecursion (λ x. AllByRecursion (Below x.0) a) s → del_all s (a ++ (s ++ b)) ≡ a ++ b
del_stretch a [] b lo = refl
del_stretch a (x ∷ s) b lo = ap (del_all s) (del_past x.0 a (x ∷ (s ++ b)) lo.0 ∙ ap (λ v. a ++ v) (del_here x.0 x (s ++ b) (key_itself x.0))) ∙ del_stretch a s b lo.1

-- ---- sorted parts

pub sorted_append : (xs ys : Entries) → Sorted xs → Sorted ys → AllByRecursion (λ x. AllByRecursion (Above x.0) ys) xs → Sorted (xs ++ ys)
sorted_append [] ys s t h = t
sorted_append (x ∷ xs) ys s t h = (all_append (Above x.0) xs ys s.0 h.0, sorted_append xs ys s.1 t h.1)

-- of two sorted parts all of the first lies below each entry of the second
pub sorted_below : (xs ys : Entries) (y : Key × Record) → Sorted (xs ++ (y ∷ ys)) → AllByRecursion (Below y.0) xs
sorted_below [] ys y s = tt
sorted_below (x ∷ xs) ys y s = ((all_behind (Above x.0) xs (y ∷ ys) s.0).0, sorted_below xs ys y s.1)

pub sorted_behind : (xs ys : Entries) → Sorted (xs ++ ys) → Sorted ys
sorted_behind [] ys s = s
sorted_behind (x ∷ xs) ys s = sorted_behind xs ys s.1

-- where the map with a stretch more is sorted, the stretch is what the puts of it make
pub put_sorted : (a s b : Entries) → Sorted (a ++ (s ++ b)) → put_all s (a ++ b) ≡ a ++ (s ++ b)
put_sorted a [] b h = refl
put_sorted a (x ∷ s) b h =
    let lows = sorted_below a (s ++ b) x h in
    let behind = sorted_behind a (x ∷ (s ++ b)) h in
    let moved : Sorted ((a ++ (x ∷ [])) ++ (s ++ b)) = subst Sorted (sym (append_assoc a (x ∷ []) (s ++ b))) h in
    ap (put_all s) (put_past x a b lows ∙ ap (λ v. a ++ v) (put_new x b (all_behind (Above x.0) s b behind.0)) ∙ sym (append_assoc a (x ∷ []) b))
    ∙ put_sorted (a ++ (x ∷ [])) s b moved ∙ append_assoc a (x ∷ []) (s ++ b)

-- ---- a walk over the entries, one `first_above` after another

pub beyond_all : (k : Key) (es : Entries) → AllByRecursion (Above k) es → entries_above k es ≡ es
beyond_all k [] h = refl
beyond_all k (e ∷ es) h = ap (λ o. cond (is_lt o) (e ∷ entries_above k es) (entries_above k es)) h.0 ∙ ap (λ v. e ∷ v) (beyond_all k es h.1)

pub beyond_past : (k : Key) (xs ys : Entries) → AllByRecursion (Below k) xs → entries_above k (xs ++ ys) ≡ entries_above k ys
beyond_past k [] ys h = refl
beyond_past k (e ∷ xs) ys h = ap (λ o. cond (is_lt o) (e ∷ entries_above k (xs ++ ys)) (entries_above k (xs ++ ys))) (key_turned e.0 k h.0) ∙ beyond_past k xs ys h.1

-- the next entry heads what lies above, and the rest lies above it
pub scan_on : (k : Key) (e : Key × Record) (es : Entries) → Sorted es → first_above k es ≡ Some e → entries_above k es ≡ e ∷ entries_above e.0 es
scan_on k e [] s h = cc
scan_on k e (x ∷ es) s h = elim (is_lt (key_cmp k x.0)) as (λ b. is_lt (key_cmp k x.0) ≡ b → cond b (Some x) (first_above k es) ≡ Some e → cond b (x ∷ entries_above k es) (entries_above k es) ≡ e ∷ entries_above e.0 (x ∷ es)) [
  | true ↦ λ q g. subst (λ v. x ∷ entries_above k es ≡ v ∷ entries_above v.0 (x ∷ es)) (entry_is x e g) (ap (λ v. x ∷ v) (
      beyond_all k es (all_above_lower k x.0 (lt_is _ q) es s.0)
      ∙ sym (beyond_all x.0 es s.0)
      ∙ sym (ap (λ o. cond (is_lt o) (x ∷ entries_above x.0 es) (entries_above x.0 es)) (key_itself x.0))))
  | false ↦ λ q g. scan_on k e es s.1 g ∙ ap (λ v. e ∷ v) (sym (ap (λ o. cond (is_lt o) (x ∷ entries_above e.0 es) (entries_above e.0 es)) (key_turned x.0 e.0 (first_above_has (Above x.0) k e es s.0 g))))
] refl h

pub scan_end : (k : Key) (es : Entries) → first_above k es ≡ None → entries_above k es ≡ []
scan_end k [] h = refl
scan_end k (x ∷ es) h = elim (is_lt (key_cmp k x.0)) as (λ b. cond b (Some x) (first_above k es) ≡ None → cond b (x ∷ entries_above k es) (entries_above k es) ≡ []) [ true ↦ λ g. cc | false ↦ λ g. scan_end k es g ] h
