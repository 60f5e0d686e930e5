-- The changes from one map to another: what they say of each key, that their keys rise, and that they make the second of the first.
use Rattle.std.proofs.Common.{◌≡◌, Bool, true, false, cond, List, [], ◌∷◌, ◌++◌, map, filter, Option, None, Some, Less, Equal, is_lt, is_eq, refl, sym, ap, subst, ◌∙◌}
use Rattle.std.specs.List.{AllByRecursion}
use Rattle.std.proofs.lemmas.Slice.Eq.{bytes_eq-Decides}
use Rattle.tree_model.specs.declared.change.Change.{Change}
use Rattle.tree_model.specs.declared.key.Key.{Key}
use Rattle.tree_model.specs.declared.record.Record.{Record}
use Rattle.tree_model.specs.declared.record.Record.TheVariants.{Document, Element, Text, Attr}
use Rattle.tree_model.specs.Keys.{key_cmp}
use Rattle.tree_model.specs.Entries.{Entries, Above, Sorted, get, entries_below, entries_above, changed}
use Rattle.tree_model.specs.Changes.{IsBehind, IsEarlier, Rising, now_at, seen, put_change, drop_change, same_record, stands, difference, put_unless, differences}
use Rattle.tree_model.proofs.Keys.{key_total, key_turned, key_turned_back, key_tied}
use Rattle.tree_model.proofs.Lists.{all_append, all_on}
use Rattle.tree_model.proofs.Orders.{ordered, tested, lt_is, eq_is}
use Rattle.tree_model.proofs.Entries.{all_above_lower, get_none, get_here, get_skip, sorted_changed}
use Rattle.tree_model.proofs.SameEntries.{same_entries}
use Rattle.tree_model.proofs.ChangeLists.{at_skip, at_none, at_past, all_behind_lower, get_changed}

-- ---- some entries of a map

all_some : (P : Key × Record → Type 0) (p : Key × Record → Bool) (es : Entries) → AllByRecursion P es → AllByRecursion P (filter p es)
all_some P p [] h = tt
all_some P p (e ∷ es) h = elim (p e) as (λ b. AllByRecursion P (cond b (e ∷ filter p es) (filter p es))) [ true ↦ (h.0, all_some P p es h.1) | false ↦ all_some P p es h.1 ]

all_chosen : (p : Key × Record → Bool) (es : Entries) → AllByRecursion (λ e. p e ≡ true) (filter p es)
all_chosen p [] = tt
all_chosen p (e ∷ es) = elim (p e) as (λ b. p e ≡ b → AllByRecursion (λ e. p e ≡ true) (cond b (e ∷ filter p es) (filter p es))) [ true ↦ λ h. (h, all_chosen p es) | false ↦ λ _. all_chosen p es ] refl

sorted_some : (p : Key × Record → Bool) (es : Entries) → Sorted es → Sorted (filter p es)
sorted_some p [] s = tt
sorted_some p (e ∷ es) s = elim (p e) as (λ b. Sorted (cond b (e ∷ filter p es) (filter p es))) [ true ↦ (all_some (Above e.0) p es s.0, sorted_some p es s.1) | false ↦ sorted_some p es s.1 ]

-- a key whose entries are chosen is found among them
get_some : (k : Key) (p : Key × Record → Bool) (es : Entries) → ((e : Key × Record) → k ≡ e.0 → p e ≡ true) → get k (filter p es) ≡ get k es
get_some k p [] h = refl
get_some k p (e ∷ es) h = tested (get k (filter p (e ∷ es)) ≡ get k (e ∷ es)) (is_eq (key_cmp k e.0))
    (λ here. ap (λ b. get k (cond b (e ∷ filter p es) (filter p es))) (h e (key_tied k e.0 (eq_is _ here))) ∙ ap (λ v. cond (is_eq (key_cmp k e.0)) (Some e.1) v) (get_some k p es h))
    (λ apart. elim (p e) as (λ b. get k (cond b (e ∷ filter p es) (filter p es)) ≡ get k (e ∷ es)) [
      | true ↦ ap (λ v. cond (is_eq (key_cmp k e.0)) (Some e.1) v) (get_some k p es h)
      | false ↦ get_some k p es h ∙ sym (get_skip k e es apart)
    ])

get_below : (k j : Key) (es : Entries) → key_cmp k j ≡ Less → get k (entries_below j es) ≡ get k es
get_below k j es less = get_some k (λ e. is_lt (key_cmp e.0 j)) es (λ e is. ap is_lt (subst (λ v. key_cmp v j ≡ Less) is less))

get_above : (k j : Key) (es : Entries) → key_cmp j k ≡ Less → get k (entries_above j es) ≡ get k es
get_above k j es less = get_some k (λ e. is_lt (key_cmp j e.0)) es (λ e is. ap is_lt (subst (λ v. key_cmp j v ≡ Less) is less))

-- ---- whose keys the changes have

all_drops : (P : Key → Type 0) (es : Entries) → AllByRecursion (λ e. P e.0) es → AllByRecursion (λ c. P c.key) (map drop_change es)
all_drops P [] h = tt
all_drops P (e ∷ es) h = (h.0, all_drops P es h.1)

all_unless : (P : Key → Type 0) (b : Bool) (x : Key × Record) → P x.0 → AllByRecursion (λ c. P c.key) (put_unless b x)
all_unless P true x h = tt
all_unless P false x h = (h, tt)

pub all_differences : (P : Key → Type 0) (es fs : Entries) → AllByRecursion (λ e. P e.0) es → AllByRecursion (λ e. P e.0) fs → AllByRecursion (λ c. P c.key) (differences es fs)
all_differences P es [] h g = all_drops P es h
all_differences P es (x ∷ xs) h g =
    all_append (λ c. P c.key) (map drop_change (entries_below x.0 es)) _ (all_drops P (entries_below x.0 es) (all_some (λ e. P e.0) (λ e. is_lt (key_cmp e.0 x.0)) es h))
    (all_append (λ c. P c.key) (put_unless (stands x.1 (get x.0 es)) x) _ (all_unless P (stands x.1 (get x.0 es)) x g.0)
    (all_differences P (entries_above x.0 es) xs (all_some (λ e. P e.0) (λ e. is_lt (key_cmp x.0 e.0)) es h) g.1))

-- those of the entries below a key are of earlier ones
earlier_drops : (k : Key) (es : Entries) → AllByRecursion (IsEarlier k) (map drop_change (entries_below k es))
earlier_drops k es = all_drops (λ j. key_cmp j k ≡ Less) (entries_below k es) (all_on (λ e. is_lt (key_cmp e.0 k) ≡ true) (λ e. key_cmp e.0 k ≡ Less) (λ e h. lt_is _ h) (entries_below k es) (all_chosen (λ e. is_lt (key_cmp e.0 k)) es))

-- all that come after the put of an entry are of later ones
later_rest : (x : Key × Record) (es xs : Entries) → AllByRecursion (Above x.0) xs → AllByRecursion (IsBehind x.0) (differences (entries_above x.0 es) xs)
later_rest x es xs h = all_differences (λ k. key_cmp x.0 k ≡ Less) (entries_above x.0 es) xs (all_on (λ e. is_lt (key_cmp x.0 e.0) ≡ true) (λ e. key_cmp x.0 e.0 ≡ Less) (λ e g. lt_is _ g) (entries_above x.0 es) (all_chosen (λ e. is_lt (key_cmp x.0 e.0)) es)) h

-- ---- what they say of a key

at_prefix : (k : Key) (cs ds : List Change) → AllByRecursion (IsBehind k) ds → now_at k (cs ++ ds) ≡ now_at k cs
at_prefix k [] ds h = at_none k ds h
at_prefix k (c ∷ cs) ds h = ap (λ v. cond (is_eq (key_cmp k c.key)) (Some c.now) v) (at_prefix k cs ds h)

at_drops : (k : Key) (es : Entries) → now_at k (map drop_change es) ≡ difference (get k es) None
at_drops k [] = refl
at_drops k (e ∷ es) = elim (is_eq (key_cmp k e.0)) as (λ b. cond b (Some None) (now_at k (map drop_change es)) ≡ difference (cond b (Some e.1) (get k es)) None) [ true ↦ refl | false ↦ at_drops k es ]

at_unless : (k : Key) (b : Bool) (x : Key × Record) (cs : List Change) → key_cmp k x.0 ≡ Equal → AllByRecursion (IsBehind x.0) cs → now_at k (put_unless b x ++ cs) ≡ cond b None (Some (Some x.1))
at_unless k true x cs e h = at_none k cs (subst (λ j. AllByRecursion (IsBehind j) cs) (sym (key_tied k x.0 e)) h)
at_unless k false x cs e h = ap (λ o. cond (is_eq o) (Some (Some x.1)) (now_at k cs)) e

at_unless_past : (k : Key) (b : Bool) (x : Key × Record) (cs : List Change) → key_cmp x.0 k ≡ Less → now_at k (put_unless b x ++ cs) ≡ now_at k cs
at_unless_past k true x cs h = refl
at_unless_past k false x cs h = at_skip k (put_change x) cs (ap is_eq (key_turned x.0 k h))

-- one change for each key whose record differs, and no other
pub at_differences : (k : Key) (es fs : Entries) → Sorted fs → now_at k (differences es fs) ≡ difference (get k es) (get k fs)
at_differences k es [] s = at_drops k es
at_differences k es (x ∷ xs) s = ordered (now_at k (differences es (x ∷ xs)) ≡ difference (get k es) (get k (x ∷ xs))) (key_cmp k x.0)
    (λ less.
    at_prefix k drops rest (all_append (IsBehind k) (put_unless test x) later (all_unless (λ j. key_cmp k j ≡ Less) test x less) (all_behind_lower k x.0 less later behind))
    ∙ at_drops k (entries_below x.0 es)
    ∙ ap (λ o. difference o None) (get_below k x.0 es less)
    ∙ ap (difference (get k es)) (sym (get_none k (x ∷ xs) (less, all_above_lower k x.0 less xs s.0))))
    (λ equal. let is : k ≡ x.0 = key_tied k x.0 equal in
    at_past k drops rest (subst (λ j. AllByRecursion (IsEarlier j) drops) (sym is) (earlier_drops x.0 es))
    ∙ at_unless k test x later equal behind
    ∙ ap (λ j. difference (get j es) (Some x.1)) (sym is)
    ∙ ap (difference (get k es)) (sym (ap (λ j. get j (x ∷ xs)) is ∙ get_here x xs)))
    (λ more. let less : key_cmp x.0 k ≡ Less = key_turned_back k x.0 more in
    at_past k drops rest (all_on (IsEarlier x.0) (IsEarlier k) (λ c h. key_total.trans c.key x.0 k h less) drops (earlier_drops x.0 es))
    ∙ at_unless_past k test x later less
    ∙ at_differences k (entries_above x.0 es) xs s.1
    ∙ ap (λ o. difference o (get k xs)) (get_above k x.0 es less)
    ∙ ap (difference (get k es)) (sym (get_skip k x xs (ap is_eq more))))
  where
    test : Bool
    test = stands x.1 (get x.0 es)

    drops : List Change
    drops = map drop_change (entries_below x.0 es)

    later : List Change
    later = differences (entries_above x.0 es) xs

    rest : List Change
    rest = put_unless test x ++ later

    behind : AllByRecursion (IsBehind x.0) later
    behind = later_rest x es xs s.0

-- ---- their keys rise

rising_append : (cs ds : List Change) → Rising cs → Rising ds → AllByRecursion (λ c. AllByRecursion (IsBehind c.key) ds) cs → Rising (cs ++ ds)
rising_append [] ds s t h = t
rising_append (c ∷ cs) ds s t h = (all_append (IsBehind c.key) cs ds s.0 h.0, rising_append cs ds s.1 t h.1)

rising_drops : (es : Entries) → Sorted es → Rising (map drop_change es)
rising_drops [] s = tt
rising_drops (e ∷ es) s = (all_drops (λ k. key_cmp e.0 k ≡ Less) es s.0, rising_drops es s.1)

rising_unless : (b : Bool) (x : Key × Record) (cs : List Change) → Rising cs → AllByRecursion (IsBehind x.0) cs → Rising (put_unless b x ++ cs)
rising_unless true x cs s h = s
rising_unless false x cs s h = (h, s)

pub rising_differences : (es fs : Entries) → Sorted es → Sorted fs → Rising (differences es fs)
rising_differences es [] s t = rising_drops es s
rising_differences es (x ∷ xs) s t =
    let later = differences (entries_above x.0 es) xs in
    let behind = later_rest x es xs t.0 in
    let test : Bool = stands x.1 (get x.0 es) in
    let drops = map drop_change (entries_below x.0 es) in
    rising_append drops (put_unless test x ++ later)
    (rising_drops (entries_below x.0 es) (sorted_some (λ e. is_lt (key_cmp e.0 x.0)) es s))
    (rising_unless test x later (rising_differences (entries_above x.0 es) xs (sorted_some (λ e. is_lt (key_cmp x.0 e.0)) es s) t.1) behind)
    (all_on (IsEarlier x.0) (λ c. AllByRecursion (IsBehind c.key) (put_unless test x ++ later)) (λ c h. all_append (IsBehind c.key) (put_unless test x) later (all_unless (λ k. key_cmp c.key k ≡ Less) test x h) (all_behind_lower c.key x.0 h later behind)) drops (earlier_drops x.0 es))

-- ---- they make the second map of the first

-- records that the test calls one are one
same_record_is : (r q : Record) → same_record r q ≡ true → r ≡ q
same_record_is Document Document h = refl
same_record_is (Element m) (Element n) h = ap Element ((bytes_eq-Decides m n).0 h)
same_record_is (Text d) (Text e) h = ap Text ((bytes_eq-Decides d e).0 h)
same_record_is (Attr v) (Attr w) h = ap Attr ((bytes_eq-Decides v w).0 h)
same_record_is Document (Element n) h = cc
same_record_is Document (Text e) h = cc
same_record_is Document (Attr w) h = cc
same_record_is (Element m) Document h = cc
same_record_is (Element m) (Text e) h = cc
same_record_is (Element m) (Attr w) h = cc
same_record_is (Text d) Document h = cc
same_record_is (Text d) (Element n) h = cc
same_record_is (Text d) (Attr w) h = cc
same_record_is (Attr v) Document h = cc
same_record_is (Attr v) (Element n) h = cc
same_record_is (Attr v) (Text e) h = cc

seen_difference : (o n : Option Record) → seen (difference o n) o ≡ n
seen_difference None None = refl
seen_difference (Some q) None = refl
seen_difference None (Some r) = refl
seen_difference (Some q) (Some r) = elim (same_record r q) as (λ b. same_record r q ≡ b → seen (cond b None (Some (Some r))) (Some q) ≡ Some r) [ true ↦ λ h. ap Some (sym (same_record_is r q h)) | false ↦ λ _. refl ] refl

pub changed_differences : (es fs : Entries) → Sorted es → Sorted fs → changed (differences es fs) es ≡ fs
changed_differences es fs s t = same_entries (changed (differences es fs) es) fs (sorted_changed (differences es fs) es s) t
    (λ k. get_changed k (differences es fs) es (rising_differences es fs s t) s ∙ ap (λ o. seen o (get k es)) (at_differences k es fs t) ∙ seen_difference (get k es) (get k fs))
