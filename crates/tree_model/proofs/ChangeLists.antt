-- Laws of changes with rising keys: what they say of a key, what one list laid over another says, and what both make of a map.
use Rattle.std.proofs.Common.{◌≡◌, true, false, ◌&&◌, cond, List, [], ◌∷◌, ◌++◌, Option, None, Some, Less, is_lt, is_eq, refl, sym, ap, subst, ◌∙◌}
use Rattle.std.specs.List.{AllByRecursion}
use Rattle.std.specs.Option.{option_or}
use Rattle.dewey_labels.proofs.Codes.{first_of_both, second_of_both}
use Rattle.tree_model.specs.declared.change.Change.{Change}
use Rattle.tree_model.specs.declared.key.Key.{Key}
use Rattle.tree_model.specs.declared.record.Record.{Record}
use Rattle.tree_model.specs.Keys.{key_cmp}
use Rattle.tree_model.specs.Entries.{Entries, Sorted, get, set, changed}
use Rattle.tree_model.specs.Changes.{rise_above, keys_rise, IsBehind, IsEarlier, Rising, now_at, seen, with_change, laid}
use Rattle.tree_model.proofs.Keys.{key_total, key_itself, key_turned, key_turned_back, key_tied}
use Rattle.tree_model.proofs.Lists.{all_on}
use Rattle.tree_model.proofs.Entries.{get_set, get_set_other, sorted_set, sorted_changed}
use Rattle.tree_model.proofs.Orders.{ordered, tested, by_cases, lt_is, eq_is}
use Rattle.tree_model.proofs.SameEntries.{value_is, same_entries}

-- ---- the test of rising keys

-- what is behind a key is behind all below it
pub all_behind_lower : (j k : Key) → key_cmp j k ≡ Less → (cs : List Change) → AllByRecursion (IsBehind k) cs → AllByRecursion (IsBehind j) cs
all_behind_lower j k h = all_on (IsBehind k) (IsBehind j) (λ c a. key_total.trans j k c.key h a)

pub rise_above-all : (k : Key) (cs : List Change) → rise_above k cs ≡ true → AllByRecursion (IsBehind k) cs
rise_above-all k [] h = tt
rise_above-all k (c ∷ cs) h =
    let less = lt_is (key_cmp k c.key) (first_of_both (is_lt (key_cmp k c.key)) (rise_above c.key cs) h) in
    (less, all_behind_lower k c.key less cs (rise_above-all c.key cs (second_of_both (is_lt (key_cmp k c.key)) (rise_above c.key cs) h)))

rising_above : (k : Key) (cs : List Change) → rise_above k cs ≡ true → Rising cs
rising_above k [] h = tt
rising_above k (c ∷ cs) h =
    let rest = second_of_both (is_lt (key_cmp k c.key)) (rise_above c.key cs) h in
    (rise_above-all c.key cs rest, rising_above c.key cs rest)

-- changes that pass it rise
pub rising_of_test : (cs : List Change) → keys_rise cs ≡ true → Rising cs
rising_of_test [] h = tt
rising_of_test (c ∷ cs) h = (rise_above-all c.key cs h, rising_above c.key cs h)

-- and all that rise pass it
rise_above-all_back : (k : Key) (cs : List Change) → AllByRecursion (IsBehind k) cs → Rising cs → rise_above k cs ≡ true
rise_above-all_back k [] h s = refl
rise_above-all_back k (c ∷ cs) h s = λ i. is_lt (h.0 i) && rise_above-all_back c.key cs s.0 s.1 i

pub test_of_rising : (cs : List Change) → Rising cs → keys_rise cs ≡ true
test_of_rising [] s = refl
test_of_rising (c ∷ cs) s = rise_above-all_back c.key cs s.0 s.1

-- ---- what changes say of a key

pub at_skip : (k : Key) (c : Change) (cs : List Change) → is_eq (key_cmp k c.key) ≡ false → now_at k (c ∷ cs) ≡ now_at k cs
at_skip k c cs h = ap (λ b. cond b (Some c.now) (now_at k cs)) h

pub at_here : (c : Change) (cs : List Change) → now_at c.key (c ∷ cs) ≡ Some c.now
at_here c cs = ap (λ o. cond (is_eq o) (Some c.now) (now_at c.key cs)) (key_itself c.key)

pub at_none : (k : Key) (cs : List Change) → AllByRecursion (IsBehind k) cs → now_at k cs ≡ None
at_none k [] h = refl
at_none k (c ∷ cs) h = at_skip k c cs (ap is_eq h.0) ∙ at_none k cs h.1

pub at_past : (k : Key) (xs ys : List Change) → AllByRecursion (IsEarlier k) xs → now_at k (xs ++ ys) ≡ now_at k ys
at_past k [] ys h = refl
at_past k (x ∷ xs) ys h = at_skip k x (xs ++ ys) (ap is_eq (key_turned x.key k h.0)) ∙ at_past k xs ys h.1

pub all_earlier_higher : (j k : Key) → key_cmp j k ≡ Less → (cs : List Change) → AllByRecursion (IsEarlier j) cs → AllByRecursion (IsEarlier k) cs
all_earlier_higher j k h = all_on (IsEarlier j) (IsEarlier k) (λ c a. key_total.trans c.key j k a h)

-- the change that says something of a key behind all these is behind them too
pub found_behind : (a j : Key) (cs : List Change) (v : Option Record) → AllByRecursion (IsBehind a) cs → now_at j cs ≡ Some v → key_cmp a j ≡ Less
found_behind a j cs v h g = ordered (key_cmp a j ≡ Less) (key_cmp a j)
    (λ less. less)
    (λ equal. let none : None ≡ Some v = sym (at_none j cs (subst (λ k. AllByRecursion (IsBehind k) cs) (key_tied a j equal) h)) ∙ g in cc)
    (λ more. let none : None ≡ Some v = sym (at_none j cs (all_behind_lower j a (key_turned_back a j more) cs h)) ∙ g in cc)

-- ---- one change put

pub at_with : (c : Change) (cs : List Change) → now_at c.key (with_change c cs) ≡ Some c.now
at_with c [] = at_here c []
at_with c (d ∷ ds) = by_cases (λ v. now_at c.key v ≡ Some c.now) (key_cmp c.key d.key) (c ∷ d ∷ ds) (c ∷ ds) (d ∷ with_change c ds)
    (λ _. at_here c (d ∷ ds))
    (λ _. at_here c ds)
    (λ more. at_skip c.key d (with_change c ds) (ap is_eq more) ∙ at_with c ds)

pub at_with_other : (k : Key) (c : Change) (cs : List Change) → is_eq (key_cmp k c.key) ≡ false → now_at k (with_change c cs) ≡ now_at k cs
at_with_other k c [] h = at_skip k c [] h
at_with_other k c (d ∷ ds) h = by_cases (λ v. now_at k v ≡ now_at k (d ∷ ds)) (key_cmp c.key d.key) (c ∷ d ∷ ds) (c ∷ ds) (d ∷ with_change c ds)
    (λ _. at_skip k c (d ∷ ds) h)
    (λ equal. at_skip k c ds h ∙ sym (at_skip k d ds (subst (λ j. is_eq (key_cmp k j) ≡ false) (key_tied c.key d.key equal) h)))
    (λ _. ap (λ v. cond (is_eq (key_cmp k d.key)) (Some d.now) v) (at_with_other k c ds h))

pub all_with_change : (P : Change → Type 0) (c : Change) (cs : List Change) → P c → AllByRecursion P cs → AllByRecursion P (with_change c cs)
all_with_change P c [] p a = (p, tt)
all_with_change P c (d ∷ ds) p a = by_cases (AllByRecursion P) (key_cmp c.key d.key) (c ∷ d ∷ ds) (c ∷ ds) (d ∷ with_change c ds) (λ _. (p, a)) (λ _. (p, a.1)) (λ _. (a.0, all_with_change P c ds p a.1))

rising_with : (c : Change) (cs : List Change) → Rising cs → Rising (with_change c cs)
rising_with c [] s = (tt, tt)
rising_with c (d ∷ ds) s = by_cases Rising (key_cmp c.key d.key) (c ∷ d ∷ ds) (c ∷ ds) (d ∷ with_change c ds)
    (λ less. ((less, all_behind_lower c.key d.key less ds s.0), s))
    (λ equal. (subst (λ k. AllByRecursion (IsBehind k) ds) (sym (key_tied c.key d.key equal)) s.0, s.1))
    (λ more. (all_with_change (IsBehind d.key) c ds (key_turned_back c.key d.key more) s.0, rising_with c ds s.1))

-- ---- changes laid over others

pub all_of_laid : (P : Change → Type 0) (upper lower : List Change) → AllByRecursion P upper → AllByRecursion P lower → AllByRecursion P (laid upper lower)
all_of_laid P [] lower h g = g
all_of_laid P (c ∷ upper) lower h g = all_of_laid P upper (with_change c lower) h.1 (all_with_change P c lower h.0 g)

pub rising_laid : (upper lower : List Change) → Rising lower → Rising (laid upper lower)
rising_laid [] lower s = s
rising_laid (c ∷ upper) lower s = rising_laid upper (with_change c lower) (rising_with c lower s)

option_or_none : {A : Type 0} (o : Option A) → option_or o None ≡ o
option_or_none None = refl
option_or_none (Some x) = refl

option_or_assoc : {A : Type 0} (a b c : Option A) → option_or (option_or a b) c ≡ option_or a (option_or b c)
option_or_assoc None b c = refl
option_or_assoc (Some x) b c = refl

-- the upper changes say it, or else the lower ones
pub at_laid : (k : Key) (upper lower : List Change) → Rising upper → now_at k (laid upper lower) ≡ option_or (now_at k upper) (now_at k lower)
at_laid k [] lower s = refl
at_laid k (c ∷ upper) lower s = at_laid k upper (with_change c lower) s.1 ∙ tested (option_or (now_at k upper) (now_at k (with_change c lower)) ≡ option_or (now_at k (c ∷ upper)) (now_at k lower)) (is_eq (key_cmp k c.key))
    (λ here.
    let same : k ≡ c.key = key_tied k c.key (eq_is _ here) in
    ap (λ o. option_or o (now_at k (with_change c lower))) (at_none k upper (subst (λ j. AllByRecursion (IsBehind j) upper) (sym same) s.0))
    ∙ ap (λ j. now_at j (with_change c lower)) same ∙ at_with c lower
    ∙ sym (ap (λ b. option_or (cond b (Some c.now) (now_at k upper)) (now_at k lower)) here))
    (λ apart. ap (option_or (now_at k upper)) (at_with_other k c lower apart) ∙ sym (ap (λ b. option_or (cond b (Some c.now) (now_at k upper)) (now_at k lower)) apart))

-- ---- lists that say the same of each key are one

pub same_changes : (cs ds : List Change) → Rising cs → Rising ds → ((k : Key) → now_at k cs ≡ now_at k ds) → cs ≡ ds
same_changes [] [] s t h = refl
same_changes [] (d ∷ ds) s t h = let none : None ≡ Some d.now = h d.key ∙ at_here d ds in cc
same_changes (c ∷ cs) [] s t h = let none : Some c.now ≡ None = sym (at_here c cs) ∙ h c.key in cc
same_changes (c ∷ cs) (d ∷ ds) s t h = ordered (c ∷ cs ≡ d ∷ ds) (key_cmp c.key d.key)
    (λ less. let none : Some c.now ≡ None = sym (at_here c cs) ∙ h c.key ∙ at_none c.key (d ∷ ds) (less, all_behind_lower c.key d.key less ds t.0) in cc)
    (λ equal.
    let keys : c.key ≡ d.key = key_tied c.key d.key equal in
    let nows : c.now ≡ d.now = value_is c.now d.now (sym (at_here c cs) ∙ h c.key ∙ ap (λ k. now_at k (d ∷ ds)) keys ∙ at_here d ds) in
    let rest : cs ≡ ds = same_changes cs ds s.1 t.1 (λ k. tested (now_at k cs ≡ now_at k ds) (is_eq (key_cmp k c.key))
    (λ here.
    let same : k ≡ c.key = key_tied k c.key (eq_is _ here) in
    at_none k cs (subst (λ j. AllByRecursion (IsBehind j) cs) (sym same) s.0) ∙ sym (at_none k ds (subst (λ j. AllByRecursion (IsBehind j) ds) (sym (same ∙ keys)) t.0)))
    (λ apart. sym (at_skip k c cs apart) ∙ h k ∙ at_skip k d ds (subst (λ j. is_eq (key_cmp k j) ≡ false) keys apart))) in
    λ i. record { key = keys i; now = nows i } ∷ rest i)
    (λ more.
    let less : key_cmp d.key c.key ≡ Less = key_turned_back c.key d.key more in
    let none : None ≡ Some d.now = sym (at_none d.key (c ∷ cs) (less, all_behind_lower d.key c.key less cs s.0)) ∙ h d.key ∙ at_here d ds in cc)

pub laid_assoc : (c b a : List Change) → Rising c → Rising b → Rising a → laid (laid c b) a ≡ laid c (laid b a)
laid_assoc c b a rc rb ra = same_changes (laid (laid c b) a) (laid c (laid b a)) (rising_laid (laid c b) a ra) (rising_laid c (laid b a) (rising_laid b a ra))
    (λ k. at_laid k (laid c b) a (rising_laid c b rb)
    ∙ ap (λ o. option_or o (now_at k a)) (at_laid k c b rc)
    ∙ option_or_assoc (now_at k c) (now_at k b) (now_at k a)
    ∙ sym (at_laid k c (laid b a) rc ∙ ap (option_or (now_at k c)) (at_laid k b a rb)))

pub laid_none : (cs : List Change) → Rising cs → laid cs [] ≡ cs
laid_none cs s = same_changes (laid cs []) cs (rising_laid cs [] tt) s (λ k. at_laid k cs [] s ∙ option_or_none (now_at k cs))

-- ---- of a map after changes

pub get_changed : (k : Key) (cs : List Change) (es : Entries) → Rising cs → Sorted es → get k (changed cs es) ≡ seen (now_at k cs) (get k es)
get_changed k [] es r s = refl
get_changed k (c ∷ cs) es r s =
    let after : Entries = set c.key c.now es in
    get_changed k cs after r.1 (sorted_set c.key c.now es s)
    ∙ tested (seen (now_at k cs) (get k after) ≡ seen (now_at k (c ∷ cs)) (get k es)) (is_eq (key_cmp k c.key))
    (λ here.
    let same : k ≡ c.key = key_tied k c.key (eq_is _ here) in
    ap (λ o. seen o (get k after)) (at_none k cs (subst (λ j. AllByRecursion (IsBehind j) cs) (sym same) r.0))
    ∙ ap (λ j. get j after) same ∙ get_set c.key c.now es s
    ∙ sym (ap (λ b. seen (cond b (Some c.now) (now_at k cs)) (get k es)) here))
    (λ apart. ap (seen (now_at k cs)) (get_set_other k c.key c.now es apart) ∙ sym (ap (λ b. seen (cond b (Some c.now) (now_at k cs)) (get k es)) apart))

seen_twice : (a b : Option (Option Record)) (g : Option Record) → seen a (seen b g) ≡ seen (option_or a b) g
seen_twice None b g = refl
seen_twice (Some v) b g = refl

-- the same of changes over changes
pub get_changed_twice : (k : Key) (upper lower : List Change) (es : Entries) → Rising upper → Rising lower → Sorted es → get k (changed upper (changed lower es)) ≡ seen (now_at k (laid upper lower)) (get k es)
get_changed_twice k upper lower es r t s =
    get_changed k upper (changed lower es) r (sorted_changed lower es s)
    ∙ ap (seen (now_at k upper)) (get_changed k lower es t s)
    ∙ seen_twice (now_at k upper) (now_at k lower) (get k es)
    ∙ ap (λ o. seen o (get k es)) (sym (at_laid k upper lower r))

-- changes laid over others have the effect of both, one after the other
pub changed_laid : (upper lower : List Change) (es : Entries) → Rising upper → Rising lower → Sorted es → changed (laid upper lower) es ≡ changed upper (changed lower es)
changed_laid upper lower es r t s = same_entries (changed (laid upper lower) es) (changed upper (changed lower es)) (sorted_changed (laid upper lower) es s) (sorted_changed upper (changed lower es) (sorted_changed lower es s))
    (λ k. get_changed k (laid upper lower) es (rising_laid upper lower t) s ∙ sym (get_changed_twice k upper lower es r t s))
