-- A map with changes of rising keys made on it, entry by entry and change by change.
use Rattle.std.proofs.Common.{◌≡◌, true, false, List, [], ◌∷◌, ◌++◌, Option, Some, None, Less, Equal, Greater, is_lt, is_eq, refl, sym, ap, subst, ◌∙◌, append_assoc}
use Rattle.std.proofs.lemmas.List.{append-nil}
use Rattle.std.specs.List.{AllByRecursion}
use Rattle.std.specs.declared.cmp.Ordering.{Ordering}
use Rattle.tree_model.specs.Changes.{IsBehind, Rising}
use Rattle.tree_model.specs.Entries.{Entries, Above, Sorted, put, set, changed}
use Rattle.tree_model.specs.Keys.{key_cmp}
use Rattle.tree_model.specs.Orders.{by_order}
use Rattle.tree_model.specs.declared.change.Change.{Change}
use Rattle.tree_model.specs.declared.key.Key.{Key}
use Rattle.tree_model.specs.declared.record.Record.{Record}
use Rattle.tree_model.proofs.ChangeLists.{all_behind_lower}
use Rattle.tree_model.proofs.Entries.{all_above_lower, del_here, del_none, put_here, put_new, sorted_behind}
use Rattle.tree_model.proofs.Keys.{key_tied, key_turned, key_turned_back}
use Rattle.recovery.specs.inside.Merging.{AreBehind, NoneBefore, begins_at, comes_before, standing}

is_less : (o : Ordering) → is_lt o ≡ true → o ≡ Less
is_less Less h = refl
is_less Equal h = cc
is_less Greater h = cc

is_equal : (o : Ordering) → is_eq o ≡ true → o ≡ Equal
is_equal Less h = cc
is_equal Equal h = refl
is_equal Greater h = cc

is_more : (o : Ordering) → is_lt o ≡ false → is_eq o ≡ false → o ≡ Greater
is_more Less h g = cc
is_more Equal h g = cc
is_more Greater h g = refl

-- ---- one change at the front

set_at_front : (k : Key) (now : Option Record) (es : Entries) → AllByRecursion (Above k) es → set k now es ≡ standing k now ++ es
set_at_front k None es h = del_none k es h
set_at_front k (Some r) es h = put_new (k, r) es h

set_past : (k : Key) (now : Option Record) (e : Key × Record) (es : Entries) → key_cmp e.0 k ≡ Less → set k now (e ∷ es) ≡ e ∷ set k now es
set_past k None e es h = ap (λ o. by_order o (e ∷ es) es (e ∷ set k None es)) (key_turned e.0 k h)
set_past k (Some r) e es h = ap (λ o. by_order o ((k, r) ∷ e ∷ es) ((k, r) ∷ es) (e ∷ put (k, r) es)) (key_turned e.0 k h)

set_here : (k : Key) (now : Option Record) (e : Key × Record) (es : Entries) → key_cmp k e.0 ≡ Equal → AllByRecursion (Above k) es → set k now (e ∷ es) ≡ set k now es
set_here k None e es q h = del_here k e es q ∙ sym (del_none k es h)
set_here k (Some r) e es q h = put_here (k, r) e es q ∙ sym (put_new (k, r) es h)

-- an entry stays that stands before all changes
passed_by : (e : Key × Record) (cs : List Change) (es : Entries) → AllByRecursion (IsBehind e.0) cs → changed cs (e ∷ es) ≡ e ∷ changed cs es
passed_by e [] es h = refl
passed_by e (c ∷ cs) es h = ap (changed cs) (set_past c.key c.now e es h.0) ∙ passed_by e cs (set c.key c.now es) h.1

standing_first : (k : Key) (now : Option Record) (cs : List Change) (es : Entries) → AllByRecursion (IsBehind k) cs → changed cs (standing k now ++ es) ≡ standing k now ++ changed cs es
standing_first k None cs es h = refl
standing_first k (Some r) cs es h = passed_by (k, r) cs es h

change_first : (c : Change) (cs : List Change) (es : Entries) → Rising (c ∷ cs) → AllByRecursion (Above c.key) es → changed (c ∷ cs) es ≡ standing c.key c.now ++ changed cs es
change_first c cs es r h = ap (changed cs) (set_at_front c.key c.now es h) ∙ standing_first c.key c.now cs es r.0

-- ---- what was made so far

-- the change before the limit is made
pub one_put : (limit : Option Key) (c : Change) (cs : List Change) (made now : Entries) (es all : Entries) → Rising (c ∷ cs) → comes_before c.key limit ≡ true → now ≡ made ++ standing c.key c.now → AreBehind limit es
    → made ++ changed (c ∷ cs) es ≡ all → now ++ changed cs es ≡ all
one_put limit c cs made now es all r before is behind so_far =
    ap (λ (l : Entries). l ++ changed cs es) is ∙ append_assoc made (standing c.key c.now) (changed cs es)
    ∙ ap (λ (l : Entries). made ++ l) (sym (change_first c cs es r (behind c.key before))) ∙ so_far

-- an entry and those behind it stand behind what comes before it
pub limit_behind : (e : Key × Record) (es : Entries) → Sorted (e ∷ es) → AreBehind (Some e.0) (e ∷ es)
limit_behind e es s k h = let below = is_less (key_cmp k e.0) h in (below, all_above_lower k e.0 below es s.0)

-- an entry of whose key a change is left is gone
pub entry_gone : (e : Key × Record) (left : List Change) (es : Entries) → begins_at left e.0 ≡ true → Sorted (e ∷ es) → changed left (e ∷ es) ≡ changed left es
entry_gone e [] es h s = cc
entry_gone e (c ∷ cs) es h s =
    let q = is_equal (key_cmp c.key e.0) h in
    ap (changed cs) (set_here c.key c.now e es q (subst (λ (k : Key). AllByRecursion (Above k) es) (sym (key_tied c.key e.0 q)) s.0))

-- the others stay
pub entry_stays : (e : Key × Record) (left : List Change) (es : Entries) → begins_at left e.0 ≡ false → NoneBefore (Some e.0) left → Rising left → changed left (e ∷ es) ≡ e ∷ changed left es
entry_stays e [] es h none r = refl
entry_stays e (c ∷ cs) es h none r =
    let behind = key_turned_back c.key e.0 (is_more (key_cmp c.key e.0) none h) in
    passed_by e (c ∷ cs) es (behind, all_behind_lower e.0 c.key behind cs r.0)

pub none_left : (left : List Change) → NoneBefore None left → left ≡ []
none_left [] h = refl
none_left (c ∷ cs) h = cc

-- a record was taken: a change of its key is left, or it stays
pub record_gone : (e : Key × Record) (left : List Change) (made es all : Entries) → begins_at left e.0 ≡ true → Sorted (e ∷ es)
    → made ++ changed left (e ∷ es) ≡ all → made ++ changed left es ≡ all
record_gone e left made es all h s so_far = ap (λ (l : Entries). made ++ l) (sym (entry_gone e left es h s)) ∙ so_far

pub record_stays : (e : Key × Record) (left : List Change) (made now es all : Entries) → begins_at left e.0 ≡ false → NoneBefore (Some e.0) left → Rising left → now ≡ made ++ e ∷ []
    → made ++ changed left (e ∷ es) ≡ all → now ++ changed left es ≡ all
record_stays e left made now es all h none r is so_far =
    ap (λ (l : Entries). l ++ changed left es) is ∙ append_assoc made (e ∷ []) (changed left es)
    ∙ ap (λ (l : Entries). made ++ l) (sym (entry_stays e left es h none r)) ∙ so_far

-- one more of all records was taken
pub one_taken : (taken : Entries) (e : Key × Record) (left before changes : List Change) (made now es : Entries) → Sorted ((taken ++ e ∷ []) ++ es)
    → ((es : Entries) → Sorted (e ∷ es) → now ++ changed left es ≡ made ++ changed before (e ∷ es))
    → ((es : Entries) → Sorted (taken ++ es) → made ++ changed before es ≡ changed changes (taken ++ es))
    → now ++ changed left es ≡ changed changes ((taken ++ e ∷ []) ++ es)
one_taken taken e left before changes made now es s step so_far =
    let parts = append_assoc taken (e ∷ []) es in
    let sorted : Sorted (taken ++ e ∷ es) = subst Sorted parts s in
    step es (sorted_behind taken (e ∷ es) sorted) ∙ so_far (e ∷ es) sorted ∙ ap (changed changes) (sym parts)

-- all were, and the changes that were left are made
pub all_taken : (records : Entries) (left before changes : List Change) (made now : Entries) → Sorted records → NoneBefore None left
    → (AreBehind None [] → now ++ changed left [] ≡ made ++ changed before [])
    → ((es : Entries) → Sorted (records ++ es) → made ++ changed before es ≡ changed changes (records ++ es))
    → now ≡ changed changes records
all_taken records left before changes made now s none step so_far =
    sym (append-nil now) ∙ ap (λ (cs : List Change). now ++ changed cs []) (sym (none_left left none))
    ∙ step (λ k h. tt) ∙ so_far [] (subst Sorted (sym (append-nil records)) s) ∙ ap (changed changes) (append-nil records)

pub none_first : (limit : Option Key) (left : List Change) → left ≡ [] → NoneBefore limit left
none_first limit left is = subst (NoneBefore limit) (sym is) tt
