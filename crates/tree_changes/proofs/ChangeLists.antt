-- Lists of changes that are the differences of two maps: what rises and changes something at each key is all that differs.
use Rattle.std.specs.List.{AllByRecursion}
use Rattle.std.proofs.Common.{◌≡◌, Bool, true, false, cond, List, [], ◌∷◌, filter, Option, None, Some, is_some, is_eq, refl, sym, ap, subst, ◌∙◌}
use Rattle.std.proofs.lemmas.Slice.Eq.{bytes_eq-Decides}
use Rattle.tree_model.specs.declared.change.Change.{Change}
use Rattle.tree_model.specs.declared.key.Key.{Key}
use Rattle.tree_model.specs.declared.record.Record.{Record}
use Rattle.tree_model.specs.declared.record.Record.TheVariants.{Document, Element, Text, Attr}
use Rattle.tree_model.specs.Keys.{key_cmp}
use Rattle.tree_model.specs.Entries.{Entries, Sorted, get, set, changed}
use Rattle.tree_model.specs.Changes.{IsBehind, Rising, now_at, seen, same_record, difference, differences}
use Rattle.tree_model.proofs.Keys.{key_tied}
use Rattle.tree_model.proofs.Orders.{eq_is}
use Rattle.tree_model.proofs.Entries.{sorted_changed}
use Rattle.tree_model.proofs.Differences.{at_differences, rising_differences}
use Rattle.tree_model.proofs.ChangeLists.{at_none, get_changed, same_changes}
use Rattle.tree_changes.specs.KeyChanges.{differs, that_differ, as_change, change_at}

-- ---- what makes no difference

same_record_itself : (r : Record) → same_record r r ≡ true
same_record_itself Document = refl
same_record_itself (Element n) = (bytes_eq-Decides n n).1 refl
same_record_itself (Text d) = (bytes_eq-Decides d d).1 refl
same_record_itself (Attr v) = (bytes_eq-Decides v v).1 refl

-- what stood there already
pub difference_itself : (o : Option Record) → difference o o ≡ None
difference_itself None = refl
difference_itself (Some r) = ap (λ b. cond b None (Some (Some r))) (same_record_itself r)

-- a difference says what stands there now
difference_is : (o n : Option Record) → is_some (difference o n) ≡ true → difference o n ≡ Some n
difference_is None None h = cc
difference_is (Some q) None h = refl
difference_is None (Some r) h = refl
difference_is (Some q) (Some r) h = elim (same_record r q) as (λ b. is_some (cond b None (Some (Some r))) ≡ true
    → cond b None (Some (Some r)) ≡ Some (Some r)) [ true ↦ λ g. cc | false ↦ λ _. refl ] h

no_difference : (o n : Option Record) → is_some (difference o n) ≡ false → difference o n ≡ None
no_difference o n h = elim (difference o n) as (λ d. is_some d ≡ false → d ≡ None) [ None ↦ λ _. refl | Some v ↦ λ g. cc ] h

-- ---- the changes that make one

all_kept : (P : Change → Type 0) (p : Change → Bool) (cs : List Change) → AllByRecursion P cs → AllByRecursion P (filter p cs)
all_kept P p [] h = tt
all_kept P p (c ∷ cs) h = elim (p c) as (λ b. AllByRecursion P (cond b (c ∷ filter p cs) (filter p cs))) [
  | true ↦ (h.0, all_kept P p cs h.1)
  | false ↦
      all_kept P p cs h.1
]

-- their keys rise still
pub rising_kept : (p : Change → Bool) (cs : List Change) → Rising cs → Rising (filter p cs)
rising_kept p [] r = tt
rising_kept p (c ∷ cs) r = elim (p c) as (λ b. Rising (cond b (c ∷ filter p cs) (filter p cs))) [
  | true ↦
      (all_kept (IsBehind c.key) p cs r.0, rising_kept p cs r.1)
  | false ↦ rising_kept p cs r.1
]

-- they say of each key what differs there
at_that_differ : (k : Key) (cs : List Change) (es : Entries) → Rising cs → now_at k (that_differ es cs) ≡ difference (get k es) (seen (now_at k cs) (get k es))
at_that_differ k [] es r = sym (difference_itself (get k es))
at_that_differ k (c ∷ cs) es r =
    elim (is_eq (key_cmp k c.key)) as (λ b. is_eq (key_cmp k c.key) ≡ b
    → now_at k (that_differ es (c ∷ cs)) ≡ difference (get k es) (seen (cond b (Some c.now) (now_at k cs)) (get k es))) [
      | true ↦ λ here. at_key (key_tied k c.key (eq_is _ here)) here
      | false ↦ λ apart. elim (differs es c) as (λ b. now_at k (cond b (c ∷ that_differ es cs) (that_differ es cs)) ≡ difference (get k es)
          (seen (now_at k cs) (get k es))) [
            | true ↦ ap (λ b. cond b (Some c.now) (now_at k (that_differ es cs))) apart ∙ at_that_differ k cs es r.1
            | false ↦ at_that_differ k cs es r.1
          ]
    ] refl
  where
    at_key : k ≡ c.key → is_eq (key_cmp k c.key) ≡ true → now_at k (that_differ es (c ∷ cs)) ≡ difference (get k es) c.now
    at_key is here = elim (differs es c) as (λ b. differs es c ≡ b
        → now_at k (cond b (c ∷ that_differ es cs) (that_differ es cs)) ≡ difference (get k es) c.now) [
          | true ↦ λ h. ap (λ b. cond b (Some c.now) (now_at k (that_differ es cs))) here ∙ sym (difference_is (get c.key es) c.now h)
              ∙ ap (λ j. difference (get j es) c.now) (sym is)
          | false ↦ λ h. at_none k (that_differ es cs)
              (subst (λ j. AllByRecursion (IsBehind j) (that_differ es cs)) (sym is) (all_kept (IsBehind c.key) (differs es) cs r.0))
              ∙ sym (no_difference (get c.key es) c.now h) ∙ ap (λ j. difference (get j es) c.now) (sym is)
        ] refl

-- so they are the differences
pub differences_that_differ : (cs : List Change) (es : Entries) → Sorted es → Rising cs → that_differ es cs ≡ differences es (changed cs es)
differences_that_differ cs es s r =
    let after : Sorted (changed cs es) = sorted_changed cs es s in
    same_changes (that_differ es cs) (differences es (changed cs es)) (rising_kept (differs es) cs r) (rising_differences es (changed cs es) s after)
    (λ k. at_that_differ k cs es r ∙ ap (difference (get k es)) (sym (get_changed k cs es r s)) ∙ sym (at_differences k es (changed cs es) after))

all_differ : (cs : List Change) (es : Entries) → AllByRecursion (λ c. differs es c ≡ true) cs → that_differ es cs ≡ cs
all_differ [] es h = refl
all_differ (c ∷ cs) es h = ap (λ b. cond b (c ∷ that_differ es cs) (that_differ es cs)) h.0 ∙ ap (λ v. c ∷ v) (all_differ cs es h.1)

-- where each makes a difference, all of them are
pub differences_of_changes : (cs : List Change) (es : Entries) → Sorted es → Rising cs → AllByRecursion (λ c. differs es c ≡ true) cs
    → cs ≡ differences es (changed cs es)
differences_of_changes cs es s r h = sym (all_differ cs es h) ∙ differences_that_differ cs es s r

-- of one change
pub differences_of_one : (k : Key) (now : Option Record) (es : Entries) → Sorted es → differences es (set k now es) ≡ change_at k (get k es) now
differences_of_one k now es s = sym (differences_that_differ (c ∷ []) es s (tt, tt))
    ∙ elim (differs es c) as (λ b. differs es c ≡ b → cond b (c ∷ []) [] ≡ change_at k (get k es) now) [
      | true ↦ λ h. ap (as_change k) (sym (difference_is (get k es) now h))
      | false ↦ λ h. ap (as_change k) (sym (no_difference (get k es) now h))
    ] refl
  where
    c : Change
    c = record { key = k; now = now }

-- of none
pub no_differences : (es : Entries) → Sorted es → differences es es ≡ []
no_differences es s = sym (differences_that_differ [] es s tt)
