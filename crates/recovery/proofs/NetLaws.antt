-- The net changes of commits, and what they make of the valid records alone.
use Rattle.std.proofs.Common.{◌≡◌, ℕ, Bool, true, false, cond, ◌&&◌, List, [], ◌∷◌, ◌++◌, Option, Some, None, Less, Equal, Greater, is_eq, refl, sym, ap, subst, ◌∙◌}
use Rattle.std.specs.BTreeMap.{insert_entry}
use Rattle.std.specs.List.{AllByRecursion}
use Rattle.std.specs.Ordering.{match_ordering}
use Rattle.std.specs.Prelude.{IfSome}
use Rattle.tree_model.specs.Changes.{Rising, laid, now_at, seen, with_change}
use Rattle.tree_model.specs.Entries.{Entries, Sorted, get, changed}
use Rattle.tree_model.specs.Keys.{key_cmp}
use Rattle.tree_model.specs.Orders.{by_order}
use Rattle.tree_model.specs.Records.{record_fits}
use Rattle.tree_model.specs.StoredTree.{IsStoredTree}
use Rattle.tree_model.specs.declared.change.Change.{Change}
use Rattle.tree_model.specs.declared.key.Key.{Key}
use Rattle.tree_model.specs.declared.record.Record.{Record}
use Rattle.tree_model.proofs.ChangeLists.{at_here, at_skip, changed_laid, found_behind, get_changed, laid_none, rising_laid}
use Rattle.tree_model.proofs.Entries.{sorted_changed}
use Rattle.tree_model.proofs.Keys.{key_tied, key_turned}
use Rattle.tree_model.proofs.SameEntries.{same_entries, value_is}
use Rattle.node_seq.specs.ChangeLists.{IsChangeList, PutsValidEntry}
use Rattle.node_seq.specs.Reads.{IsValidEntry}
use Rattle.node_pages.proofs.StoredLaws.{tree_stored}
use Rattle.node_pages.specs.Cutting.{IsStored}
use Rattle.journal.specs.declared.group.Group.{Group}
use Rattle.paged_seq.specs.PagedMaps.{is_valid_entry, valid_at, valid_entries}
use Rattle.paged_seq.proofs.MapLaws.{get_kept, kept_sorted}
use Rattle.paged_seq.proofs.ValidLaws.{key_test, valid_test}
use Rattle.store_contents.specs.Contents.{after_commits, last_of}
use Rattle.recovery.specs.inside.Nets.{NetOf, after_runs, as_changes}
use Rattle.recovery.proofs.RunLaws.{runs_sorted}
use Rattle.store_contents.proofs.CommitLaws.{after_more}

-- ---- notes

-- a note takes the place of the one of its key
pub noted : (k : Key) (now : Option Record) (net : List (Key × Option Record)) → as_changes (insert_entry key_cmp net k now) ≡ with_change (record { key = k; now = now }) (as_changes net)
noted k now [] = refl
noted k now (e ∷ es) =
    let c : Change = record { key = k; now = now } in
    let d : Change = record { key = e.0; now = e.1 } in
    elim (key_cmp k e.0) as (λ o. key_cmp k e.0 ≡ o → as_changes (match_ordering o ((k, now) ∷ e ∷ es) ((e.0, now) ∷ es) (e ∷ insert_entry key_cmp es k now)) ≡ by_order o (c ∷ d ∷ as_changes es) (c ∷ as_changes es) (d ∷ with_change c (as_changes es))) [
      | Less ↦ λ _. refl
      | Equal ↦ λ q. ap (λ (key : Key). let n : Change = record { key = key; now = now } in n ∷ as_changes es) (sym (key_tied k e.0 q))
      | Greater ↦ λ _. ap (λ (v : List Change). d ∷ v) (noted k now es)
    ] refl

pub laid_more : (cs lower : List Change) (c : Change) → laid (cs ++ c ∷ []) lower ≡ with_change c (laid cs lower)
laid_more [] lower c = refl
laid_more (d ∷ cs) lower c = laid_more cs (with_change d lower) c

pub changes_more : (net : List (Key × Option Record)) (e : Key × Option Record) → as_changes (net ++ e ∷ []) ≡ as_changes net ++ record { key = e.0; now = e.1 } ∷ []
changes_more [] e = refl
changes_more (d ∷ net) e = ap (λ (v : List Change). record { key = d.0; now = d.1 } ∷ v) (changes_more net e)

-- changes that are laid over others are made after them
laid_makes : (cs lower : List Change) (es : Entries) → Rising lower → Sorted es → changed (laid cs lower) es ≡ changed cs (changed lower es)
laid_makes [] lower es r s = refl
laid_makes (c ∷ cs) lower es r s = laid_makes cs (with_change c lower) es (rising_laid (c ∷ []) lower r) s ∙ ap (changed cs) (changed_laid (c ∷ []) lower es (tt, tt) r s)

-- changes noted of none are a run that makes the same
pub noted_rise : (cs none now : List Change) → none ≡ [] → now ≡ laid cs none → Rising now
noted_rise cs none now e is = subst Rising (sym (is ∙ ap (laid cs) e)) (rising_laid cs [] tt)

pub noted_make : (cs none now : List Change) (es : Entries) → none ≡ [] → now ≡ laid cs none → Sorted es → changed now es ≡ changed cs es
noted_make cs none now es e is s = ap (λ (v : List Change). changed v es) (is ∙ ap (laid cs) e) ∙ laid_makes cs [] es tt s

-- one commit more
pub net_makes : (groups : List Group) (group : Group) (older now : List (List Change)) (newest next run : List Change) (es : Entries) → Sorted es
    → ((fs : Entries) → Sorted fs → changed next fs ≡ changed group.changes fs) → changed newest (after_runs older es) ≡ after_commits groups es
    → changed run (after_runs now es) ≡ changed next (changed newest (after_runs older es)) → changed run (after_runs now es) ≡ after_commits (groups ++ group ∷ []) es
net_makes groups group older now newest next run es s same so_far is =
    is ∙ same (changed newest (after_runs older es)) (sorted_changed newest (after_runs older es) (runs_sorted older es s))
    ∙ ap (changed group.changes) so_far ∙ sym (after_more groups group es)

-- ---- a tree's entries are valid

got : (P : Key × Record → Type 0) (k : Key) (r : Record) (es : Entries) → AllByRecursion P es → get k es ≡ Some r → P (k, r)
got P k r [] all is = cc
got P k r (e ∷ es) all is =
    elim (key_cmp k e.0) as (λ o. key_cmp k e.0 ≡ o → cond (is_eq o) (Some e.1) (get k es) ≡ Some r → P (k, r)) [
      | Less ↦ λ _ h. got P k r es all.1 h
      | Equal ↦ λ q h. subst P (λ i. (sym (key_tied k e.0 q) i, value_is e.1 r h i)) all.0
      | Greater ↦ λ _ h. got P k r es all.1 h
    ] refl is

stored_all : (P Q : Key × Record → Type 0) (es : Entries) → ((e : Key × Record) → P e → Q e) → AllByRecursion P es → AllByRecursion Q es
stored_all P Q [] f h = tt
stored_all P Q (e ∷ es) f h = (f e h.0, stored_all P Q es f h.1)

all_valid : (es : Entries) → IsStoredTree es → AllByRecursion IsValidEntry es
all_valid es stored = subst (AllByRecursion IsValidEntry) stored.map (stored_all IsStored IsValidEntry _ (λ e s. s.1) (tree_stored stored.tree stored.is_valid_tree))

both_true : (a b : Bool) → a ≡ true → b ≡ true → (a && b) ≡ true
both_true a b p q = (λ i. p i && q i)

valid_tested : (e : Key × Record) → IsValidEntry e → is_valid_entry e ≡ true
valid_tested e v = both_true (key_test e.0) (record_fits e.1) (valid_test e.0 v.0) v.1

-- ---- records that no tree has are gone in the end

module _ (cs : List Change) (es : Entries) (rise : Rising cs) (sorted : Sorted es) (stored : IsStoredTree (changed cs es)) where
  valid_there : (k : Key) (r : Record) → get k (changed cs es) ≡ Some r → IsValidEntry (k, r)
  valid_there k r h = got IsValidEntry k r (changed cs es) (all_valid (changed cs es) stored) h

  untouched : (k : Key) (o : Option Record) → get k (changed cs es) ≡ o → valid_at is_valid_entry k o ≡ o
  untouched k None g = refl
  untouched k (Some r) g = ap (λ (b : Bool). cond b (Some r) None) (valid_tested (k, r) (valid_there k r g))

  same_at : (k : Key) (m : Option (Option Record)) → now_at k cs ≡ m → seen m (valid_at is_valid_entry k (get k es)) ≡ seen m (get k es)
  same_at k (Some now) h = refl
  same_at k None h = untouched k (get k es) (get_changed k cs es rise sorted ∙ ap (λ (m : Option (Option Record)). seen m (get k es)) h)

  pub valid_enough : changed cs (valid_entries es) ≡ changed cs es
  valid_enough =
      let kept : Sorted (valid_entries es) = kept_sorted is_valid_entry es sorted in
      same_entries (changed cs (valid_entries es)) (changed cs es) (sorted_changed cs (valid_entries es) kept) (sorted_changed cs es sorted)
      (λ k. get_changed k cs (valid_entries es) rise kept ∙ ap (λ (o : Option Record). seen (now_at k cs) o) (get_kept is_valid_entry k es sorted)
      ∙ same_at k (now_at k cs) refl ∙ sym (get_changed k cs es rise sorted))

  -- what the changes put is in the tree
  put_there : (k : Key) (r : Record) → now_at k cs ≡ Some (Some r) → IsValidEntry (k, r)
  put_there k r h = valid_there k r (get_changed k cs es rise sorted ∙ ap (λ (m : Option (Option Record)). seen m (get k es)) h)

  pub net_list : IsChangeList cs
  net_list = record { rise = rise; puts = puts cs rise put_there }
    where
      one : (k : Key) (now : Option Record) → ((r : Record) → now ≡ Some r → IsValidEntry (k, r)) → IfSome now (λ r. IsValidEntry (k, r))
      one k None f = tt
      one k (Some r) f = f r refl

      apart : (k j : Key) → key_cmp k j ≡ Less → is_eq (key_cmp j k) ≡ false
      apart k j h = ap is_eq (key_turned k j h)

      puts : (ds : List Change) → Rising ds → ((k : Key) (r : Record) → now_at k ds ≡ Some (Some r) → IsValidEntry (k, r)) → AllByRecursion PutsValidEntry ds
      puts [] r f = tt
      puts (d ∷ ds) r f = (
        one d.key d.now (λ q h. f d.key q (at_here d ds ∙ ap Some h)),
        puts ds r.1 (λ k q h. f k q (at_skip k d ds (apart d.key k (found_behind d.key k ds (Some q) r.0 h)) ∙ h)),
      )

-- the whole map of which all this was found
pub net_is : (records : Entries) (base : ℕ) (commits : List Group) (changes : List Change) (number : ℕ) (whole : Entries) → Sorted records → Rising changes → ((es : Entries) → Sorted es → changed changes es ≡ after_commits commits es)
    → number ≡ last_of commits base → whole ≡ changed changes records → IsStoredTree whole → NetOf records base commits changes number
net_is records base commits changes number whole sorted rise effect last is stored =
    record {
      last = last;
      map = valid_enough changes records rise sorted (subst IsStoredTree is stored) ∙ effect records sorted;
      tree = subst IsStoredTree (is ∙ effect records sorted) stored;
    }

-- changes that are laid over none, twice, are what they were
pub layer_is : (changes none own below all : List Change) → IsChangeList changes → none ≡ [] → own ≡ laid changes none → below ≡ [] → all ≡ laid own below → all ≡ changes
layer_is changes none own below all list e0 e1 e2 e3 =
    let own_is : own ≡ changes = e1 ∙ ap (laid changes) e0 ∙ laid_none changes list.rise in
    e3 ∙ (λ i. laid (own_is i) (e2 i)) ∙ laid_none changes list.rise
