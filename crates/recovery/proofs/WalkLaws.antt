-- A walk over records whose keys rise, from the first on.
use Rattle.std.proofs.Common.{◌≡◌, ℕ, true, false, cond, List, [], ◌∷◌, ◌++◌, Option, Some, None, Ok, Ordering, Less, Equal, Greater, is_eq, is_lt, IsTrue, Bool, refl, sym, ap, subst, ◌∙◌, append_assoc, true≢false}
use Rattle.std.proofs.lemmas.List.{append-nil}
use Rattle.std.specs.List.{AllByRecursion}
use Rattle.std.specs.Option.{option_or}
use Rattle.std.specs.Prelude.{IfSome, option_to_list}
use Rattle.dewey_labels.specs.Labels.{IsLabel, Label, root}
use Rattle.dewey_labels.proofs.Sides.{under_before}
use Rattle.tree_model.specs.Changes.{Rising}
use Rattle.tree_model.specs.Entries.{Above, Entries, Sorted, changed, entries_above, first_above, get, last_below}
use Rattle.tree_model.specs.Keys.{key_at, key_cmp, node_key}
use Rattle.tree_model.specs.Places.{is_root}
use Rattle.tree_model.specs.StoredTree.{IsStoredTree, broken_at}
use Rattle.tree_model.specs.declared.change.Change.{Change}
use Rattle.tree_model.specs.declared.key.Key.{Key}
use Rattle.tree_model.specs.declared.record.Record.{Record}
use Rattle.tree_model.proofs.Entries.{above_lower, all_above_lower, beyond_all, get_none, scan_end, scan_on, sorted_changed}
use Rattle.tree_model.proofs.Keys.{key_itself, key_tied, key_turned_back}
use Rattle.tree_model.proofs.Lists.{all_append, all_behind}
use Rattle.tree_model.proofs.SameEntries.{value_is}
use Rattle.tree_model.proofs.StoredCatalogues.{later_not_below, not_root_under, root_is}
use Rattle.node_pages.specs.PageFiles.{contents_of_file, file_page}
use Rattle.node_pages.proofs.FileLaws.{read_sorted}
use Rattle.node_seq.specs.Reads.{LiesAbove, LiesBelow}
use Rattle.node_seq.specs.WalkSteps.{from_entry}
use Rattle.paged_seq.specs.PagedMaps.{entries_or_none, file_entries}
use Rattle.tree_rules.specs.Testing.{HasTaken}
use Rattle.tree_rules.specs.declared.tester.Tester.{Tester}
use Rattle.recovery.specs.inside.Merging.{HasMade, HasMerged, NoneBefore}
use Rattle.recovery.specs.inside.Walking.{IsTested, IsWalking}
use Rattle.recovery.proofs.MergeLaws.{all_taken, one_taken}

-- ---- the first entry

-- no key stands below the root's
root_is_least : (e : Key × Record) → IsLabel e.0.label → key_cmp e.0 (node_key root) ≡ Less → ⊥
root_is_least e label low = elim (is_root e.0.label) as (λ b. is_root e.0.label ≡ b → ⊥) [
  | true ↦ λ q. by_name e.0.name (ap (λ (l : Label). key_cmp (key_at l e.0.name) (node_key root)) (sym (root_is e.0.label q)) ∙ low)
  | false ↦ λ q. later_not_below root [] e (under_before root e.0.label (not_root_under e.0.label label.0 q)) low
] refl
  where
    by_name : (n : List ℕ) → key_cmp (key_at root n) (node_key root) ≡ Less → ⊥
    by_name [] h = cc
    by_name (d ∷ n) h = cc

none_lower : (k : Key) (e : Key × Record) (es : Entries) → last_below k (e ∷ es) ≡ None → is_lt (key_cmp e.0 k) ≡ false
none_lower k e es h = by_rest (last_below k es) (is_lt (key_cmp e.0 k)) refl h
  where
    by_rest : (o : Option (Key × Record)) (b : Bool) → b ≡ is_lt (key_cmp e.0 k) → option_or o (cond b (Some e) None) ≡ None → is_lt (key_cmp e.0 k) ≡ false
    by_rest None true is g = cc
    by_rest None false is g = sym is
    by_rest (Some x) b is g = cc

pub never_below : (found : Option (Key × Record)) → LiesBelow (node_key root) found → IfSome found (λ e. IsLabel e.0.label) → found ≡ None
never_below None low label = refl
never_below (Some e) low label = absurd (root_is_least e label low)

-- the entry at a key below which there is none is the first, and those above it are the others
pub starts_at : (k : Key) (r : Record) (es : Entries) → Sorted es → last_below k es ≡ None → get k es ≡ Some r → es ≡ from_entry (Some (k, r)) es
starts_at k r [] s low is = cc
starts_at k r (e ∷ es) s low is =
    elim (key_cmp k e.0) as (λ o. key_cmp k e.0 ≡ o → cond (is_eq o) (Some e.1) (get k es) ≡ Some r → e ∷ es ≡ (k, r) ∷ entries_above k (e ∷ es)) [
      | Less ↦ λ q g. let none : None ≡ Some r = sym (get_none k es (all_above_lower k e.0 q es s.0)) ∙ g in cc
      | Equal ↦ λ q g.
          let same : e ≡ (k, r) = λ i. (sym (key_tied k e.0 q) i, value_is e.1 r g i) in
          let behind : entries_above k (e ∷ es) ≡ es = ap (λ (o : Ordering). cond (is_lt o) (e ∷ entries_above k es) (entries_above k es)) q
          ∙ beyond_all k es (subst (λ (j : Key). AllByRecursion (Above j) es) (sym (key_tied k e.0 q)) s.0) in
          (λ i. same i ∷ sym behind i)
      | Greater ↦ λ q g. absurd (true≢false (sym (ap is_lt (key_turned_back k e.0 q)) ∙ none_lower k e es low))
    ] refl is

-- where none stands at it either, all stand above it
pub starts_above : (k : Key) (es : Entries) → Sorted es → last_below k es ≡ None → get k es ≡ None → es ≡ from_entry (first_above k es) es
starts_above k [] s low none = refl
starts_above k (e ∷ es) s low none =
    elim (key_cmp k e.0) as (λ o. key_cmp k e.0 ≡ o → cond (is_eq o) (Some e.1) (get k es) ≡ None → e ∷ es ≡ from_entry (first_above k (e ∷ es)) (e ∷ es)) [
      | Less ↦ λ q g.
          let first : first_above k (e ∷ es) ≡ Some e = ap (λ (o : Ordering). cond (is_lt o) (Some e) (first_above k es)) q in
          let behind : entries_above e.0 (e ∷ es) ≡ es = ap (λ (o : Ordering). cond (is_lt o) (e ∷ entries_above e.0 es) (entries_above e.0 es)) (key_itself e.0) ∙ beyond_all e.0 es s.0 in
          ap (λ (l : Entries). e ∷ l) (sym behind) ∙ ap (λ (o : Option (Key × Record)). from_entry o (e ∷ es)) (sym first)
      | Equal ↦ λ q g. cc
      | Greater ↦ λ q g. absurd (true≢false (sym (ap is_lt (key_turned_back k e.0 q)) ∙ none_lower k e es low))
    ] refl none

-- ---- the next one

-- from an entry on: it, and from the next one on
pub goes_on : (e : Key × Record) (es : Entries) (next : Option (Key × Record)) → Sorted es → next ≡ first_above e.0 es → from_entry (Some e) es ≡ e ∷ from_entry next es
goes_on e es next s is = ap (λ (l : Entries). e ∷ l) (behind next is)
  where
    behind : (o : Option (Key × Record)) → o ≡ first_above e.0 es → entries_above e.0 es ≡ from_entry o es
    behind None q = scan_end e.0 es (sym q)
    behind (Some f) q = scan_on e.0 f es s (sym q)

sorted_end : (es : Entries) (e f : Key × Record) → Sorted (es ++ e ∷ []) → Above e.0 f → Sorted ((es ++ e ∷ []) ++ f ∷ [])
sorted_end [] e f s above = ((above, tt), (tt, tt))
sorted_end (d ∷ es) e f s above =
    let low : Above d.0 f = above_lower d.0 e.0 (all_behind (Above d.0) es (e ∷ []) s.0).0 f above in
    (all_append (Above d.0) (es ++ e ∷ []) (f ∷ []) s.0 (low, tt), sorted_end es e f s.1 above)

sorted_on : (es : Entries) (e : Key × Record) (next : Option (Key × Record)) → Sorted (es ++ e ∷ []) → LiesAbove e.0 next → Sorted ((es ++ e ∷ []) ++ option_to_list next)
sorted_on es e None s above = subst Sorted (sym (append-nil (es ++ e ∷ []))) s
sorted_on es e (Some f) s above = sorted_end es e f s above

-- ---- the walk

pub walk_begins : (is_known : Bool) (file : List ℕ) (changes : List Change) (found : Option (Key × Record)) (t : Tester) → Rising changes → HasTaken t []
    → (IsTrue is_known → file_entries file ≡ from_entry found (file_entries file)) → IsWalking is_known file changes changes found t
walk_begins is_known file changes found t rising has first = record {
  walked = [];
  made = [];
  has = has;
  rising = rising;
  so_far = λ es s. refl;
  sorted = alone found;
  whole = first;
}
  where
    alone : (o : Option (Key × Record)) → Sorted (option_to_list o)
    alone None = tt
    alone (Some e) = (tt, tt)

pub walk_on : (is_known : Bool) (file : List ℕ) (changes before left : List Change) (e : Key × Record) (found next : Option (Key × Record)) (t u : Tester) → found ≡ Some e
    → IsWalking is_known file changes before found t → ((taken : Entries) → HasTaken t taken → HasMerged e before left taken u) → Rising left → LiesAbove e.0 next
    → (IsTrue is_known → Sorted (file_entries file)) → (IsTrue is_known → next ≡ first_above e.0 (file_entries file)) → IsWalking is_known file changes left next u
walk_on is_known file changes before left e found next t u is walking merged rising above sorted value =
    let w : IsWalking is_known file changes before (Some e) t = subst (λ (o : Option (Key × Record)). IsWalking is_known file changes before o t) is walking in
    let m = merged w.made w.has in
    record {
      walked = w.walked ++ e ∷ [];
      made = m.made;
      has = m.has;
      rising = rising;
      so_far = λ es s. one_taken w.walked e left before changes w.made m.made es s m.all w.so_far;
      sorted = sorted_on w.walked e next w.sorted above;
      whole = λ known. w.whole known ∙ ap (λ (l : Entries). w.walked ++ l) (goes_on e (file_entries file) next (sorted known) (value known))
          ∙ sym (append_assoc w.walked (e ∷ []) (from_entry next (file_entries file)));
    }

pub walk_ends : (is_known : Bool) (file : List ℕ) (changes before left : List Change) (found : Option (Key × Record)) (t u : Tester) (result : Option ℕ) → found ≡ None
    → IsWalking is_known file changes before found t → ((taken : Entries) → HasTaken t taken → HasMade None before left taken u) → NoneBefore None left
    → ((es : Entries) → HasTaken u es → Sorted es → result ≡ broken_at es) → (result ≡ None → (es : Entries) → HasTaken u es → Sorted es → IsStoredTree es) → IsTested is_known file changes result
walk_ends is_known file changes before left found t u result is walking made none place tree =
    let w : IsWalking is_known file changes before None t = subst (λ (o : Option (Key × Record)). IsWalking is_known file changes before o t) is walking in
    let m = made w.made w.has in
    let sorted : Sorted w.walked = subst Sorted (append-nil w.walked) w.sorted in
    let all : m.made ≡ changed changes w.walked = all_taken w.walked left before changes w.made m.made sorted none (m.all []) w.so_far in
    let rises : Sorted m.made = subst Sorted (sym all) (sorted_changed changes w.walked sorted) in
    record {
      records = w.walked;
      are = record { sorted = sorted; all = λ known. sym (w.whole known ∙ append-nil w.walked) };
      place = place m.made m.has rises ∙ ap broken_at all;
      tree = λ h. subst IsStoredTree all (tree h m.made m.has rises);
    }

-- ---- what pages hold

-- pages that break no rule hold records in the order of their keys
pub file_sorted : (file : List ℕ) (es : Entries) (base : ℕ) → contents_of_file file ≡ Ok (es, base) → Sorted es
file_sorted [] es base h = subst Sorted (ap entries_or_none h) tt
file_sorted (b ∷ bs) es base h = read_sorted (file_page (b ∷ bs)) es base h
