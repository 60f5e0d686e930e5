-- `remove` and `drop_document` by what was read: refused, or the entries of a subtree go.
use Rattle.std.proofs.Common.{◌≡◌, Bool, true, false, not, if◌then◌else◌, ◌&&◌, List, [], ◌∷◌, ◌++◌, map, Option, Some, None, Less, nat_cmp, is_lt, refl, sym, ap, subst, ◌∙◌, append-nil}
use Rattle.std.specs.Cmp.Lexicographic.{slice_cmp}
use Rattle.std.specs.List.{AllByRecursion}
use Rattle.std.specs.Ordering.{ordering_then}
use Rattle.dewey_labels.specs.Labels.{Label, parent, root}
use Rattle.dewey_labels.proofs.Codes.{child_under}
use Rattle.dewey_labels.proofs.Sides.{under_before}
use Rattle.tree_model.specs.declared.change.Change.{Change}
use Rattle.tree_model.specs.declared.fragment.Fragment.{Fragment}
use Rattle.tree_model.specs.declared.key.Key.{Key}
use Rattle.tree_model.specs.declared.record.Record.{Record}
use Rattle.tree_model.specs.declared.refusal.Refusal.{Refusal}
use Rattle.tree_model.specs.declared.refusal.Refusal.TheVariants.{Dom}
use Rattle.tree_model.specs.declared.reply.Reply.{Reply}
use Rattle.tree_model.specs.declared.reply.Reply.TheVariants.{Refused, Nothing, Place}
use Rattle.tree_model.specs.declared.reply.Reply.TheVariants as reply
use Rattle.tree_model.specs.Changes.{IsBehind, differences, drop_change}
use Rattle.tree_model.specs.Documents as documents
use Rattle.tree_model.specs.Edits.{edited}
use Rattle.tree_model.specs.Entries.{Entries, Above, Sorted}
use Rattle.tree_model.specs.Keys.{key_at, key_cmp, node_key}
use Rattle.tree_model.specs.Names.{Name}
use Rattle.tree_model.specs.Outcomes.{Outcome, is_refused, not_found_err, refused, see_in}
use Rattle.tree_model.specs.Placing.{has_child, remove, remove_from}
use Rattle.tree_model.specs.Subtrees.{dumped, fragment_of}
use Rattle.tree_model.specs.Tree.{Forest, none, node, Tree, at, behind, beside, entries_of, found, head_label, map_of, own, record_of}
use Rattle.tree_model.specs.ValidTrees.{IsValidTree, KindsAllowed, same_label}
use Rattle.tree_model.proofs.Edits.{over}
use Rattle.tree_model.proofs.Entries.{all_above_lower}
use Rattle.tree_model.proofs.Found.{some_is, at_label}
use Rattle.tree_model.proofs.FoundRecords.{at_kinds}
use Rattle.tree_model.proofs.Orders.{lt_is}
use Rattle.tree_model.proofs.StoredCatalogues.{same_label_is}
use Rattle.tree_model.proofs.WholeTree.{map_sorted}
use Rattle.tree_changes.specs.SubtreeEntries.{entries_within}
use Rattle.tree_changes.proofs.ChangeLists.{no_differences}
use Rattle.tree_changes.proofs.DocumentLaws.{drop_differences, dropped_child, dropped_there}
use Rattle.tree_changes.proofs.Gaps.{child_stands}
use Rattle.tree_changes.proofs.Placements.{over_parent}
use Rattle.tree_changes.proofs.PlacingLaws.{remove_differences}
use Rattle.node_seq.specs.ChangeLists.{IsChangeList}
use Rattle.dom_reads.specs.SubtreeWalks.{alone, subtree_of}
use Rattle.dom_reads.proofs.BuiltFragments.{dumped_is}
use Rattle.dom_reads.proofs.StepLaws.{root_not_found}
use Rattle.dom_writes.specs.inside.Above.{is_head_above}
use Rattle.dom_writes.specs.inside.Outcomes.{parent_of, reply_and_changes}
use Rattle.dom_writes.proofs.MergeLaws.{drops_change_list}

-- ---- outcomes

-- a refused call changes nothing
pub refused_outcome : (why : Refusal) (t : Tree) (o : Outcome) → IsValidTree t → o ≡ refused why t → (Refused why, []) ≡ reply_and_changes t o
refused_outcome why t o w e = ap (λ (cs : List Change). (Refused why, cs)) (sym (no_differences (map_of t) (map_sorted t w))) ∙ ap (reply_and_changes t) (sym e)

-- ---- the entries of a subtree

-- the two words of them are one
pub subtree_is : (l : Label) (t : Tree) → subtree_of l t ≡ entries_within (at l t.documents)
subtree_is l t = by (at l t.documents)
  where
    by : (g : Forest) → entries_of (alone g) ≡ entries_within g
    by none = refl
    by (node l r ats ch nx) = append-nil (own l r ats ++ entries_of ch)

-- there are none where no node was found
pub none_there : (l : Label) (t : Tree) → [] ≡ subtree_of l t → found (at l t.documents) ≡ false
none_there l t = by (at l t.documents)
  where
    by : (g : Forest) → [] ≡ entries_of (alone g) → found g ≡ false
    by none e = refl
    by (node l r ats ch nx) e = cc

pub some_there : (l : Label) (t : Tree) → (subtree_of l t ≡ [] → ⊥) → found (at l t.documents) ≡ true
some_there l t = by (at l t.documents)
  where
    by : (g : Forest) → (entries_of (alone g) ≡ [] → ⊥) → found g ≡ true
    by none h = absurd (h refl)
    by (node l r ats ch nx) h = refl

-- ---- the parent

-- no node has the root's label, which is its own parent's
pub root_child : (p c : Label) (t : Tree) → IsValidTree t → c ≡ root → None ≡ parent_of p c t
root_child p c t w e = sym (ap (λ l. parent_of p l t) e ∙ by (same_label root p) refl)
  where
    nowhere : (g : Forest) → (found g ≡ true → ⊥) → record_of g ≡ None
    nowhere none h = refl
    nowhere (node l r ats ch nx) h = absurd (h refl)

    by : (b : Bool) → same_label root p ≡ b → (if b then record_of (at p t.documents) else None) ≡ None
    by true q = nowhere (at p t.documents) (λ y. root_not_found p t w y (sym (same_label_is root p q)))
    by false q = refl

pub other_parent : (p c : Label) (t : Tree) → same_label (parent c) p ≡ false → None ≡ parent_of p c t
other_parent p c t h = sym (ap (λ b. if b then record_of (at p t.documents) else None) h)

pub its_parent : (p c : Label) (t : Tree) → same_label (parent c) p ≡ true → record_of (at p t.documents) ≡ parent_of p c t
its_parent p c t h = sym (ap (λ b. if b then record_of (at p t.documents) else None) h)

-- it isn't there, or is no parent of that child
pub no_parent : (p c : Label) (t : Tree) (P : Forest → Outcome) → None ≡ parent_of p c t → (has_child p c t ≡ false → (g : Forest) → P g ≡ refused (Dom not_found_err) t)
    → see_in t P (at p t.documents) ≡ refused (Dom not_found_err) t
no_parent p c t P e h = by (same_label (parent c) p) refl e
  where
    nowhere : (g : Forest) → None ≡ record_of g → see_in t P g ≡ refused (Dom not_found_err) t
    nowhere none q = refl
    nowhere (node l r ats ch nx) q = cc

    elsewhere : has_child p c t ≡ false → (g : Forest) → see_in t P g ≡ refused (Dom not_found_err) t
    elsewhere isnt none = refl
    elsewhere isnt (node l r ats ch nx) = h isnt (node l r ats ch nx)

    by : (b : Bool) → same_label (parent c) p ≡ b → None ≡ (if b then record_of (at p t.documents) else None) → see_in t P (at p t.documents) ≡ refused (Dom not_found_err) t
    by true q g = nowhere (at p t.documents) g
    by false q g = elsewhere (ap (λ b. b && found (at c t.documents)) q) (at p t.documents)

-- it is
pub record HasParent (p c : Label) (t : Tree) (r : Record) : Type 0 where
  pub same : same_label (parent c) p ≡ true
  pub record_is : Some r ≡ record_of (at p t.documents)

pub parent_there : (p c : Label) (t : Tree) (r : Record) → Some r ≡ parent_of p c t → HasParent p c t r
parent_there p c t r = by (same_label (parent c) p) refl
  where
    by : (b : Bool) → same_label (parent c) p ≡ b → Some r ≡ (if b then record_of (at p t.documents) else None) → HasParent p c t r
    by true q g = record { same = q; record_is = g }
    by false q g = cc

pub seen_in : (P : Forest → Outcome) (t : Tree) (r : Record) (g : Forest) → Some r ≡ record_of g → see_in t P g ≡ P g
seen_in P t r none e = cc
seen_in P t r (node l s ats ch nx) e = refl

record_there : (r : Record) (g : Forest) → Some r ≡ record_of g → found g ≡ true
record_there r none e = cc
record_there r (node l s ats ch nx) e = refl

-- ---- a node with its parent

module _ (p c : Label) (t : Tree) (w : IsValidTree t) (r : Record) (h : HasParent p c t r) where
  pub child_found : found (at c t.documents) ≡ true → has_child p c t ≡ true
  child_found y = ap (λ b. b && found (at c t.documents)) h.same ∙ y

  pub no_child_found : found (at c t.documents) ≡ false → has_child p c t ≡ false
  no_child_found y = ap (λ b. b && found (at c t.documents)) h.same ∙ y

  -- it is an element or a text, and so is a fragment
  pub gone_is : found (at c t.documents) ≡ true → dumped (at c t.documents) ≡ Some (fragment_of (at c t.documents))
  gone_is y =
      let stands = child_stands p c t w.keys (child_found y) in
      let above : over c None t.documents ≡ Some r = over_parent p c t w stands (record_there r (at p t.documents) h.record_is) ∙ sym h.record_is in
      dumped_is r (at c t.documents) (subst (λ q. KindsAllowed q (at c t.documents)) above (at_kinds None c t.documents w.kinds)) y

-- ---- `remove`

module _ (p c : Label) (t : Tree) (w : IsValidTree t) where
  no_child : has_child p c t ≡ false → (g : Forest) → remove_from p c t g ≡ refused (Dom not_found_err) t
  no_child isnt g = ap (λ b. if not b then refused (Dom not_found_err) t else (reply.Tree (Some (fragment_of (at c t.documents))), edited c behind t)) isnt

  pub remove_no_parent : None ≡ parent_of p c t → (Refused (Dom not_found_err), []) ≡ reply_and_changes t (remove p c t)
  remove_no_parent e = refused_outcome (Dom not_found_err) t (remove p c t) w (no_parent p c t (remove_from p c t) e no_child)

  pub remove_no_child : (r : Record) → Some r ≡ parent_of p c t → [] ≡ subtree_of c t → (Refused (Dom not_found_err), []) ≡ reply_and_changes t (remove p c t)
  remove_no_child r e h =
      let there = parent_there p c t r e in
      refused_outcome (Dom not_found_err) t (remove p c t) w
      (seen_in (remove_from p c t) t r (at p t.documents) there.record_is ∙ no_child (no_child_found p c t w r there (none_there c t h)) (at p t.documents))

  pub removed : (r : Record) (es : Entries) (gone : Option Fragment) → Some r ≡ parent_of p c t → es ≡ subtree_of c t → (es ≡ [] → ⊥) → gone ≡ dumped (at c t.documents)
      → (reply.Tree gone, map drop_change es) ≡ reply_and_changes t (remove p c t)
  removed r es gone e are some is =
      let there = parent_there p c t r e in
      let y : found (at c t.documents) ≡ true = some_there c t (λ q. some (are ∙ q)) in
      let does : remove p c t ≡ (reply.Tree (Some (fragment_of (at c t.documents))), edited c behind t) =
      seen_in (remove_from p c t) t r (at p t.documents) there.record_is
      ∙ ap (λ b. if not b then refused (Dom not_found_err) t else (reply.Tree (Some (fragment_of (at c t.documents))), edited c behind t)) (child_found p c t w r there y) in
      let drops : map drop_change es ≡ differences (map_of t) (map_of (remove p c t).1) =
      ap (map drop_change) (are ∙ subtree_is c t) ∙ sym (remove_differences p c t w (ap (λ (o : Outcome). is_refused o.0) does)) in
      let answer : reply.Tree gone ≡ (remove p c t).0 = ap reply.Tree (is ∙ gone_is p c t w r there y) ∙ sym (ap (λ (o : Outcome). o.0) does) in
      λ i. (answer i, drops i)

-- ---- `drop_document`

-- all entries lie above a key where the first does
pub all_above : (k : Key) (es : Entries) → Sorted es → is_head_above k es ≡ true → AllByRecursion (Above k) es
all_above k [] s h = tt
all_above k (e ∷ es) s h = let first : key_cmp k e.0 ≡ Less = lt_is _ h in (first, all_above_lower k e.0 first es s.0)

-- the document's label, as `doc` answers it
pub doc_place : (o p : Option Label) → Place p ≡ documents.label_or_not_found o → p ≡ o
doc_place None p e = cc
doc_place (Some l) p e = cc

pub no_place : (o : Option Label) (r : Reply) → r ≡ documents.label_or_not_found o → ((p : Option Label) → r ≡ Place p → ⊥) → None ≡ o
no_place None r e h = refl
no_place (Some l) r e h = absurd (h (Some l) e)

module _ (n : Name) (t : Tree) (w : IsValidTree t) where
  pub drop_missing : None ≡ beside n t.catalogue → (Refused (Dom not_found_err), []) ≡ reply_and_changes t (documents.drop_document n t)
  drop_missing e = refused_outcome (Dom not_found_err) t (documents.drop_document n t) w (ap (documents.drop_found n t) (sym e))

  module _ (l : Label) (e : Some l ≡ beside n t.catalogue) where
    -- the document's entries lie behind the catalogue's
    pub document_above : is_head_above (key_at root n) (subtree_of l t) ≡ true
    document_above = by (at l t.documents) refl (dropped_there n t l w (sym e))
      where
        below_root : slice_cmp nat_cmp root l ≡ Less
        below_root = under_before root l (child_under root l (dropped_child n t l w (sym e)))

        by : (g : Forest) → at l t.documents ≡ g → found g ≡ true → is_head_above (key_at root n) (entries_of (alone g)) ≡ true
        by none q y = refl
        by (node m r ats ch nx) q y =
            let label : m ≡ l = some_is m l (ap head_label (sym q) ∙ at_label l t.documents (ap found q)) in
            ap (λ k. is_lt (key_cmp (key_at root n) (node_key k))) label ∙ ap (λ o. is_lt (ordering_then o (slice_cmp nat_cmp n []))) below_root

    pub dropped : (k : Key) (es : Entries) → k ≡ key_at root n → es ≡ subtree_of l t
        → (Nothing, record { key = k; now = None } ∷ map drop_change es) ≡ reply_and_changes t (documents.drop_document n t)
    dropped k es is are =
        let answer : Nothing ≡ (documents.drop_document n t).0 = ap (λ (o : Option Label). (documents.drop_found n t o).0) e in
        let drops : record { key = k; now = None } ∷ map drop_change es ≡ differences (map_of t) (map_of (documents.drop_document n t).1) =
        (λ i. record { key = is i; now = None } ∷ map drop_change (are i))
        ∙ ap (λ (v : Entries). record { key = key_at root n; now = None } ∷ map drop_change v) (subtree_is l t)
        ∙ sym (drop_differences n t w l (sym e)) in
        λ i. (answer i, drops i)

-- a deletion before those of entries above it
pub drops_behind : (k : Key) (es : Entries) → Sorted es → is_head_above k es ≡ true → IsChangeList (record { key = k; now = None } ∷ map drop_change es)
drops_behind k es s h =
    let rest : IsChangeList (map drop_change es) = drops_change_list es s in
    record { rise = (behind_key es (all_above k es s h), rest.rise); puts = (tt, rest.puts) }
  where
    behind_key : (es : Entries) → AllByRecursion (Above k) es → AllByRecursion (IsBehind k) (map drop_change es)
    behind_key [] a = tt
    behind_key (e ∷ es) a = (a.0, behind_key es a.1)
