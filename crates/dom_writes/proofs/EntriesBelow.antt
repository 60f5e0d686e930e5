-- What is left of a subtree without its node's own entries is what lies below the node.
use Rattle.std.proofs.Common.{◌≡◌, Bool, true, false, cond, not, [], ◌∷◌, ◌++◌, map, filter, is_eq, refl, sym, ap, subst, ◌∙◌, append-nil, true≢false}
use Rattle.std.proofs.lemmas.List.Elements.{filter-append}
use Rattle.std.specs.List.{AllByRecursion}
use Rattle.dewey_labels.specs.Labels.{Label, root}
use Rattle.dewey_labels.specs.Sides.{under, side, is_under}
use Rattle.dewey_labels.proofs.Sides.{side_itself}
use Rattle.tree_model.specs.declared.key.Key.{Key}
use Rattle.tree_model.specs.declared.record.Record.{Record}
use Rattle.tree_model.specs.Entries.{Entries, Above, Sorted}
use Rattle.tree_model.specs.Tree.{Attributes, Forest, none, node, attr_entry, own, entries_of, Tree, at, below}
use Rattle.tree_model.specs.ValidTrees.{same_label, KeysRise, IsValidTree}
use Rattle.tree_model.specs.inside.FoundNodes.{up}
use Rattle.tree_model.proofs.EntryLimits.{list_itself}
use Rattle.tree_model.proofs.Found.{at_keys}
use Rattle.tree_model.proofs.Split.{Labelled, SideIs, all_under}
use Rattle.tree_model.proofs.StoredCatalogues.{same_label_is}
use Rattle.dom_reads.specs.SubtreeWalks.{alone, subtree_of}
use Rattle.dom_reads.proofs.SubtreeEntries.{found_label}
use Rattle.dom_writes.specs.inside.EntriesBelow.{is_other, without_own}

-- ---- lists of which items are left out

all_left : (P : Key × Record → Type 0) (p : Key × Record → Bool) (es : Entries) → AllByRecursion P es → AllByRecursion P (filter p es)
all_left P p [] h = tt
all_left P p (e ∷ es) h = elim (p e) as (λ b. AllByRecursion P (cond b (e ∷ filter p es) (filter p es))) [ true ↦ (h.0, all_left P p es h.1) | false ↦ all_left P p es h.1 ]

pub sorted_left : (p : Key × Record → Bool) (es : Entries) → Sorted es → Sorted (filter p es)
sorted_left p [] s = tt
sorted_left p (e ∷ es) s = elim (p e) as (λ b. Sorted (cond b (e ∷ filter p es) (filter p es))) [ true ↦ (all_left (Above e.0) p es s.0, sorted_left p es s.1) | false ↦ sorted_left p es s.1 ]

-- one more item
pub one_more : (p : Key × Record → Bool) (es : Entries) (e : Key × Record) (b : Bool) → p e ≡ b → filter p (es ++ (e ∷ [])) ≡ filter p es ++ cond b (e ∷ []) []
one_more p es e b h = filter-append p es (e ∷ []) ∙ ap (λ v. filter p es ++ cond v (e ∷ []) []) h

-- ---- the entries of a subtree

own_left_out : (l : Label) (r : Record) (ats : Attributes) (es : Entries) → without_own l (own l r ats ++ es) ≡ without_own l es
own_left_out l r ats es = ap (λ b. cond b ((record { label = l; name = [] }, r) ∷ without_own l (map (attr_entry l) ats ++ es)) (without_own l (map (attr_entry l) ats ++ es))) itself ∙ attributes ats
  where
    itself : not (same_label l l) ≡ false
    itself = ap (λ o. not (is_eq o)) (list_itself l)

    attributes : (ats : Attributes) → without_own l (map (attr_entry l) ats ++ es) ≡ without_own l es
    attributes [] = refl
    attributes (a ∷ ats) = ap (λ b. cond b (attr_entry l a ∷ without_own l (map (attr_entry l) ats ++ es)) (without_own l (map (attr_entry l) ats ++ es))) itself ∙ attributes ats

-- what lies under a label has another one
under_other : (l : Label) (e : Key × Record) → side l e.0.label ≡ under → is_other l e ≡ true
under_other l e u = elim (same_label e.0.label l) as (λ b. same_label e.0.label l ≡ b → not b ≡ true) [
  | true ↦ λ q. let no : true ≡ false = ap is_under (sym u ∙ ap (side l) (same_label_is e.0.label l q) ∙ side_itself l) in absurd (true≢false no)
  | false ↦ λ _. refl
] refl

under_kept : (l : Label) (es : Entries) → AllByRecursion (Labelled (SideIs l under)) es → without_own l es ≡ es
under_kept l [] h = refl
under_kept l (e ∷ es) h = ap (λ b. cond b (e ∷ without_own l es) (without_own l es)) (under_other l e h.0) ∙ ap (λ v. e ∷ v) (under_kept l es h.1)

-- the labels below a found node rise
pub keys_below : (l m : Label) (r : Record) (ats : Attributes) (ch nx : Forest) (t : Tree) → IsValidTree t → at l t.documents ≡ node m r ats ch nx → KeysRise l l ch
keys_below l m r ats ch nx t w e =
    let there = at_keys root root l t.documents w.keys in
    let found : KeysRise (up l root t.documents) there.0 (node m r ats ch nx) = subst (KeysRise (up l root t.documents) there.0) e there.1 in
    subst (λ k. KeysRise k k ch) (found_label l m r ats ch nx t.documents e) found.4

pub below_left : (l : Label) (t : Tree) → IsValidTree t → without_own l (subtree_of l t) ≡ entries_of (below (at l t.documents))
below_left l t w = by (at l t.documents) refl
  where
    by : (g : Forest) → at l t.documents ≡ g → without_own l (entries_of (alone g)) ≡ entries_of (below g)
    by none e = refl
    by (node m r ats ch nx) e =
        ap (without_own l) (append-nil (own m r ats ++ entries_of ch))
        ∙ ap (λ v. without_own l (own v r ats ++ entries_of ch)) (found_label l m r ats ch nx t.documents e)
        ∙ own_left_out l r ats (entries_of ch) ∙ under_kept l (entries_of ch) (all_under l l ch (keys_below l m r ats ch nx t w e))
