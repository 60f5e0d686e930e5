-- `replace` test by test, and what it changes.
use Rattle.std.specs.Cmp.Lexicographic.{slice_cmp, nat_list_cmp_total}
use Rattle.std.specs.List.{AllByRecursion}
use Rattle.std.proofs.Common.{◌≡◌, ◌≤◌, ◌+◌, Bool, true, false, not, nat_lt, if◌then◌else◌, ◌&&◌, List, [], Option, Some, None, IfSome, IsTrue, Ok, Err, Less, nat_cmp, refl, sym, ap, subst, ◌∙◌, true≢false, arith}
use Rattle.std.proofs.lemmas.Bool.Decides.{nat_tests}
use Rattle.dewey_labels.specs.Labels.{Label, IsLabel, is_child, level, parent}
use Rattle.dewey_labels.specs.NewLabels.{new_label}
use Rattle.dewey_labels.proofs.Codes.{child_under}
use Rattle.dewey_labels.proofs.Labels.{child_label, level_of_child, parent_of_child}
use Rattle.dewey_labels.proofs.Sides.{under_before}
use Rattle.tree_model.specs.declared.change.Change.{Change}
use Rattle.tree_model.specs.declared.fragment.Fragment.{Fragment}
use Rattle.tree_model.specs.declared.record.Record.{Record}
use Rattle.tree_model.specs.declared.record.Record.TheVariants.{Attr, Document, Element, Text}
use Rattle.tree_model.specs.declared.refusal.Refusal.TheVariants.{Dom, LabelLimit, TooDeep}
use Rattle.tree_model.specs.declared.reply.Reply.{Reply}
use Rattle.tree_model.specs.declared.reply.Reply.TheVariants.{Refused, Replaced}
use Rattle.tree_model.specs.Changes.{differences}
use Rattle.tree_model.specs.Edits.{edited}
use Rattle.tree_model.specs.Entries.{Entries, Sorted}
use Rattle.tree_model.specs.Fragments.{Fragments, IsValid, depth, is_text_fragment}
use Rattle.tree_model.specs.Graft.{all_within, graft}
use Rattle.tree_model.specs.Limits.{deepest_level}
use Rattle.tree_model.specs.NodeKinds.{is_document}
use Rattle.tree_model.specs.Outcomes.{Outcome, hierarchy_request_err, not_found_err, refused, see_in}
use Rattle.tree_model.specs.Placing.{has_child, in_place, is_too_deep, place, replace, replace_in}
use Rattle.tree_model.specs.StoredTree.{is_document_record}
use Rattle.tree_model.specs.Subtrees.{dumped, fragment_of}
use Rattle.tree_model.specs.Tree.{Attributes, Forest, none, node, Tree, at, entries_of, found, map_of, next_of, prev_of, record_of}
use Rattle.tree_model.specs.ValidTrees.{IsValidTree, KeysRise, LimitsKept, same_label}
use Rattle.tree_model.proofs.Found.{some_is}
use Rattle.tree_model.proofs.Grafts.{keys-graft, limits-graft}
use Rattle.tree_model.proofs.Sorted.{entries_sorted}
use Rattle.tree_model.proofs.WholeTree.{map_sorted}
use Rattle.dewey_labels.proofs.Codes.{first_of_both}
use Rattle.tree_changes.proofs.ChangeLists.{no_differences}
use Rattle.tree_changes.proofs.PlacingLaws.{on_replace, replace_differences}
use Rattle.node_seq.specs.Reads.{IsValidEntry}
use Rattle.dom_reads.specs.SubtreeWalks.{subtree_of}
use Rattle.dom_reads.proofs.ReplyLaws.{on_found}
use Rattle.dom_writes.specs.inside.NewPlaces.{Suits, within_limits}
use Rattle.dom_writes.specs.inside.Outcomes.{placed_instead, reply_and_changes}
use Rattle.dom_writes.proofs.GraftChanges.{forest_valid}
use Rattle.dom_writes.proofs.PlacedCalls.{child_found}
use Rattle.dom_writes.proofs.RemovalLaws.{HasParent, gone_is, seen_in, subtree_is}

-- ---- the neighbours of a child

pub neighbours_rise : (c : Label) (left right : Option Label) → IfSome left (λ l. slice_cmp nat_cmp l c ≡ Less) → IfSome right (λ r. slice_cmp nat_cmp c r ≡ Less)
    → IfSome left (λ l. IfSome right (λ r. slice_cmp nat_cmp l r ≡ Less))
neighbours_rise c None right h g = tt
neighbours_rise c (Some l) None h g = tt
neighbours_rise c (Some l) (Some r) h g = nat_list_cmp_total.trans l c r h g

-- ---- test by test

-- where no node is found
pub replace_unseen : (p c : Label) (f : Fragments) (t : Tree) → None ≡ record_of (at p t.documents) → refused (Dom not_found_err) t ≡ replace p c f t
replace_unseen p c f t e = by (at p t.documents) e
  where
    by : (g : Forest) → None ≡ record_of g → refused (Dom not_found_err) t ≡ see_in t (replace_in p c f t) g
    by none q = refl
    by (node l r ats ch nx) q = cc

-- the kind of the found node, by its record
document_is : (g : Forest) (r : Record) → Some r ≡ record_of g → is_document g ≡ is_document_record (Some r)
document_is g r e = on_found (λ h. is_document h ≡ is_document_record (Some r)) g r e (λ l ats ch nx. by l ats ch nx r)
  where
    by : (l : Label) (ats : Attributes) (ch nx : Forest) (r : Record) → is_document (node l r ats ch nx) ≡ is_document_record (Some r)
    by l ats ch nx Document = refl
    by l ats ch nx (Element n) = refl
    by l ats ch nx (Text d) = refl
    by l ats ch nx (Attr v) = refl

-- at a new label, unless one of the fragment's labels passes a limit
pub within_instead : (c : Label) (f : Fragments) (t : Tree) (o : Option Label)
    → placed_instead c f t (within_limits f o) ≡ place f o (in_place f) (λ new. Replaced new (fragment_of (at c t.documents))) c t
within_instead c f t None = refl
within_instead c f t (Some new) = by (all_within (graft new f none))
  where
    by : (b : Bool) → placed_instead c f t (if b then Ok new else Err (Refused LabelLimit))
        ≡ (if b then (Replaced new (fragment_of (at c t.documents)), edited c (in_place f new) t) else refused LabelLimit t)
    by true = refl
    by false = refl

module _ (p c : Label) (f : Fragments) (t : Tree) (r : Record) (e : Some r ≡ record_of (at p t.documents)) where
  abbrev instead : Outcome
  instead = place f (new_label p (prev_of None c t.documents) (next_of (at c t.documents))) (in_place f) (λ new. Replaced new (fragment_of (at c t.documents))) c t

  -- by the three tests
  abbrev tested : Bool → Bool → Bool → Outcome
  tested child textual deep =
      if not child then refused (Dom not_found_err) t
      else if textual then refused (Dom hierarchy_request_err) t
      else if deep then refused TooDeep t
      else instead

  replace_is : (child textual deep : Bool) → has_child p c t ≡ child → (is_document_record (Some r) && is_text_fragment f) ≡ textual → is_too_deep p f ≡ deep
      → tested child textual deep ≡ replace p c f t
  replace_is child textual deep a b k =
      (λ i. tested (sym a i) (sym (ap (λ v. v && is_text_fragment f) (document_is (at p t.documents) r e) ∙ b) i) (sym k i))
      ∙ sym (seen_in (replace_in p c f t) t r (at p t.documents) e)

  pub replace_no_child : has_child p c t ≡ false → refused (Dom not_found_err) t ≡ replace p c f t
  replace_no_child a = replace_is false (is_document_record (Some r) && is_text_fragment f) (is_too_deep p f) a refl refl

  pub replace_text : has_child p c t ≡ true → (is_document_record (Some r) && is_text_fragment f) ≡ true → refused (Dom hierarchy_request_err) t ≡ replace p c f t
  replace_text a b = replace_is true true (is_too_deep p f) a b refl

  pub replace_deep : has_child p c t ≡ true → (is_document_record (Some r) && is_text_fragment f) ≡ false → is_too_deep p f ≡ true → refused TooDeep t ≡ replace p c f t
  replace_deep a b k = replace_is true false true a b k

  pub replace_placed : (left right o : Option Label) → has_child p c t ≡ true → (is_document_record (Some r) && is_text_fragment f) ≡ false → is_too_deep p f ≡ false
      → left ≡ prev_of None c t.documents → right ≡ next_of (at c t.documents) → o ≡ new_label p left right → placed_instead c f t (within_limits f o) ≡ replace p c f t
  replace_placed left right o a b k l n new =
      ap (λ v. placed_instead c f t (within_limits f v)) (new ∙ (λ i. new_label p (l i) (n i)))
      ∙ within_instead c f t (new_label p (prev_of None c t.documents) (next_of (at c t.documents)))
      ∙ replace_is true false false a b k

-- ---- the fragment's entries at its new label

pub graft_fits : (p new : Label) (f : Fragments) → IsLabel p → IsValid f → Suits p f new → Sorted (entries_of (graft new f none)) × AllByRecursion IsValidEntry (entries_of (graft new f none))
graft_fits p new f label valid s = (entries_sorted p p (graft new f none) keys, forest_valid p p (graft new f none) label.0 keys limits)
  where
    fits : level p + depth f ≤ deepest_level
    fits = let e : nat_lt deepest_level (level p + depth f) ≡ false = s.shallow in grind (arith, nat_tests)

    keys : KeysRise p p (graft new f none)
    keys = keys-graft p p new f none s.child (under_before p new (child_under p new s.child)) s.within valid tt tt

    limits : LimitsKept (graft new f none)
    limits = limits-graft p new f none (level_of_child p new label.0 s.child) (child_label p new label.0 s.child) fits valid tt

-- ---- the outcome

pub refused_instead : (p c : Label) (f : Fragments) (t : Tree) (r : Reply) → IsValidTree t → placed_instead c f t (Err r) ≡ replace p c f t → (r, []) ≡ reply_and_changes t (replace p c f t)
refused_instead p c f t r w e = ap (λ (cs : List Change). (r, cs)) (sym (no_differences (map_of t) (map_sorted t w))) ∙ ap (reply_and_changes t) e

module _ (p c : Label) (f : Fragments) (t : Tree) (w : IsValidTree t) (valid : IsValid f) (new : Label) (e : placed_instead c f t (Ok new) ≡ replace p c f t) where
  placed : (replace p c f t).0 ≡ Replaced new (fragment_of (at c t.documents))
  placed = sym (ap (λ (o : Outcome). o.0) e)

  was_there : (found (at p t.documents) ≡ true) × (has_child p c t ≡ true)
  was_there = on_replace p c f t (λ o. o.0 ≡ Replaced new (fragment_of (at c t.documents)) → (found (at p t.documents) ≡ true) × (has_child p c t ≡ true))
      (λ why h. cc) (λ new' y child fits shallow label within h. (y, child)) placed

  -- the child was an element or a text
  pub old_is : dumped (at c t.documents) ≡ Some (fragment_of (at c t.documents))
  old_is = by (record_of (at p t.documents)) refl
    where
      found_record : (g : Forest) → None ≡ record_of g → found g ≡ true → ⊥
      found_record none q y = absurd (true≢false (sym y))
      found_record (node l r ats ch nx) q y = cc

      by : (o : Option Record) → record_of (at p t.documents) ≡ o → dumped (at c t.documents) ≡ Some (fragment_of (at c t.documents))
      by None q = absurd (found_record (at p t.documents) (sym q) was_there.0)
      by (Some r) q =
          let parent_is : HasParent p c t r = record { same = first_of_both (same_label (parent c) p) (found (at c t.documents)) was_there.1; record_is = sym q } in
          gone_is p c t w r parent_is (child_found p c t was_there.1)

  pub replaced : (old come : Entries) (cs : List Change) (gone : Fragment) → old ≡ subtree_of c t → come ≡ entries_of (graft new f none) → cs ≡ differences old come
      → Some gone ≡ dumped (at c t.documents) → (Replaced new gone, cs) ≡ reply_and_changes t (replace p c f t)
  replaced old come cs gone are fresh is went =
      let answer : Replaced new gone ≡ (replace p c f t).0 = ap (Replaced new) (some_is gone (fragment_of (at c t.documents)) (went ∙ old_is)) ∙ sym placed in
      let changes : cs ≡ differences (map_of t) (map_of (replace p c f t).1) =
      is ∙ (λ i. differences ((are ∙ subtree_is c t) i) (fresh i)) ∙ sym (replace_differences p c f t w valid new (fragment_of (at c t.documents)) placed) in
      λ i. (answer i, changes i)

-- what is none isn't something
pub nothing_is_some : {A B : Type 0} (o : Option A) (x : A) → o ≡ None → o ≡ Some x → B
nothing_is_some None x e h = cc
nothing_is_some (Some y) x e h = cc
