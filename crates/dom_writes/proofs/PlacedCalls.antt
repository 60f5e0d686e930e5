-- What `append` and `insert` answer and change, test by test.
use Rattle.std.proofs.Common.{◌≡◌, ◌≢◌, ◌&&◌, ◌||◌, Bool, true, false, if◌then◌else◌, not, [], is_some, Less, nat_cmp, Option, None, Some, IfSome, IsTrue, Result, Ok, Err, refl, sym, ap, subst, ◌∙◌, true≢false}
use Rattle.std.specs.Cmp.Lexicographic.{slice_cmp}
use Rattle.dewey_labels.specs.Labels.{Label, IsLabel, root, parent, is_child, is_label}
use Rattle.dewey_labels.proofs.Codes.{second_of_both}
use Rattle.dewey_labels.specs.NewLabels.{new_label}
use Rattle.dewey_labels.proofs.Labels.{child_of_parent, parent_of_child}
use Rattle.tree_model.specs.declared.dom_call.DomCall.TheVariants as call
use Rattle.tree_model.specs.declared.fragment.Fragment.{Fragment}
use Rattle.tree_model.specs.declared.record.Record.{Record}
use Rattle.tree_model.specs.declared.record.Record.TheVariants.{Document, Element, Text, Attr}
use Rattle.tree_model.specs.declared.refusal.Refusal.TheVariants.{Dom, TooDeep, LabelLimit}
use Rattle.tree_model.specs.declared.reply.Reply.{Reply}
use Rattle.tree_model.specs.declared.reply.Reply.TheVariants.{Refused}
use Rattle.tree_model.specs.Changes.{differences}
use Rattle.tree_model.specs.Edits.{edited}
use Rattle.tree_model.specs.Fragments.{Fragments, IsValid, is_text_fragment, plain}
use Rattle.tree_model.specs.Graft.{all_within, graft}
use Rattle.tree_model.specs.NodeKinds.{is_document, is_text_node, is_text_record}
use Rattle.tree_model.specs.Outcomes.{Outcome, hierarchy_request_err, not_found_err, is_refused, refused, see_in}
use Rattle.tree_model.specs.Places.{last_in}
use Rattle.tree_model.specs.Placing.{append, append_to, as_place, has_child, insert, insert_into, is_full, is_too_deep, place, with_last}
use Rattle.tree_model.specs.StoredTree.{is_document_record}
use Rattle.tree_model.specs.Tree.{Attributes, Forest, none, node, Tree, at, found, last_child_of, last_label, map_of, prev_of, record_of}
use Rattle.tree_model.specs.ValidTrees.{IsValidTree, same_label}
use Rattle.tree_model.proofs.PlaceLaws.{not_root}
use Rattle.tree_model.proofs.Refusals.{dom_refused}
use Rattle.tree_model.proofs.StoredCatalogues.{same_label_is}
use Rattle.tree_model.proofs.WholeTree.{map_sorted}
use Rattle.tree_changes.proofs.ChangeLists.{no_differences}
use Rattle.tree_changes.proofs.PlacingLaws.{append_differences, insert_differences}
use Rattle.node_seq.specs.ChangeLists.{IsChangeList}
use Rattle.dom_reads.proofs.ReplyLaws.{on_found, there}
use Rattle.dom_reads.proofs.StepLaws.{root_not_found, row_of}
use Rattle.dom_writes.specs.inside.NewPlaces.{SuitsOrRefused, answer, changes, takes_none, within_limits}
use Rattle.dom_writes.proofs.GraftChanges.{graft_changes}

-- ---- the found node

-- none was found
pub unseen_reply : (change : Forest → Outcome) (g : Forest) (t : Tree) → None ≡ record_of g → Refused (Dom not_found_err) ≡ (see_in t change g).0
unseen_reply change none t e = refl
unseen_reply change (node l r ats ch nx) t e = cc

seen_reply : (change : Forest → Outcome) (g : Forest) (t : Tree) → found g ≡ true → (change g).0 ≡ (see_in t change g).0
seen_reply change none t y = absurd (true≢false (sym y))
seen_reply change (node l r ats ch nx) t y = refl

text_is : (g : Forest) (r : Record) → Some r ≡ record_of g → is_text_node g ≡ is_text_record (Some r)
text_is g r e = on_found (λ h. is_text_node h ≡ is_text_record (Some r)) g r e (λ l ats ch nx. by l ats ch nx r)
  where
    by : (l : Label) (ats : Attributes) (ch nx : Forest) (r : Record) → is_text_node (node l r ats ch nx) ≡ is_text_record (Some r)
    by l ats ch nx Document = refl
    by l ats ch nx (Element n) = refl
    by l ats ch nx (Text d) = refl
    by l ats ch nx (Attr v) = refl

document_is : (g : Forest) (r : Record) → Some r ≡ record_of g → is_document g ≡ is_document_record (Some r)
document_is g r e = on_found (λ h. is_document h ≡ is_document_record (Some r)) g r e (λ l ats ch nx. by l ats ch nx r)
  where
    by : (l : Label) (ats : Attributes) (ch nx : Forest) (r : Record) → is_document (node l r ats ch nx) ≡ is_document_record (Some r)
    by l ats ch nx Document = refl
    by l ats ch nx (Element n) = refl
    by l ats ch nx (Text d) = refl
    by l ats ch nx (Attr v) = refl

record_found : (g : Forest) → is_some (record_of g) ≡ found g
record_found none = refl
record_found (node l r ats ch nx) = refl

-- ---- a new label

within_reply : (f : Fragments) (o : Option Label) (change : Label → Forest → Forest) (l : Label) (t : Tree) → answer (within_limits f o) ≡ (place f o change as_place l t).0
within_reply f None change l t = refl
within_reply f (Some new) change l t = by (all_within (graft new f none))
  where
    by : (b : Bool) → answer (if b then Ok new else Err (Refused LabelLimit)) ≡ (if b then (as_place new, edited l (change new) t) else refused LabelLimit t).0
    by true = refl
    by false = refl

-- it suits the fragment
pub within_suits : (p : Label) (f : Fragments) (o : Option Label) → IfSome o (λ n. IsTrue (is_child p n)) → is_too_deep p f ≡ false → SuitsOrRefused p f (within_limits f o)
within_suits p f None c s = refl
within_suits p f (Some new) c s = by (all_within (graft new f none)) refl
  where
    by : (b : Bool) → all_within (graft new f none) ≡ b → SuitsOrRefused p f (if b then Ok new else Err (Refused LabelLimit))
    by true w = record { child = c; shallow = s; within = w }
    by false w = refl

-- ---- the changes

-- at a place that suits the fragment they may be laid over any map
pub changes_rise : (p : Label) (f : Fragments) (o : Result Label Reply) → IsLabel p → IsValid f → SuitsOrRefused p f o → IsChangeList (changes f o)
changes_rise p f (Ok new) label valid s = graft_changes p new f label valid s
changes_rise p f (Err reply) label valid s = record { rise = tt; puts = tt }

-- a refused call changes nothing
pub none_changed : (t u : Tree) → IsValidTree t → u ≡ t → [] ≡ differences (map_of t) (map_of u)
none_changed t u w e = sym (no_differences (map_of t) (map_sorted t w)) ∙ ap (λ v. differences (map_of t) (map_of v)) (sym e)

pub append_changes : (p : Label) (f : Fragment) (t : Tree) (o : Result Label Reply) → IsValidTree t → IsValid (plain f) → SuitsOrRefused p (plain f) o → answer o ≡ (append p (plain f) t).0
    → changes (plain f) o ≡ differences (map_of t) (map_of (append p (plain f) t).1)
append_changes p f t (Ok new) w valid s e = sym (append_differences p (plain f) t w valid new (sym e))
append_changes p f t (Err reply) w valid s e = none_changed t (append p (plain f) t).1 w ((dom_refused (call.Append p f) t).same (ap is_refused (sym e) ∙ s))

pub insert_changes : (p c : Label) (f : Fragment) (t : Tree) (o : Result Label Reply) → IsValidTree t → IsValid (plain f) → SuitsOrRefused p (plain f) o → answer o ≡ (insert p (Some c) (plain f) t).0
    → changes (plain f) o ≡ differences (map_of t) (map_of (insert p (Some c) (plain f) t).1)
insert_changes p c f t (Ok new) w valid s e = sym (insert_differences p c (plain f) t w valid new (sym e))
insert_changes p c f t (Err reply) w valid s e = none_changed t (insert p (Some c) (plain f) t).1 w ((dom_refused (call.Insert p (Some c) f) t).same (ap is_refused (sym e) ∙ s))

-- ---- `append`

module _ (p : Label) (f : Fragments) (t : Tree) (w : IsValidTree t) (r : Record) (e : Some r ≡ record_of (at p t.documents)) where
  abbrev g : Forest
  g = at p t.documents

  abbrev at_end : Outcome
  at_end = place f (new_label p (last_child_of g) None) (with_last f) as_place p t

  pub append_text : is_text_record (Some r) ≡ true → Refused (Dom hierarchy_request_err) ≡ (append p f t).0
  append_text h =
      ap (λ b. (if b || is_full f g then refused (Dom hierarchy_request_err) t else if is_too_deep p f then refused TooDeep t else at_end).0) (sym (text_is g r e ∙ h))
      ∙ seen_reply (append_to p f t) g t (there g r e)

  last_is : (last : Option Label) → last ≡ last_in p t → last ≡ last_child_of g
  last_is last l = l ∙ ap last_label (row_of p t (not_root p t w (there g r e)))

  full_is : (last : Option Label) → last ≡ last_in p t → takes_none r f last ≡ is_full f g
  full_is last l = λ i. sym (document_is g r e) i && (is_text_fragment f || is_some (last_is last l i))

  -- neither a text, nor a document that takes none
  pub append_full : (last : Option Label) → is_text_record (Some r) ≡ false → last ≡ last_in p t → takes_none r f last ≡ true → Refused (Dom hierarchy_request_err) ≡ (append p f t).0
  append_full last h l full =
      (λ i. (if sym (text_is g r e ∙ h) i || sym (sym (full_is last l) ∙ full) i then refused (Dom hierarchy_request_err) t else if is_too_deep p f then refused TooDeep t else at_end).0)
      ∙ seen_reply (append_to p f t) g t (there g r e)

  module _ (last : Option Label) (h : is_text_record (Some r) ≡ false) (l : last ≡ last_in p t) (room : takes_none r f last ≡ false) where
    append_on : (if is_too_deep p f then refused TooDeep t else at_end).0 ≡ (append p f t).0
    append_on =
        (λ i. (if sym (text_is g r e ∙ h) i || sym (sym (full_is last l) ∙ room) i then refused (Dom hierarchy_request_err) t else if is_too_deep p f then refused TooDeep t else at_end).0)
        ∙ seen_reply (append_to p f t) g t (there g r e)

    pub append_deep : is_too_deep p f ≡ true → Refused TooDeep ≡ (append p f t).0
    append_deep deep = ap (λ b. (if b then refused TooDeep t else at_end).0) (sym deep) ∙ append_on

    pub append_placed : (o : Option Label) → is_too_deep p f ≡ false → o ≡ new_label p last None → answer (within_limits f o) ≡ (append p f t).0
    append_placed o shallow new =
        ap (λ n. answer (within_limits f n)) (new ∙ ap (λ k. new_label p k None) (last_is last l))
        ∙ within_reply f (new_label p (last_child_of g) None) (with_last f) p t
        ∙ ap (λ b. (if b then refused TooDeep t else at_end).0) (sym shallow)
        ∙ append_on

-- ---- a child

pub root_no_child : (p c : Label) (t : Tree) → IsValidTree t → c ≡ root → false ≡ has_child p c t
root_no_child p c t w e = by (same_label (parent c) p) (found (at c t.documents)) (λ y. root_not_found c t w y e)
  where
    by : (a b : Bool) → (b ≡ true → ⊥) → false ≡ (a && b)
    by true true h = absurd (h refl)
    by true false h = refl
    by false b h = refl

pub other_no_child : (p c above : Label) (t : Tree) → above ≡ parent c → same_label above p ≡ false → false ≡ has_child p c t
other_no_child p c above t e h = ap (λ b. b && found (at c t.documents)) (sym h) ∙ ap (λ a. same_label a p && found (at c t.documents)) e

pub child_there : (p c above : Label) (t : Tree) (o : Option Record) → above ≡ parent c → same_label above p ≡ true → o ≡ record_of (at c t.documents) → is_some o ≡ has_child p c t
child_there p c above t o e h r =
    ap is_some r ∙ record_found (at c t.documents) ∙ ap (λ b. b && found (at c t.documents)) (sym h) ∙ ap (λ a. same_label a p && found (at c t.documents)) e

pub child_by_label : (p c above : Label) → IsLabel c → c ≢ root → above ≡ parent c → same_label above p ≡ true → is_child p c ≡ true
child_by_label p c above label below e h =
    subst (λ a. is_child a c ≡ true) (sym e ∙ same_label_is above p h) (child_of_parent c label.0 below)

pub child_found : (p c : Label) (t : Tree) → has_child p c t ≡ true → found (at c t.documents) ≡ true
child_found p c t h = second_of_both (same_label (parent c) p) (found (at c t.documents)) h

-- a sibling of a child is a child, too
pub sibling_is_child : (p c : Label) (o : Option Label) → is_label p ≡ true → is_child p c ≡ true → IfSome o (λ l. IsTrue (is_child (parent c) l)) → IfSome o (λ l. IsTrue (is_child p l))
sibling_is_child p c o label child h = subst (λ q. IfSome o (λ l. IsTrue (is_child q l))) (parent_of_child p c label child) h

-- ---- `insert`

module _ (p c : Label) (f : Fragments) (t : Tree) (w : IsValidTree t) (r : Record) (e : Some r ≡ record_of (at p t.documents)) where
  abbrev q : Forest
  q = at p t.documents

  abbrev before : Outcome
  before = place f (new_label p (prev_of None c t.documents) (Some c)) (λ new. graft new f) as_place c t

  -- by the four tests
  abbrev tested : Bool → Bool → Bool → Bool → Outcome
  tested text child document deep =
      if text then refused (Dom hierarchy_request_err) t
      else if not child then refused (Dom not_found_err) t
      else if document then refused (Dom hierarchy_request_err) t
      else if deep then refused TooDeep t
      else before

  insert_is : (text child document deep : Bool) → is_text_record (Some r) ≡ text → has_child p c t ≡ child → is_document_record (Some r) ≡ document → is_too_deep p f ≡ deep
      → (tested text child document deep).0 ≡ (insert p (Some c) f t).0
  insert_is text child document deep a b d k =
      (λ i. (tested (sym (text_is q r e ∙ a) i) (sym b i) (sym (document_is q r e ∙ d) i) (sym k i)).0)
      ∙ seen_reply (insert_into p c f t) q t (there q r e)

  pub insert_text : is_text_record (Some r) ≡ true → Refused (Dom hierarchy_request_err) ≡ (insert p (Some c) f t).0
  insert_text a = insert_is true (has_child p c t) (is_document_record (Some r)) (is_too_deep p f) a refl refl refl

  pub insert_no_child : is_text_record (Some r) ≡ false → has_child p c t ≡ false → Refused (Dom not_found_err) ≡ (insert p (Some c) f t).0
  insert_no_child a b = insert_is false false (is_document_record (Some r)) (is_too_deep p f) a b refl refl

  pub insert_full : is_text_record (Some r) ≡ false → has_child p c t ≡ true → is_document_record (Some r) ≡ true → Refused (Dom hierarchy_request_err) ≡ (insert p (Some c) f t).0
  insert_full a b d = insert_is false true true (is_too_deep p f) a b d refl

  pub insert_deep : is_text_record (Some r) ≡ false → has_child p c t ≡ true → is_document_record (Some r) ≡ false → is_too_deep p f ≡ true → Refused TooDeep ≡ (insert p (Some c) f t).0
  insert_deep a b d k = insert_is false true false true a b d k

  pub insert_placed : (left o : Option Label) → is_text_record (Some r) ≡ false → has_child p c t ≡ true → is_document_record (Some r) ≡ false → is_too_deep p f ≡ false
      → left ≡ prev_of None c t.documents → o ≡ new_label p left (Some c) → answer (within_limits f o) ≡ (insert p (Some c) f t).0
  insert_placed left o a b d k l new =
      ap (λ n. answer (within_limits f n)) (new ∙ ap (λ m. new_label p m (Some c)) l)
      ∙ within_reply f (new_label p (prev_of None c t.documents) (Some c)) (λ new. graft new f) c t
      ∙ insert_is false true false false a b d k
