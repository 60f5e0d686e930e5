-- Changes of one node in its place: its record, and its attributes.
use Rattle.std.specs.List.{AllByRecursion}
use Rattle.std.specs.Ordering.{ordering_then}
use Rattle.std.specs.Cmp.Lexicographic.{slice_cmp}
use Rattle.std.proofs.Common.{◌≡◌, ℕ, true, false, List, [], ◌∷◌, ◌++◌, map, Option, None, Some, nat_cmp, refl, sym, ap, subst, ◌∙◌, append_assoc, is_some}
use Rattle.dewey_labels.specs.Labels.{Label, root}
use Rattle.dewey_labels.specs.Sides.{under, right, side, above, left, same}
use Rattle.dewey_labels.proofs.Sides.{under_before, right_before}
use Rattle.tree_model.specs.declared.record.Record.{Record}
use Rattle.tree_model.specs.declared.record.Record.TheVariants.{Document, Element, Text, Attr}
use Rattle.tree_model.specs.Records.{is_data}
use Rattle.tree_model.specs.Names.{Name, is_name}
use Rattle.tree_model.specs.Keys.{key_at, node_key}
use Rattle.tree_model.specs.Entries.{Entries, Below, Above, put, del}
use Rattle.tree_model.specs.Tree.{Attributes, Forest, none, node, attr_entry, entries_of, Tree, map_of, at, found, labels, choose, attributes_of, beside, edit}
use Rattle.tree_model.specs.inside.FoundNodes.{up, low}
use Rattle.tree_model.specs.ValidTrees.{KeysRise, KindsAllowed, LimitsKept, IsValidTree, may_stand, may_have}
use Rattle.tree_model.specs.Edits.{edited, with_record, with_attributes, with_entry, without_entry}
use Rattle.tree_model.proofs.Lists.{all_append, all_on}
use Rattle.tree_model.proofs.EntryLimits.{list_itself}
use Rattle.tree_model.proofs.Keys.{key_itself}
use Rattle.tree_model.proofs.Entries.{put_past, put_here, del_past}
use Rattle.tree_model.proofs.Split.{Labelled, SideIs, after_of, all_under}
use Rattle.tree_model.proofs.Found.{Lies, lies}
use Rattle.tree_model.proofs.ForwardReads.{behind_right}
use Rattle.tree_model.proofs.Seeks.{later_above}
use Rattle.tree_model.proofs.Edits.{over}
use Rattle.tree_model.proofs.EditedTrees.{labels-edit, edited_keeps}
use Rattle.tree_model.proofs.NamedLists.{name_starts, names-with_entry, all-with_entry, put_attribute}
use Rattle.tree_changes.proofs.EditedMaps.{prefix_of, whole_map, edited_map, prefix_below, with_label}
use Rattle.tree_changes.proofs.NamedLess.{without_absent, names-without, all-without, del_attribute}

-- ---- another record

pub record_puts : (l : Label) (r : Record) (t : Tree) → IsValidTree t → found (at l t.documents) ≡ true
    → map_of (edited l (with_record r) t) ≡ put (node_key l, r) (map_of t)
record_puts l r t w y =
    edited_map l (with_record r) t y
    ∙ with_label (λ g. prefix_of l t ++ (entries_of (with_record r g) ++ after_of l t.documents) ≡ put (node_key l, r)
    (prefix_of l t ++ (entries_of g ++ after_of l t.documents))) l t y
    (λ r0 ats ch nx e. sym (put_past (node_key l, r) (prefix_of l t) _ (prefix_below l [] t w.keys y)
    ∙ ap (λ v. prefix_of l t ++ v) (put_here (node_key l, r) (node_key l, r0) _ (key_itself (node_key l)))))
    ∙ ap (put (node_key l, r)) (sym (whole_map l t))

-- ---- another attribute

pub attribute_puts : (l : Label) (n : Name) (v : List ℕ) (t : Tree) → IsValidTree t → is_name n ≡ true → (r : Record) (ats : Attributes) (ch nx : Forest)
    → at l t.documents ≡ node l r ats ch nx
    → map_of (edited l (with_attributes (with_entry n v ats)) t) ≡ put (key_at l n, Attr v) (map_of t)
attribute_puts l n v t w h r ats ch nx e =
    let y : found (at l t.documents) ≡ true = ap found e in
    let z : Lies (up l root t.documents) l r ats ch nx (entries_of t.documents) = lies root root l l r ats ch nx t.documents w.keys e in
    let x : Rattle.tree_model.specs.declared.key.Key.Key × Record = (key_at l n, Attr v) in
    let back = entries_of ch ++ (entries_of nx ++ after_of l t.documents) in
    let highs : AllByRecursion (Above (key_at l n)) back = all_append (Above (key_at l n)) (entries_of ch) _
    (all_on (Labelled (SideIs l under)) (Above (key_at l n)) (λ e h. later_above l n e (under_before l e.0.label h)) (entries_of ch)
    (all_under l l ch z.children)) (all_on (Labelled (SideIs l right)) (Above (key_at l n)) (λ e h. later_above l n e (right_before l e.0.label h))
    (entries_of nx ++ after_of l t.documents) (behind_right (up l root t.documents) l r ats ch nx (entries_of t.documents) z)) in
    edited_map l (with_attributes (with_entry n v ats)) t y
    ∙ ap (λ g. prefix_of l t ++ (entries_of (with_attributes (with_entry n v ats) g) ++ after_of l t.documents)) e
    ∙ ap (λ es. prefix_of l t ++ ((node_key l, r) ∷ es))
    (regroup (map (attr_entry l) (with_entry n v ats)) (entries_of ch) (entries_of nx) (after_of l t.documents) ∙ sym (put_attribute l n v ats back highs))
    ∙ sym (put_past x (prefix_of l t) ((node_key l, r) ∷ (map (attr_entry l) ats ++ back)) (prefix_below l n t w.keys y)
    ∙ ap (λ es. prefix_of l t ++ es) (put_past x ((node_key l, r) ∷ []) (map (attr_entry l) ats ++ back) (node_below, tt)))
    ∙ ap (λ es. put x (prefix_of l t ++ ((node_key l, r) ∷ es)))
    (sym (regroup (map (attr_entry l) ats) (entries_of ch) (entries_of nx) (after_of l t.documents)))
    ∙ ap (put x) (sym (whole_map l t ∙ ap (λ g. prefix_of l t ++ (entries_of g ++ after_of l t.documents)) e))
  where
    regroup : (o c n a : Entries) → ((o ++ c) ++ n) ++ a ≡ o ++ (c ++ (n ++ a))
    regroup o c n a = simp append_assoc refl

    node_below : Below (key_at l n) (node_key l, r)
    node_below = ap (λ o. ordering_then o (slice_cmp nat_cmp [] n)) (list_itself l) ∙ name_starts n h

-- ---- valid trees stay so

pub text_may_stand : (p : Option Record) (old d : List ℕ) → may_stand p (Text old) ≡ true → may_stand p (Text d) ≡ true
text_may_stand None old d h = cc
text_may_stand (Some Document) old d h = cc
text_may_stand (Some (Element n)) old d h = refl
text_may_stand (Some (Text e)) old d h = cc
text_may_stand (Some (Attr v)) old d h = cc

pub text_may_have : (old d : List ℕ) (ats : Attributes) → may_have (Text old) ats ≡ true → may_have (Text d) ats ≡ true
text_may_have old d [] h = refl
text_may_have old d (a ∷ ats) h = cc

pub none_below_text : (old d : List ℕ) (ch : Forest) → KindsAllowed (Some (Text old)) ch → KindsAllowed (Some (Text d)) ch
none_below_text old d none h = tt
none_below_text old d (node l r ats ch nx) h = cc

-- other data of a text
pub data_keeps : (l : Label) (old d : List ℕ) (ats : Attributes) (ch nx : Forest) (t : Tree) → IsValidTree t → at l t.documents ≡ node l (Text old) ats ch nx
    → is_data d ≡ true → IsValidTree (edited l (with_record (Text d)) t)
data_keeps l old d ats ch nx t w e fits = edited_keeps l (with_record (Text d)) t w (record {
  documents = labels-edit l (with_record (Text d)) t.documents same_labels;
  keys = subst (λ g. KeysRise (up l root t.documents) (low l root t.documents) g
      → KeysRise (up l root t.documents) (low l root t.documents) (with_record (Text d) g)) (sym e) (λ k. k);
  kinds = subst (λ g. KindsAllowed (over l None t.documents) g → KindsAllowed (over l None t.documents) (with_record (Text d) g)) (sym e)
      (λ k. (text_may_stand (over l None t.documents) old d k.0, k.1, text_may_have old d ats k.2, none_below_text old d ch k.3, k.4));
  limits = subst (λ g. LimitsKept g → LimitsKept (with_record (Text d) g)) (sym e) (λ k. (k.0, fits, k.2, k.3, k.4));
})
  where
    same_labels : (g : Forest) → labels (with_record (Text d) g) ≡ labels g
    same_labels none = refl
    same_labels (node m r ats ch nx) = refl

-- another attribute of an element
pub attribute_keeps : (l : Label) (n : Name) (v k : List ℕ) (ats : Attributes) (ch nx : Forest) (t : Tree) → IsValidTree t
    → at l t.documents ≡ node l (Element k) ats ch nx → is_name n ≡ true → is_data v ≡ true → IsValidTree (edited l (with_attributes (with_entry n v ats)) t)
attribute_keeps l n v k ats ch nx t w e named fits = edited_keeps l h t w (record {
  documents = labels-edit l h t.documents same_labels;
  keys = subst (λ g. KeysRise (up l root t.documents) (low l root t.documents) g → KeysRise (up l root t.documents) (low l root t.documents) (h g)) (sym e)
      (λ q. (q.0, q.1, q.2, names-with_entry [] n v ats (name_starts n named) named q.3, q.4, q.5));
  kinds = subst (λ g. KindsAllowed (over l None t.documents) g → KindsAllowed (over l None t.documents) (h g)) (sym e) (λ q. (q.0, q.1, refl, q.3, q.4));
  limits = subst (λ g. LimitsKept g → LimitsKept (h g)) (sym e) (λ q. (q.0, q.1, all-with_entry (λ a. is_data a.1 ≡ true) n v ats fits q.2, q.3, q.4));
})
  where
    h : Forest → Forest
    h = with_attributes (with_entry n v ats)

    same_labels : (g : Forest) → labels (h g) ≡ labels g
    same_labels none = refl
    same_labels (node m r ats' ch nx) = refl

-- ---- an edit that changes nothing

pub edit_same : (l : Label) (h : Forest → Forest) (f : Forest) → h (at l f) ≡ at l f → edit l h f ≡ f
edit_same l h none e = refl
edit_same l h (node m r ats ch nx) e =
    let whole = node m r ats ch nx in
    elim (side m l) as (λ s. h (choose s none whole (at l ch) (at l nx)) ≡ choose s none whole (at l ch) (at l nx)
    → choose s whole (h whole) (node m r ats (edit l h ch) nx) (node m r ats ch (edit l h nx)) ≡ whole) [
      | above ↦ λ _. refl
      | left ↦ λ _. refl
      | same ↦ λ g. g
      | under ↦ λ g. ap (λ v. node m r ats v nx) (edit_same l h ch g)
      | right ↦ λ g. ap (λ v. node m r ats ch v) (edit_same l h nx g)
    ] e

pub without_absent_same : (l : Label) (n : Name) (t : Tree) → is_some (beside n (attributes_of (at l t.documents))) ≡ false
    → edited l (with_attributes (without_entry n (attributes_of (at l t.documents)))) t ≡ t
without_absent_same l n t h = ap (λ d. record { catalogue = t.catalogue; documents = d })
    (edit_same l (with_attributes (without_entry n (attributes_of (at l t.documents)))) t.documents (by (at l t.documents) h))
  where
    by : (g : Forest) → is_some (beside n (attributes_of g)) ≡ false → with_attributes (without_entry n (attributes_of g)) g ≡ g
    by none h = refl
    by (node m r ats ch nx) h = ap (λ v. node m r v ch nx) (without_absent n ats h)

-- ---- an attribute taken out

pub attribute_drops : (l : Label) (n : Name) (t : Tree) → IsValidTree t → is_name n ≡ true → (r : Record) (ats : Attributes) (ch nx : Forest)
    → at l t.documents ≡ node l r ats ch nx
    → map_of (edited l (with_attributes (without_entry n ats)) t) ≡ del (key_at l n) (map_of t)
attribute_drops l n t w h r ats ch nx e =
    let y : found (at l t.documents) ≡ true = ap found e in
    let z : Lies (up l root t.documents) l r ats ch nx (entries_of t.documents) = lies root root l l r ats ch nx t.documents w.keys e in
    let k = key_at l n in
    let back = entries_of ch ++ (entries_of nx ++ after_of l t.documents) in
    let highs : AllByRecursion (Above k) back = all_append (Above k) (entries_of ch) _
    (all_on (Labelled (SideIs l under)) (Above k) (λ e h. Rattle.tree_model.proofs.Seeks.later_above l n e (under_before l e.0.label h)) (entries_of ch)
    (all_under l l ch z.children)) (all_on (Labelled (SideIs l right)) (Above k)
    (λ e h. Rattle.tree_model.proofs.Seeks.later_above l n e (right_before l e.0.label h)) (entries_of nx ++ after_of l t.documents)
    (Rattle.tree_model.proofs.ForwardReads.behind_right (up l root t.documents) l r ats ch nx (entries_of t.documents) z)) in
    edited_map l (with_attributes (without_entry n ats)) t y
    ∙ ap (λ g. prefix_of l t ++ (entries_of (with_attributes (without_entry n ats) g) ++ after_of l t.documents)) e
    ∙ ap (λ es. prefix_of l t ++ ((node_key l, r) ∷ es))
    (regroup (map (attr_entry l) (without_entry n ats)) (entries_of ch) (entries_of nx) (after_of l t.documents)
    ∙ sym (del_attribute l [] n ats back z.names highs))
    ∙ sym (del_past k (prefix_of l t) ((node_key l, r) ∷ (map (attr_entry l) ats ++ back)) (prefix_below l n t w.keys y)
    ∙ ap (λ es. prefix_of l t ++ es) (del_past k ((node_key l, r) ∷ []) (map (attr_entry l) ats ++ back) (node_below, tt)))
    ∙ ap (λ es. del k (prefix_of l t ++ ((node_key l, r) ∷ es)))
    (sym (regroup (map (attr_entry l) ats) (entries_of ch) (entries_of nx) (after_of l t.documents)))
    ∙ ap (del k) (sym (whole_map l t ∙ ap (λ g. prefix_of l t ++ (entries_of g ++ after_of l t.documents)) e))
  where
    regroup : (o c n a : Entries) → ((o ++ c) ++ n) ++ a ≡ o ++ (c ++ (n ++ a))
    regroup o c n a = simp append_assoc refl

    node_below : Below (key_at l n) (node_key l, r)
    node_below = ap (λ o. ordering_then o (slice_cmp nat_cmp [] n)) (list_itself l) ∙ name_starts n h

pub without_attribute_keeps : (l : Label) (n : Name) (k : List ℕ) (ats : Attributes) (ch nx : Forest) (t : Tree) → IsValidTree t
    → at l t.documents ≡ node l (Element k) ats ch nx → IsValidTree (edited l (with_attributes (without_entry n ats)) t)
without_attribute_keeps l n k ats ch nx t w e = edited_keeps l h t w (record {
  documents = labels-edit l h t.documents same_labels;
  keys = subst (λ g. KeysRise (up l root t.documents) (low l root t.documents) g → KeysRise (up l root t.documents) (low l root t.documents) (h g)) (sym e)
      (λ q. (q.0, q.1, q.2, names-without [] n ats q.3, q.4, q.5));
  kinds = subst (λ g. KindsAllowed (over l None t.documents) g → KindsAllowed (over l None t.documents) (h g)) (sym e) (λ q. (q.0, q.1, refl, q.3, q.4));
  limits = subst (λ g. LimitsKept g → LimitsKept (h g)) (sym e) (λ q. (q.0, q.1, all-without (λ a. is_data a.1 ≡ true) n ats q.2, q.3, q.4));
})
  where
    h : Forest → Forest
    h = with_attributes (without_entry n ats)

    same_labels : (g : Forest) → labels (h g) ≡ labels g
    same_labels none = refl
    same_labels (node m r ats' ch nx) = refl

-- ---- another name of an element

element_may_stand : (p : Option Record) (k n : Name) → may_stand p (Element k) ≡ true → may_stand p (Element n) ≡ true
element_may_stand None k n h = cc
element_may_stand (Some Document) k n h = refl
element_may_stand (Some (Element m)) k n h = refl
element_may_stand (Some (Text e)) k n h = cc
element_may_stand (Some (Attr v)) k n h = cc

child_may_stand : (k n : Name) (r : Record) → may_stand (Some (Element k)) r ≡ true → may_stand (Some (Element n)) r ≡ true
child_may_stand k n Document h = cc
child_may_stand k n (Element m) h = refl
child_may_stand k n (Text d) h = refl
child_may_stand k n (Attr v) h = cc

below_renamed : (k n : Name) (ch : Forest) → KindsAllowed (Some (Element k)) ch → KindsAllowed (Some (Element n)) ch
below_renamed k n none h = tt
below_renamed k n (node l r ats ch nx) h = (child_may_stand k n r h.0, refl, h.2, h.3, below_renamed k n nx h.4)

pub renamed_keeps : (l : Label) (k n : Name) (ats : Attributes) (ch nx : Forest) (t : Tree) → IsValidTree t → at l t.documents ≡ node l (Element k) ats ch nx
    → is_name n ≡ true → IsValidTree (edited l (with_record (Element n)) t)
renamed_keeps l k n ats ch nx t w e named = edited_keeps l (with_record (Element n)) t w (record {
  documents = labels-edit l (with_record (Element n)) t.documents same_labels;
  keys = subst (λ g. KeysRise (up l root t.documents) (low l root t.documents) g
      → KeysRise (up l root t.documents) (low l root t.documents) (with_record (Element n) g)) (sym e) (λ q. q);
  kinds = subst (λ g. KindsAllowed (over l None t.documents) g → KindsAllowed (over l None t.documents) (with_record (Element n) g)) (sym e)
      (λ q. (element_may_stand (over l None t.documents) k n q.0, q.1, refl, below_renamed k n ch q.3, q.4));
  limits = subst (λ g. LimitsKept g → LimitsKept (with_record (Element n) g)) (sym e) (λ q. (q.0, named, q.2, q.3, q.4));
})
  where
    same_labels : (g : Forest) → labels (with_record (Element n) g) ≡ labels g
    same_labels none = refl
    same_labels (node m r ats' ch nx) = refl
