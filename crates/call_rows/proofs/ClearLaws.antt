-- The toy that writes keeps the laws.
use Rattle.std.proofs.Common.{◌≡◌, ℕ, Bool, true, false, cond, List, [], ◌∷◌, ◌++◌, Option, Some, None, is_some, is_eq, refl, sym, ap, subst, ◌∙◌, append_assoc, true≢false}
use Rattle.std.specs.List.{AllByRecursion}
use Rattle.std.proofs.lemmas.Str.{IsUtf8-nil, is_utf8-from_IsUtf8}
use Rattle.dewey_labels.specs.Labels.{Label, root, IsLabel}
use Rattle.dewey_labels.specs.Sides.{side, is_in, ahead}
use Rattle.dewey_labels.proofs.Sides.{side_itself, under_above}
use Rattle.lock_modes.specs.declared.ask.Ask.TheVariants as ask
use Rattle.lock_modes.specs.declared.mode.Mode.TheVariants.{SX}
use Rattle.lock_resources.specs.declared.resource.Resource.TheVariants.{Node}
use Rattle.lock_resources.specs.declared.resource.Side.{Side}
use Rattle.lock_resources.specs.declared.request.Request.{Request}
use Rattle.lock_resources.specs.Intentions.{request, intentions, with_intentions}
use Rattle.tree_model.specs.declared.change.Change.{Change}
use Rattle.tree_model.specs.declared.key.Key.{Key}
use Rattle.tree_model.specs.declared.record.Record.{Record}
use Rattle.tree_model.specs.declared.record.Record.TheVariants.{Document, Element, Text, Attr}
use Rattle.tree_model.specs.Keys.{key_cmp, key_at, node_key}
use Rattle.tree_model.specs.Names.{Name}
use Rattle.tree_model.specs.NodeKinds.{is_text_record}
use Rattle.tree_model.specs.Entries.{Entries, Below, get, put, changed}
use Rattle.tree_model.specs.Tree.{Attributes, Forest, none, node, entries_of, Tree, map_of, at, found, record_of, labels, head_label}
use Rattle.tree_model.specs.inside.FoundNodes.{up, low}
use Rattle.tree_model.specs.ValidTrees.{KeysRise, KindsAllowed, LimitsKept, IsValidTree, may_stand, may_have}
use Rattle.tree_model.specs.Records.{record_fits}
use Rattle.tree_model.specs.Outcomes.{Outcome, see_in, is_refused}
use Rattle.tree_model.specs.Edits.{edited, with_record}
use Rattle.tree_model.specs.Texts.{in_text, set_data_in, set_data}
use Rattle.tree_model.proofs.Lists.{all_append, all_on}
use Rattle.tree_model.proofs.EntryLimits.{list_itself}
use Rattle.tree_model.proofs.Keys.{key_itself}
use Rattle.tree_model.proofs.Entries.{put_past, put_here}
use Rattle.tree_model.proofs.Split.{Labelled, before_of, after_of, split, all_ahead}
use Rattle.tree_model.proofs.Found.{some_is, at_label}
use Rattle.tree_model.proofs.Seeks.{ahead_below_node}
use Rattle.tree_model.proofs.Edits.{over, edit_entries}
use Rattle.tree_model.proofs.EditedTrees.{labels-edit, edited_keeps}
use Rattle.tree_model.proofs.WholeTree.{catalogue_entries, at_root, found_under, get_node, there_in_tree}
use Rattle.tree_cells.specs.Cells.{Cell, node_cell, attr_cell, edge_cell, record_is, label_is, value_at}
use Rattle.tree_cells.specs.Covers.{label_of, writes, writes_from, writes_edge, Agree}
use Rattle.tree_cells.proofs.Coverage.{some_right, or_first, and_both, written_is_read}
use Rattle.tree_cells.proofs.FormedRows.{row_formed}
use Rattle.tree_cells.proofs.Edges.{all_edges_same}
use Rattle.tree_cells.proofs.KeyChanges.{get_in_changed}
use Rattle.tree_cells.proofs.SameTrees.{key_is}
use Rattle.call_contract.specs.Calls.{CallLaws}
use Rattle.call_rows.specs.Toys.{clear, cleared_reply}
use Rattle.call_rows.proofs.LookLaws.{record_same, node_is_read}

-- ---- another record at a node that is there

prefix_of : Label → Tree → Entries
prefix_of l t = catalogue_entries t.catalogue ++ before_of l t.documents

whole_map : (l : Label) (t : Tree) → map_of t ≡ prefix_of l t ++ (entries_of (at l t.documents) ++ after_of l t.documents)
unfolding prefix_of
whole_map l t = ap (λ v. catalogue_entries t.catalogue ++ v) (split l t.documents) ∙ sym (append_assoc (catalogue_entries t.catalogue) (before_of l t.documents) (entries_of (at l t.documents) ++ after_of l t.documents))

edited_map : (l : Label) (h : Forest → Forest) (t : Tree) → found (at l t.documents) ≡ true → map_of (edited l h t) ≡ prefix_of l t ++ (entries_of (h (at l t.documents)) ++ after_of l t.documents)
unfolding prefix_of
edited_map l h t y = ap (λ v. catalogue_entries t.catalogue ++ v) (edit_entries l h t.documents y) ∙ sym (append_assoc (catalogue_entries t.catalogue) (before_of l t.documents) (entries_of (h (at l t.documents)) ++ after_of l t.documents))

prefix_below : (l : Label) (n : Name) (t : Tree) → IsValidTree t → found (at l t.documents) ≡ true → AllByRecursion (Below (key_at l n)) (prefix_of l t)
unfolding prefix_of
prefix_below l n t w y =
    all_append (Below (key_at l n)) (catalogue_entries t.catalogue) (before_of l t.documents)
    (all_on (Labelled (λ v. ahead (side l v) ≡ true)) (Below (key_at l n)) (ahead_below_node l n) (catalogue_entries t.catalogue) (at_root (λ v. ahead (side l v) ≡ true) (ap ahead (under_above root l (found_under root root l t.documents w.keys y))) t.catalogue))
    (all_on (Labelled (λ v. ahead (side l v) ≡ true)) (Below (key_at l n)) (ahead_below_node l n) (before_of l t.documents) (all_ahead root root l t.documents w.keys))

-- a node that was found, with its own label
with_label : (P : Forest → Type 0) (l : Label) (t : Tree) → found (at l t.documents) ≡ true → ((r : Record) (ats : Attributes) (ch nx : Forest) → at l t.documents ≡ node l r ats ch nx → P (node l r ats ch nx)) → P (at l t.documents)
with_label P l t y h = by (at l t.documents) refl
  where
    by : (f : Forest) → at l t.documents ≡ f → P f
    by none e = absurd (true≢false (sym y ∙ ap found e))
    by (node m r ats ch nx) e =
        let is : m ≡ l = some_is m l (ap head_label (sym e) ∙ at_label l t.documents y) in
        subst (λ z. P (node z r ats ch nx)) (sym is) (h r ats ch nx (subst (λ z. at l t.documents ≡ node z r ats ch nx) is e))

record_puts : (l : Label) (r : Record) (t : Tree) → IsValidTree t → found (at l t.documents) ≡ true → map_of (edited l (with_record r) t) ≡ put (node_key l, r) (map_of t)
record_puts l r t w y =
    edited_map l (with_record r) t y
    ∙ with_label (λ g. prefix_of l t ++ (entries_of (with_record r g) ++ after_of l t.documents) ≡ put (node_key l, r) (prefix_of l t ++ (entries_of g ++ after_of l t.documents))) l t y
    (λ r0 ats ch nx e. sym (put_past (node_key l, r) (prefix_of l t) _ (prefix_below l [] t w y) ∙ ap (λ v. prefix_of l t ++ v) (put_here (node_key l, r) (node_key l, r0) _ (key_itself (node_key l)))))
    ∙ ap (put (node_key l, r)) (sym (whole_map l t))

-- ---- a text without its characters

abbrev pub emptied : Label → Tree → Tree
emptied l t = edited l (with_record (Text [])) t

-- what is done to the node that was found
outcome_of : (l : Label) (t : Tree) (f : Forest) → see_in t (in_text t (set_data_in l [] t)) f ≡ (cleared_reply (record_of f), cond (is_text_record (record_of f)) (emptied l t) t)
outcome_of l t none = refl
outcome_of l t (node m Document ats ch nx) = refl
outcome_of l t (node m (Element n) ats ch nx) = refl
outcome_of l t (node m (Text d) ats ch nx) = refl
outcome_of l t (node m (Attr v) ats ch nx) = refl

pub reply_is : (l : Label) (t : Tree) → IsValidTree t → (set_data l [] t).0 ≡ cleared_reply (get (node_key l) (map_of t))
reply_is l t w = ap (λ (o : Outcome). o.0) (outcome_of l t (at l t.documents)) ∙ ap cleared_reply (sym (get_node l t w))

pub after_is : (l : Label) (t : Tree) → IsValidTree t → (b : Bool) → is_text_record (get (node_key l) (map_of t)) ≡ b → (set_data l [] t).1 ≡ cond b (emptied l t) t
after_is l t w b e = ap (λ (o : Outcome). o.1) (outcome_of l t (at l t.documents)) ∙ ap (λ (o : Option Record). cond (is_text_record o) (emptied l t) t) (sym (get_node l t w)) ∙ ap (λ z. cond z (emptied l t) t) e

text_found : (f : Forest) → is_text_record (record_of f) ≡ true → found f ≡ true
text_found none h = absurd (true≢false (sym h))
text_found (node m r ats ch nx) h = refl

-- ---- what is emptied stays valid

empty_fits : record_fits (Text []) ≡ true
empty_fits = is_utf8-from_IsUtf8 [] IsUtf8-nil

text_may_stand : (p : Option Record) (old d : List ℕ) → may_stand p (Text old) ≡ true → may_stand p (Text d) ≡ true
text_may_stand None old d h = cc
text_may_stand (Some Document) old d h = cc
text_may_stand (Some (Element n)) old d h = refl
text_may_stand (Some (Text e)) old d h = cc
text_may_stand (Some (Attr v)) old d h = cc

text_may_have : (old d : List ℕ) (ats : Attributes) → may_have (Text old) ats ≡ true → may_have (Text d) ats ≡ true
text_may_have old d [] h = refl
text_may_have old d (a ∷ ats) h = cc

none_below_text : (old d : List ℕ) (ch : Forest) → KindsAllowed (Some (Text old)) ch → KindsAllowed (Some (Text d)) ch
none_below_text old d none h = tt
none_below_text old d (node l r ats ch nx) h = cc

emptied_text : (l : Label) (old : List ℕ) (ats : Attributes) (ch nx : Forest) (t : Tree) → IsValidTree t → at l t.documents ≡ node l (Text old) ats ch nx → IsValidTree (emptied l t)
emptied_text l old ats ch nx t w e = edited_keeps l (with_record (Text [])) t w (record {
  documents = labels-edit l (with_record (Text [])) t.documents same_labels;
  keys = subst (λ g. KeysRise (up l root t.documents) (low l root t.documents) g → KeysRise (up l root t.documents) (low l root t.documents) (with_record (Text []) g)) (sym e) (λ k. k);
  kinds = subst (λ g. KindsAllowed (over l None t.documents) g → KindsAllowed (over l None t.documents) (with_record (Text []) g)) (sym e) (λ k. (text_may_stand (over l None t.documents) old [] k.0, k.1, text_may_have old [] ats k.2, none_below_text old [] ch k.3, k.4));
  limits = subst (λ g. LimitsKept g → LimitsKept (with_record (Text []) g)) (sym e) (λ k. (k.0, empty_fits, k.2, k.3, k.4));
})
  where
    same_labels : (g : Forest) → labels (with_record (Text []) g) ≡ labels g
    same_labels none = refl
    same_labels (node m r ats ch nx) = refl

pub emptied_valid : (l : Label) (t : Tree) → IsValidTree t → is_text_record (get (node_key l) (map_of t)) ≡ true → IsValidTree (emptied l t)
emptied_valid l t w h = with_label (λ f. is_text_record (record_of f) ≡ true → IsValidTree (emptied l t)) l t (text_found (at l t.documents) here) each here
  where
    here : is_text_record (record_of (at l t.documents)) ≡ true
    here = ap is_text_record (sym (get_node l t w)) ∙ h

    each : (r : Record) (ats : Attributes) (ch nx : Forest) → at l t.documents ≡ node l r ats ch nx → is_text_record (Some r) ≡ true → IsValidTree (emptied l t)
    each Document ats ch nx e k = absurd (true≢false (sym k))
    each (Element n) ats ch nx e k = absurd (true≢false (sym k))
    each (Text old) ats ch nx e k = emptied_text l old ats ch nx t w e
    each (Attr v) ats ch nx e k = absurd (true≢false (sym k))

-- ---- the cells of what is emptied

module _ (l : Label) (t : Tree) (w : IsValidTree t) (h : is_text_record (get (node_key l) (map_of t)) ≡ true) where
  abbrev puts_empty : Change
  puts_empty = record { key = node_key l; now = Some (Text []) }

  there : found (at l t.documents) ≡ true
  there = text_found (at l t.documents) (ap is_text_record (sym (get_node l t w)) ∙ h)

  map_is : map_of (emptied l t) ≡ changed (puts_empty ∷ []) (map_of t)
  map_is = record_puts l (Text []) t w there

  pub key_is_after : (k : Key) → get k (map_of (emptied l t)) ≡ cond (is_eq (key_cmp k (node_key l))) (Some (Text [])) (get k (map_of t))
  key_is_after k = get_in_changed k (puts_empty ∷ []) t (emptied l t) w map_is

  same_found : (m : Label) → found (at m (emptied l t).documents) ≡ found (at m t.documents)
  same_found m = sym (there_in_tree m (emptied l t) (emptied_valid l t w h)) ∙ ap is_some (key_is_after (node_key m)) ∙ by (is_eq (key_cmp (node_key m) (node_key l))) refl
    where
      by : (b : Bool) → is_eq (key_cmp (node_key m) (node_key l)) ≡ b → is_some (cond b (Some (Text [])) (get (node_key m) (map_of t))) ≡ found (at m t.documents)
      by true g = sym (ap (λ k. found (at k t.documents)) (ap (λ k. k.label) (key_is (node_key m) (node_key l) g)) ∙ there)
      by false g = there_in_tree m t w

  edges_are : (m : Label) (s : Side) → value_at (emptied l t) (edge_cell m s) ≡ value_at t (edge_cell m s)
  edges_are m s = ap label_is (all_edges_same (emptied l t) t (emptied_valid l t w h) w same_found m s)

  -- a key that isn't the node's
  other_key : (k : Key) → (k ≡ node_key l → ⊥) → get k (map_of (emptied l t)) ≡ get k (map_of t)
  other_key k off = key_is_after k ∙ ap (λ b. cond b (Some (Text [])) (get k (map_of t))) (by (is_eq (key_cmp k (node_key l))) refl)
    where
      by : (b : Bool) → is_eq (key_cmp k (node_key l)) ≡ b → is_eq (key_cmp k (node_key l)) ≡ false
      by true g = absurd (off (key_is k (node_key l) g))
      by false g = g

-- ---- the laws

abbrev gs : Label → List Request
gs l = with_intentions (Node l) (ask.Node SX)

node_is_written : (l : Label) (x : Cell) → is_in (side l (label_of x)) ≡ true → writes (gs l) x ≡ true
node_is_written l x i = or_first _ (writes_edge (gs l) x) (some_right (λ r a. writes_from r a x) (intentions (Node l) (ask.Node SX)) (request (Node l) (ask.Node SX) ∷ []) (or_first (writes_from (Node l) (ask.Node SX) x) _ (and_both _ true i refl)))

in_itself : (l : Label) → is_in (side l l) ≡ true
in_itself l = ap is_in (side_itself l)

-- both trees have the same record at the node
same_record : (l : Label) (t u : Tree) → Agree (gs l) t u → get (node_key l) (map_of t) ≡ get (node_key l) (map_of u)
same_record l t u agree = record_same _ _ (agree (node_cell l) (node_is_read l (ask.Node SX) (or_first _ _ (and_both _ true (ap is_eq (list_itself l)) refl))))

same_after : (l : Label) (t u : Tree) → IsValidTree t → IsValidTree u → Agree (gs l) t u → (x : Cell) → writes (gs l) x ≡ true → value_at (set_data l [] t).1 x ≡ value_at (set_data l [] u).1 x
same_after l t u w v agree x on = by (is_text_record (get (node_key l) (map_of t))) refl
  where
    near : value_at t x ≡ value_at u x
    near = agree x (written_is_read (gs l) x on)

    emptied_same : (h : is_text_record (get (node_key l) (map_of t)) ≡ true) (k : is_text_record (get (node_key l) (map_of u)) ≡ true) (x : Cell) → value_at t x ≡ value_at u x → value_at (emptied l t) x ≡ value_at (emptied l u) x
    emptied_same h k (node_cell m) e = ap record_is (key_is_after l t w h (node_key m) ∙ ap (cond (is_eq (key_cmp (node_key m) (node_key l))) (Some (Text []))) (record_same _ _ e) ∙ sym (key_is_after l u v k (node_key m)))
    emptied_same h k (attr_cell m n) e = ap record_is (key_is_after l t w h (key_at m n) ∙ ap (cond (is_eq (key_cmp (key_at m n) (node_key l))) (Some (Text []))) (record_same _ _ e) ∙ sym (key_is_after l u v k (key_at m n)))
    emptied_same h k (edge_cell m s) e = edges_are l t w h m s ∙ e ∙ sym (edges_are l u v k m s)

    by : (b : Bool) → is_text_record (get (node_key l) (map_of t)) ≡ b → value_at (set_data l [] t).1 x ≡ value_at (set_data l [] u).1 x
    by true h =
        let k = ap is_text_record (sym (same_record l t u agree)) ∙ h in
        ap (λ z. value_at z x) (after_is l t w true h) ∙ emptied_same h k x near ∙ sym (ap (λ z. value_at z x) (after_is l u v true k))
    by false h =
        let k = ap is_text_record (sym (same_record l t u agree)) ∙ h in
        ap (λ z. value_at z x) (after_is l t w false h) ∙ near ∙ sym (ap (λ z. value_at z x) (after_is l u v false k))

rest_is : (l : Label) (t : Tree) → IsValidTree t → (x : Cell) → writes (gs l) x ≡ false → value_at (set_data l [] t).1 x ≡ value_at t x
rest_is l t w x off = by (is_text_record (get (node_key l) (map_of t))) refl
  where
    elsewhere : (x : Cell) (m : Label) → label_of x ≡ m → writes (gs l) x ≡ false → m ≡ l → ⊥
    elsewhere x m is out same = true≢false (sym (node_is_written l x (subst (λ z. is_in (side l z) ≡ true) (sym (is ∙ same)) (in_itself l))) ∙ out)

    emptied_is : (h : is_text_record (get (node_key l) (map_of t)) ≡ true) (x : Cell) → writes (gs l) x ≡ false → value_at (emptied l t) x ≡ value_at t x
    emptied_is h (node_cell m) out = ap record_is (other_key l t w h (node_key m) (λ e. elsewhere (node_cell m) m refl out (ap (λ k. k.label) e)))
    emptied_is h (attr_cell m n) out = ap record_is (other_key l t w h (key_at m n) (λ e. elsewhere (attr_cell m n) m refl out (ap (λ k. k.label) e)))
    emptied_is h (edge_cell m s) out = edges_are l t w h m s

    by : (b : Bool) → is_text_record (get (node_key l) (map_of t)) ≡ b → value_at (set_data l [] t).1 x ≡ value_at t x
    by true h = ap (λ z. value_at z x) (after_is l t w true h) ∙ emptied_is h x off
    by false h = ap (λ z. value_at z x) (after_is l t w false h)

valid_after : (l : Label) (t : Tree) → IsValidTree t → IsValidTree (set_data l [] t).1
valid_after l t w = by (is_text_record (get (node_key l) (map_of t))) refl
  where
    by : (b : Bool) → is_text_record (get (node_key l) (map_of t)) ≡ b → IsValidTree (set_data l [] t).1
    by true h = subst IsValidTree (sym (after_is l t w true h)) (emptied_valid l t w h)
    by false h = subst IsValidTree (sym (after_is l t w false h)) w

refused_is : (l : Label) (t : Tree) (f : Forest) → is_refused (see_in t (in_text t (set_data_in l [] t)) f).0 ≡ true → (see_in t (in_text t (set_data_in l [] t)) f).1 ≡ t
refused_is l t none h = refl
refused_is l t (node m Document ats ch nx) h = refl
refused_is l t (node m (Element n) ats ch nx) h = refl
refused_is l t (node m (Text d) ats ch nx) h = absurd (true≢false (sym h))
refused_is l t (node m (Attr v) ats ch nx) h = refl

pub clear_laws : CallLaws Label IsLabel clear
clear_laws = record {
  form = λ l t i w. row_formed (Node l) (ask.Node SX) refl i.0;
  same_reply = λ l t u i w v agree. reply_is l t w ∙ ap cleared_reply (same_record l t u agree) ∙ sym (reply_is l u v);
  same_written = λ l t u i w v agree x on. same_after l t u w v agree x on;
  keeps_rest = λ l t i w x off. rest_is l t w x off;
  same_next = λ l t u k i w v agree. refl;
  keeps_valid = λ l t i w. valid_after l t w;
  refused_keeps = λ l t i w h. refused_is l t (at l t.documents) h;
}
