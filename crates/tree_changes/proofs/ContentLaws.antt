-- `set_text` and `normalize`: each keeps a valid tree valid, and changes the entries under its node.
use Rattle.std.specs.Str.{is_utf8}
use Rattle.std.proofs.Common.{◌≡◌, ℕ, ◌+◌, ◌≤◌, true, false, not, if◌then◌else◌, ◌&&◌, nat_lt, List, [], ◌∷◌, ◌++◌, None, Some, refl, sym, ap, subst, ◌∙◌}
use Rattle.std.proofs.Common.{arith, true≢false}
use Rattle.std.proofs.lemmas.Bool.Decides.{nat_tests}
use Rattle.dewey_labels.specs.Labels.{Label, root, is_child, level}
use Rattle.dewey_labels.specs.Lists.{is_empty}
use Rattle.dewey_labels.specs.NewLabels.{first_division}
use Rattle.dewey_labels.proofs.Codes.{is_child_append, child_under}
use Rattle.dewey_labels.proofs.Labels.{child_label, level_of_child}
use Rattle.dewey_labels.proofs.Sides.{under_before}
use Rattle.tree_model.specs.declared.record.Record.{Record}
use Rattle.tree_model.specs.declared.record.Record.TheVariants.{Document, Element, Text, Attr}
use Rattle.tree_model.specs.declared.refusal.Refusal.{Refusal}
use Rattle.tree_model.specs.declared.refusal.Refusal.TheVariants.{Dom, TooDeep, TextLimit, LabelLimit}
use Rattle.tree_model.specs.declared.reply.Reply.TheVariants.{Nothing}
use Rattle.tree_model.specs.Limits.{deepest_level, is_too_long}
use Rattle.tree_model.specs.Records.{is_data}
use Rattle.tree_model.specs.Keys.{node_key}
use Rattle.tree_model.specs.Entries.{get}
use Rattle.tree_model.specs.Changes.{differences}
use Rattle.tree_model.specs.Tree.{Attributes, Forest, none, node, entries_of, Tree, map_of, at, found, below, labels, record_of}
use Rattle.tree_model.specs.inside.FoundNodes.{up, low}
use Rattle.tree_model.specs.ValidTrees.{KeysRise, KindsAllowed, LimitsKept, IsValidTree}
use Rattle.tree_model.specs.Fragments.{depth, IsValid}
use Rattle.tree_model.specs.Graft.{graft, all_within}
use Rattle.tree_model.specs.NodeKinds.{is_text_node}
use Rattle.tree_model.specs.Outcomes.{Outcome, refused, is_refused, not_found_err}
use Rattle.tree_model.specs.Edits.{edited, with_children}
use Rattle.tree_model.specs.Placing.{is_too_deep}
use Rattle.tree_model.specs.Texts.{text_below, with_data, set_text_of, set_text, normal, texts_fit, normalize_in, normalize}
use Rattle.tree_model.proofs.Edits.{over}
use Rattle.tree_model.proofs.EditedTrees.{labels-edit, edited_keeps, found_label}
use Rattle.tree_model.proofs.FoundRecords.{no_attr_node}
use Rattle.tree_model.proofs.Grafts.{keys-graft, limits-graft}
use Rattle.tree_model.proofs.SplitTexts.{data_of_tests}
use Rattle.tree_model.proofs.WholeTree.{map_sorted}
use Rattle.tree_changes.specs.KeyChanges.{change_at}
use Rattle.tree_changes.proofs.Cases.{on_test, on_node}
use Rattle.tree_changes.proofs.ChangeLists.{differences_of_one}
use Rattle.tree_changes.proofs.DataLaws.{with_data_keeps, with_data_changes}
use Rattle.tree_changes.proofs.EditedMaps.{IsStretch, stretch_differences, children_stretch}
use Rattle.tree_changes.proofs.NormalTexts.{normal_keys, normal_kinds, normal_limits}
use Rattle.tree_changes.proofs.Placements.{kinds_before}

-- ---- other children of a node

same_labels : (new g : Forest) → labels (with_children new g) ≡ labels g
same_labels new none = refl
same_labels new (node m r ats ch nx) = refl

-- the tree stays valid where they may stand there
pub children_keep : (l : Label) (new : Forest) (r : Record) (ats : Attributes) (ch nx : Forest) (t : Tree) → IsValidTree t
    → at l t.documents ≡ node l r ats ch nx
    → (KeysRise l l ch → KeysRise l l new) → (KindsAllowed (Some r) ch → KindsAllowed (Some r) new) → (LimitsKept ch → LimitsKept new)
    → IsValidTree (edited l (with_children new) t)
children_keep l new r ats ch nx t w e keys kinds limits = edited_keeps l (with_children new) t w (record {
  documents = labels-edit l (with_children new) t.documents (same_labels new);
  keys = subst (λ g. KeysRise (up l root t.documents) (low l root t.documents) g
      → KeysRise (up l root t.documents) (low l root t.documents) (with_children new g)) (sym e) (λ k. (k.0, k.1, k.2, k.3, keys k.4, k.5));
  kinds = subst (λ g. KindsAllowed (over l None t.documents) g → KindsAllowed (over l None t.documents) (with_children new g)) (sym e)
      (λ k. (k.0, k.1, k.2, kinds k.3, k.4));
  limits = subst (λ g. LimitsKept g → LimitsKept (with_children new g)) (sym e) (λ k. (k.0, k.1, k.2, limits k.3, k.4));
})

-- ---- `set_text`

module _ (l : Label) (d : List ℕ) where
  -- the text that an element then has
  abbrev pub new_text : Forest
  new_text = graft (l ++ (first_division ∷ [])) (text_below d) none

  valid_text : is_utf8 d ≡ true → is_too_long d ≡ false → IsValid (text_below d)
  valid_text u h = by d (data_of_tests d u h)
    where
      by : (x : List ℕ) → is_data x ≡ true → IsValid (text_below x)
      by [] h = tt
      by (b ∷ x) h = (h, tt)

  child : is_child l (l ++ (first_division ∷ [])) ≡ true
  child = is_child_append l (first_division ∷ []) refl

  pub new_text_keys : is_utf8 d ≡ true → is_too_long d ≡ false → all_within new_text ≡ true → KeysRise l l new_text
  new_text_keys u h within = keys-graft l l (l ++ (first_division ∷ [])) (text_below d) none child (under_before l _ (child_under l _ child)) within
      (valid_text u h) tt tt

  module _ (t : Tree) where
    -- refused; left as it is, as a document is; the data of a text; or the one text of an element
    pub on_set_text : IsValidTree t → (P : Outcome → Type 0) → ((why : Refusal) → P (refused why t))
        → ((ats : Attributes) (ch nx : Forest) → at l t.documents ≡ node l Document ats ch nx → P (Nothing, t))
        → ((old : List ℕ) (ats : Attributes) (ch nx : Forest) → at l t.documents ≡ node l (Text old) ats ch nx → P (with_data l t d))
        → ((n : List ℕ) (ats : Attributes) (ch nx : Forest) → at l t.documents ≡ node l (Element n) ats ch nx
        → (not (is_empty d) && is_too_deep l (text_below d)) ≡ false → is_too_long d ≡ false → all_within new_text ≡ true
        → P (Nothing, edited l (with_children new_text) t))
        → P (set_text l d t)
    on_set_text w P out left text done = on_node P l t (set_text_of l d t) (out (Dom not_found_err)) by
      where
        by : (r : Record) (ats : Attributes) (ch nx : Forest) → at l t.documents ≡ node l r ats ch nx → P (set_text_of l d t (node l r ats ch nx))
        by Document ats ch nx e = left ats ch nx e
        by (Text old) ats ch nx e = text old ats ch nx e
        by (Attr v) ats ch nx e = absurd (no_attr_node l l v ats ch nx t w e)
        by (Element n) ats ch nx e =
            let placed : Outcome = if all_within new_text then (Nothing, edited l (with_children new_text) t) else refused LabelLimit t in
            on_test P (not (is_empty d) && is_too_deep l (text_below d)) (refused TooDeep t) (if is_too_long d then refused TextLimit t else placed)
            (λ _. out TooDeep) (λ shallow.
            on_test P (is_too_long d) (refused TextLimit t) placed (λ _. out TextLimit) (λ short.
            on_test P (all_within new_text) (Nothing, edited l (with_children new_text) t) (refused LabelLimit t)
            (λ within. done n ats ch nx e shallow short within) (λ _. out LabelLimit)))

    module _ (w : IsValidTree t) (u : is_utf8 d ≡ true) where
      pub text_keeps : (n : List ℕ) (ats : Attributes) (ch nx : Forest) → at l t.documents ≡ node l (Element n) ats ch nx
          → (not (is_empty d) && is_too_deep l (text_below d)) ≡ false → is_too_long d ≡ false → all_within new_text ≡ true
          → IsValidTree (edited l (with_children new_text) t)
      text_keeps n ats ch nx e shallow short within =
          let labelled = found_label l t.documents w.keys (ap found e) in
          children_keep l new_text (Element n) ats ch nx t w e (λ _. new_text_keys u short within)
          (λ _. kinds_before n (l ++ (first_division ∷ [])) (text_below d) none tt)
          (λ _. limits d shallow labelled (valid_text u short))
        where
          limits : (x : List ℕ) → (not (is_empty x) && is_too_deep l (text_below x)) ≡ false → Rattle.dewey_labels.specs.Labels.is_label l ≡ true
              → IsValid (text_below x) → LimitsKept (graft (l ++ (first_division ∷ [])) (text_below x) none)
          limits [] shallow labelled valid = tt
          limits (b ∷ x) shallow labelled valid = limits-graft l (l ++ (first_division ∷ [])) (text_below (b ∷ x)) none (level_of_child l _ labelled child)
              (child_label l _ labelled child) fits valid tt
            where
              fits : level l + depth (text_below (b ∷ x)) ≤ deepest_level
              fits = let z : nat_lt deepest_level (level l + depth (text_below (b ∷ x))) ≡ false = shallow in grind (arith, nat_tests)

      pub set_text_keeps : IsValidTree (set_text l d t).1
      set_text_keeps = on_set_text w (λ o. IsValidTree o.1) (λ why. w) (λ ats ch nx e. w)
          (λ old ats ch nx e. with_data_keeps l d old ats ch nx t w e u) text_keeps

      -- of a text: its data
      pub set_text_of_text : (old : List ℕ) → record_of (at l t.documents) ≡ Some (Text old) → is_refused (set_text l d t).0 ≡ false
          → differences (map_of t) (map_of (set_text l d t).1) ≡ change_at (node_key l) (get (node_key l) (map_of t)) (Some (Text d))
      set_text_of_text old is = on_set_text w (λ o. is_refused o.0 ≡ false
          → differences (map_of t) (map_of o.1) ≡ change_at (node_key l) (get (node_key l) (map_of t)) (Some (Text d))) (λ why h. absurd (true≢false h))
          (λ ats ch nx e _. let no : Some Document ≡ Some (Text old) = sym (ap record_of e) ∙ is in cc)
          (λ old ats ch nx e h. ap (differences (map_of t)) (with_data_changes l d old ats ch nx t w e h)
          ∙ differences_of_one (node_key l) (Some (Text d)) (map_of t) (map_sorted t w))
          (λ n ats ch nx e _ _ _ _. let no : Some (Element n) ≡ Some (Text old) = sym (ap record_of e) ∙ is in cc)

      -- of an element: all under it goes, and the text comes
      pub set_text_stretch : (n : List ℕ) → record_of (at l t.documents) ≡ Some (Element n) → is_refused (set_text l d t).0 ≡ false
          → IsStretch (entries_of (below (at l t.documents))) (entries_of new_text) t (set_text l d t).1
      set_text_stretch n is = on_set_text w (λ o. is_refused o.0 ≡ false → IsStretch (entries_of (below (at l t.documents))) (entries_of new_text) t o.1)
          (λ why h. absurd (true≢false h))
          (λ ats ch nx e _. let no : Some Document ≡ Some (Element n) = sym (ap record_of e) ∙ is in cc)
          (λ old ats ch nx e _. let no : Some (Text old) ≡ Some (Element n) = sym (ap record_of e) ∙ is in cc)
          (λ m ats ch nx e _ _ _ _. subst (λ g. IsStretch (entries_of (below g)) (entries_of new_text) t (edited l (with_children new_text) t)) (sym e)
          (children_stretch l (with_children new_text) t (Element m) ats ch nx e new_text refl))

      pub set_text_differences : (n : List ℕ) → record_of (at l t.documents) ≡ Some (Element n) → is_refused (set_text l d t).0 ≡ false
          → differences (map_of t) (map_of (set_text l d t).1) ≡ differences (entries_of (below (at l t.documents))) (entries_of new_text)
      set_text_differences n is h = stretch_differences (entries_of (below (at l t.documents))) (entries_of new_text) t (set_text l d t).1 w set_text_keeps
          (set_text_stretch n is h)

      -- of a document nothing changes
      pub set_text_of_document : record_of (at l t.documents) ≡ Some Document → (set_text l d t).1 ≡ t
      set_text_of_document is = on_set_text w (λ o. o.1 ≡ t) (λ why. refl) (λ ats ch nx e. refl)
          (λ old ats ch nx e. let no : Some (Text old) ≡ Some Document = sym (ap record_of e) ∙ is in cc)
          (λ m ats ch nx e _ _ _. let no : Some (Element m) ≡ Some Document = sym (ap record_of e) ∙ is in cc)

-- ---- `normalize`

module _ (l : Label) (t : Tree) where
  -- refused; left as it is, as a text is; or done to the children of the node
  pub on_normalize : (P : Outcome → Type 0) → ((why : Refusal) → P (refused why t)) → (is_text_node (at l t.documents) ≡ true → P (Nothing, t))
      → ((r : Record) (ats : Attributes) (ch nx : Forest) → at l t.documents ≡ node l r ats ch nx → is_text_node (at l t.documents) ≡ false
      → texts_fit (normal ch) ≡ true → P (Nothing, edited l (with_children (normal ch)) t)) → P (normalize l t)
  on_normalize P out left done = on_node P l t (normalize_in l t) (out (Dom not_found_err)) (λ r ats ch nx e.
      on_test P (is_text_node (node l r ats ch nx)) (Nothing, t)
      (if texts_fit (normal ch) then (Nothing, edited l (with_children (normal ch)) t) else refused TextLimit t) (λ text. left (ap is_text_node e ∙ text))
      (λ no_text.
      on_test P (texts_fit (normal ch)) (Nothing, edited l (with_children (normal ch)) t) (refused TextLimit t)
      (λ fit. done r ats ch nx e (ap is_text_node e ∙ no_text) fit) (λ _. out TextLimit)))

  pub normalize_keeps : IsValidTree t → IsValidTree (normalize l t).1
  normalize_keeps w = on_normalize (λ o. IsValidTree o.1) (λ why. w) (λ _. w) (λ r ats ch nx e _ fit.
      children_keep l (normal ch) r ats ch nx t w e (normal_keys l l ch) (normal_kinds (Some r) ch) (λ k. normal_limits ch k fit))

  -- the children's entries, and those of the joined ones in their stead
  pub normalize_stretch : is_text_node (at l t.documents) ≡ false → is_refused (normalize l t).0 ≡ false
      → IsStretch (entries_of (below (at l t.documents))) (entries_of (normal (below (at l t.documents)))) t (normalize l t).1
  normalize_stretch no_text = on_normalize (λ o. is_refused o.0 ≡ false
      → IsStretch (entries_of (below (at l t.documents))) (entries_of (normal (below (at l t.documents)))) t o.1) (λ why h. absurd (true≢false h))
      (λ text. absurd (true≢false (sym text ∙ no_text)))
      (λ r ats ch nx e _ fit _. subst (λ g. IsStretch (entries_of (below g)) (entries_of (normal (below g))) t (edited l (with_children (normal ch)) t)) (sym e)
      (children_stretch l (with_children (normal ch)) t r ats ch nx e (normal ch) refl))

  pub normalize_differences : IsValidTree t → is_text_node (at l t.documents) ≡ false → is_refused (normalize l t).0 ≡ false
      → differences (map_of t) (map_of (normalize l t).1) ≡ differences (entries_of (below (at l t.documents))) (entries_of (normal (below (at l t.documents))))
  normalize_differences w no_text h = stretch_differences (entries_of (below (at l t.documents))) (entries_of (normal (below (at l t.documents)))) t
      (normalize l t).1 w (normalize_keeps w) (normalize_stretch no_text h)

  -- of a text nothing changes
  pub normalize_of_text : is_text_node (at l t.documents) ≡ true → (normalize l t).1 ≡ t
  normalize_of_text text = on_normalize (λ o. o.1 ≡ t) (λ why. refl) (λ _. refl) (λ r ats ch nx e no_text fit. absurd (true≢false (sym text ∙ no_text)))
