-- `create` and `drop`: what they change beside the catalogue's entry is the document's subtree, put or deleted.
use Rattle.std.specs.Cmp.Lexicographic.{slice_cmp}
use Rattle.std.specs.Option.{option_or}
use Rattle.std.specs.Ordering.{ordering_then}
use Rattle.std.proofs.Common.{◌≡◌, ℕ, true, false, if◌then◌else◌, [], ◌∷◌, ◌++◌, map, Option, None, Some, is_some, option_map, Less, nat_cmp, is_eq, refl, sym}
use Rattle.std.proofs.Common.{ap, subst, ◌∙◌, append_assoc, append-nil, true≢false, ⊎_elim}
use Rattle.dewey_labels.specs.Labels.{Label, root, is_child}
use Rattle.dewey_labels.specs.LabelText.{label_text}
use Rattle.dewey_labels.specs.Sides.{under, side}
use Rattle.dewey_labels.proofs.Sides.{under_before}
use Rattle.tree_model.specs.declared.change.Change.{Change}
use Rattle.tree_model.specs.declared.key.Key.{Key}
use Rattle.tree_model.specs.declared.record.Record.{Record}
use Rattle.tree_model.specs.declared.record.Record.TheVariants.{Attr}
use Rattle.tree_model.specs.declared.reply.Reply.TheVariants.{Nothing, Place}
use Rattle.tree_model.specs.declared.refusal.Refusal.TheVariants.{Dom}
use Rattle.tree_model.specs.Names.{Name, is_name}
use Rattle.tree_model.specs.Keys.{key_at, key_cmp}
use Rattle.tree_model.specs.Entries.{Sorted, get, put, del, changed}
use Rattle.tree_model.specs.Changes.{put_change, drop_change, differences}
use Rattle.tree_model.specs.Tree.{attr_entry, own, entries_of, Catalogue, root_attribute, root_attributes, Tree, map_of, at, found, behind, beside, labels}
use Rattle.tree_model.specs.Tree.{edit}
use Rattle.tree_model.specs.ValidTrees.{IsCatalogueOf, IsValidTree, is_among}
use Rattle.tree_model.specs.Fragments.{Fragments, IsValid}
use Rattle.tree_model.specs.Outcomes.{Outcome, refused, not_found_err}
use Rattle.tree_model.specs.Edits.{with_entry, without_entry}
use Rattle.tree_model.specs.Documents.{document_at, with_document, create, without_document, drop_found, drop_document}
use Rattle.tree_model.specs.inside.FoundNodes.{up, low}
use Rattle.tree_model.proofs.Creates.{Creates, is_refused_so, is_made, create_does, create_keeps}
use Rattle.tree_model.proofs.Edits.{edit_entries, edit_keys, edit_kinds, edit_limits, over}
use Rattle.tree_model.proofs.Entries.{sorted_del, sorted_behind}
use Rattle.tree_model.proofs.Joins.{entries-then_trees}
use Rattle.tree_model.proofs.NamedLists.{name_starts, put_attribute, root-with_entry}
use Rattle.tree_model.proofs.NewDocuments.{document_entries}
use Rattle.tree_model.proofs.PlaceLaws.{found_or_not}
use Rattle.tree_model.proofs.Split.{all_under, before_of, after_of, split}
use Rattle.tree_model.proofs.Stretches.{attr_record}
use Rattle.tree_model.proofs.WholeTree.{catalogue_entries, at_root, names_of_root, documents_above, get_document, map_sorted}
use Rattle.tree_changes.specs.KeyChanges.{change_at}
use Rattle.tree_changes.specs.SubtreeEntries.{entries_within}
use Rattle.tree_changes.proofs.ChangeLists.{differences_of_one}
use Rattle.tree_changes.proofs.DocumentRows.{rises, among_in, found_among, beside_all, labels_gone, catalogue_gone}
use Rattle.tree_changes.proofs.EditedMaps.{IsStretch, stretch_changes, differences_from_none, with_label, tree_stretch}
use Rattle.tree_changes.proofs.NamedLess.{no_entry, del_attribute}
use Rattle.tree_changes.proofs.Placements.{keys_behind, kinds_behind, limits_behind}
use Rattle.tree_changes.proofs.Stretches.{get_append, sorted_before, differences_between, differences_apart, none_behind}

-- ---- the catalogue's entries and the documents'

abbrev AtRoot : Key → Type 0
AtRoot k = k.label ≡ root

abbrev UnderRoot : Key → Type 0
UnderRoot k = side root k.label ≡ under

root_first : (j k : Key) → AtRoot j → UnderRoot k → key_cmp j k ≡ Less
root_first j k p q = ap (λ o. ordering_then o (slice_cmp nat_cmp j.name k.name))
    (subst (λ l. slice_cmp nat_cmp l k.label ≡ Less) (sym p) (under_before root k.label q))

module _ (t u : Tree) (w : IsValidTree t) (v : IsValidTree u) where
  -- the differences of two trees are those of the catalogues, and then those of the documents
  pub tree_parts : differences (map_of t) (map_of u) ≡ differences (catalogue_entries t.catalogue) (catalogue_entries u.catalogue) ++ differences
      (entries_of t.documents) (entries_of u.documents)
  tree_parts =
      let s = map_sorted t w in
      let r = map_sorted u v in
      differences_apart AtRoot UnderRoot root_first (catalogue_entries t.catalogue) (catalogue_entries u.catalogue) (entries_of t.documents)
      (entries_of u.documents)
      (at_root (λ l. l ≡ root) refl t.catalogue) (at_root (λ l. l ≡ root) refl u.catalogue) (all_under root root t.documents w.keys)
      (all_under root root u.documents v.keys)
      (sorted_before (catalogue_entries t.catalogue) (entries_of t.documents) s) (sorted_before (catalogue_entries u.catalogue) (entries_of u.documents) r)
      (sorted_behind (catalogue_entries t.catalogue) (entries_of t.documents) s) (sorted_behind (catalogue_entries u.catalogue) (entries_of u.documents) r) s r

first_part : (o p : Option Record) → p ≡ None → option_or o p ≡ o
first_part None p e = e
first_part (Some r) p e = refl

-- what the catalogue's entries have of a Name
root_entry : (n : Name) (t : Tree) → IsValidTree t → is_name n ≡ true
    → get (key_at root n) (catalogue_entries t.catalogue) ≡ attr_record (option_map label_text (beside n t.catalogue))
root_entry [] t w named = let no : slice_cmp {A = ℕ} nat_cmp [] [] ≡ Less = name_starts [] named in cc
root_entry (d ∷ n) t w named =
    sym (first_part (get (key_at root (d ∷ n)) (catalogue_entries t.catalogue)) (get (key_at root (d ∷ n)) (entries_of t.documents))
    (none_behind AtRoot UnderRoot root_first (key_at root (d ∷ n)) refl (entries_of t.documents) (all_under root root t.documents w.keys)))
    ∙ sym (get_append (key_at root (d ∷ n)) (catalogue_entries t.catalogue) (entries_of t.documents))
    ∙ get_document d n t w

none_there : {A : Type 0} (o : Option A) → is_some o ≡ false → o ≡ None
none_there None h = refl
none_there (Some a) h = absurd (true≢false h)

-- ---- `create`

module _ (n : Name) (f : Fragments) (t : Tree) (w : IsValidTree t) (valid : IsValid f) where
  catalogue_more : (l : Label) → catalogue_entries (with_entry n l t.catalogue) ≡ put (key_at root n, Attr (label_text l)) (catalogue_entries t.catalogue)
  catalogue_more l =
      ap (map (attr_entry root)) (root-with_entry n l t.catalogue)
      ∙ sym (append-nil (map (attr_entry root) (with_entry n (label_text l) (root_attributes t.catalogue))))
      ∙ sym (put_attribute root n (label_text l) (root_attributes t.catalogue) [] tt)
      ∙ ap (put (key_at root n, Attr (label_text l))) (append-nil (catalogue_entries t.catalogue))

  documents_more : (l : Label) → IsValidTree (with_document n l f t)
      → differences (entries_of t.documents) (entries_of (with_document n l f t).documents) ≡ map put_change (entries_of (document_at l f))
  documents_more l v =
      let docs = entries_of t.documents in
      let doc = entries_of (document_at l f) in
      let more : entries_of (with_document n l f t).documents ≡ docs ++ (doc ++ []) = entries-then_trees t.documents (document_at l f)
      ∙ ap (λ es. docs ++ es) (sym (append-nil doc)) in
      let old : docs ≡ docs ++ ([] ++ []) = sym (append-nil docs) in
      (λ i. differences (old i) (more i))
      ∙ differences_between docs [] doc [] (subst Sorted old (sorted_behind (catalogue_entries t.catalogue) docs (map_sorted t w)))
      (subst Sorted more (sorted_behind (catalogue_entries (with_entry n l t.catalogue)) (entries_of (with_document n l f t).documents)
      (map_sorted (with_document n l f t) v)))
      ∙ differences_from_none doc

  pub create_differences : (l : Label) → (create n f t).0 ≡ Place (Some l)
      → differences (map_of t) (map_of (create n f t).1) ≡ map put_change (document_entries n l f)
  create_differences l = by (create n f t) (create_does n f t) (create_keeps n f t w valid)
    where
      by : (o : Outcome) → Creates n f t o → IsValidTree o.1 → o.0 ≡ Place (Some l)
          → differences (map_of t) (map_of o.1) ≡ map put_change (document_entries n l f)
      by o (is_refused_so why) v h = cc
      by o (is_made m fit) v h =
          let is : m ≡ l = cc in
          let catalogue : differences (catalogue_entries t.catalogue) (catalogue_entries (with_entry n m t.catalogue)) ≡ put_change
          (key_at root n, Attr (label_text m)) ∷ [] =
          ap (differences (catalogue_entries t.catalogue)) (catalogue_more m)
          ∙ differences_of_one (key_at root n) (Some (Attr (label_text m))) (catalogue_entries t.catalogue)
          (sorted_before (catalogue_entries t.catalogue) (entries_of t.documents) (map_sorted t w))
          ∙ ap (λ o. change_at (key_at root n) o (Some (Attr (label_text m))))
          (root_entry n t w fit.name ∙ ap (λ o. attr_record (option_map label_text o)) (none_there (beside n t.catalogue) fit.new_name)) in
          tree_parts t (with_document n m f t) w v ∙ (λ i. catalogue i ++ documents_more m v i) ∙ ap (λ k. map put_change (document_entries n k f)) is

-- ---- `drop`

module _ (n : Name) (t : Tree) where
  -- refused, or the document that has the name goes
  pub on_drop : (P : Outcome → Type 0) → (beside n t.catalogue ≡ None → P (refused (Dom not_found_err) t))
      → ((l : Label) → beside n t.catalogue ≡ Some l → P (Nothing, without_document n l t)) → P (drop_document n t)
  on_drop P out done = by (beside n t.catalogue) refl
    where
      by : (o : Option Label) → beside n t.catalogue ≡ o → P (drop_found n t o)
      by None e = out e
      by (Some l) e = done l e

  module _ (l : Label) (w : IsValidTree t) (e : beside n t.catalogue ≡ Some l) where
    pub dropped_name : is_name n ≡ true
    dropped_name = ⊎_elim (λ h. h) (λ h. absurd (true≢false (ap is_some (sym e) ∙ no_entry [] n t.catalogue w.catalogue.names h))) (found_or_not (is_name n))

    among : is_among l (labels t.documents) ≡ true
    among = (beside_all (λ c. is_among c.1 (labels t.documents) ≡ true) n l t.catalogue w.catalogue.each_entry e).1

    pub dropped_child : is_child root l ≡ true
    dropped_child = (among_in root root l (labels t.documents) (rises root root t.documents w.keys) among).0

    pub dropped_there : found (at l t.documents) ≡ true
    dropped_there = found_among root root l t.documents w.keys among

    pub without_document_keeps : IsValidTree (without_document n l t)
    without_document_keeps = record {
      keys = edit_keys root root l behind t.documents w.keys (keys_behind (up l root t.documents) (low l root t.documents) (at l t.documents));
      kinds = edit_kinds None l behind t.documents w.kinds (kinds_behind (over l None t.documents) (at l t.documents));
      limits = edit_limits l behind t.documents w.limits (limits_behind (at l t.documents));
      catalogue = subst (λ ls. IsCatalogueOf ls (without_entry n t.catalogue)) (sym (labels_gone root root l t.documents w.keys dropped_child))
          (catalogue_gone n l t.catalogue (labels t.documents) (rises root root t.documents w.keys) w.catalogue e among);
    }

    root_without : (cat : Catalogue) → root_attributes (without_entry n cat) ≡ without_entry n (root_attributes cat)
    root_without [] = refl
    root_without (c ∷ cat) = elim (is_eq (slice_cmp nat_cmp n c.0)) as (λ b. root_attributes
        (if b then cat else c ∷ without_entry n cat) ≡ (if b then root_attributes cat else root_attribute c ∷ without_entry n (root_attributes cat))) [
          | true ↦ refl
          | false ↦ ap (λ v. root_attribute c ∷ v) (root_without cat)
        ]

    -- the tree without the entry alone
    abbrev unnamed : Tree
    unnamed = record { catalogue = without_entry n t.catalogue; documents = t.documents }

    unnamed_map : map_of unnamed ≡ del (key_at root n) (map_of t)
    unnamed_map = ap (λ ats. map (attr_entry root) ats ++ entries_of t.documents) (root_without t.catalogue)
        ∙ sym (del_attribute root [] n (root_attributes t.catalogue) (entries_of t.documents) (names_of_root [] t.catalogue w.catalogue.names)
        (documents_above n t w))

    pub drop_changes : map_of (without_document n l t) ≡ changed
        (record { key = key_at root n; now = None } ∷ map drop_change (entries_within (at l t.documents))) (map_of t)
    drop_changes =
        let gone : IsStretch (entries_within (at l t.documents)) [] unnamed (without_document n l t) =
        with_label (λ g. IsStretch (entries_within g) [] unnamed (without_document n l t)) l t dropped_there
        (λ r ats ch nx is. tree_stretch l behind unnamed r ats ch nx is [] refl) in
        stretch_changes (entries_within (at l t.documents)) [] unnamed (without_document n l t)
        (subst Sorted (sym unnamed_map) (sorted_del (key_at root n) (map_of t) (map_sorted t w)))
        (map_sorted (without_document n l t) without_document_keeps) gone
        ∙ ap (λ cs. changed cs (map_of unnamed)) (append-nil (map drop_change (entries_within (at l t.documents))))
        ∙ ap (changed (map drop_change (entries_within (at l t.documents)))) unnamed_map

    catalogue_less : catalogue_entries (without_entry n t.catalogue) ≡ del (key_at root n) (catalogue_entries t.catalogue)
    catalogue_less =
        ap (map (attr_entry root)) (root_without t.catalogue)
        ∙ sym (append-nil (map (attr_entry root) (without_entry n (root_attributes t.catalogue))))
        ∙ sym (del_attribute root [] n (root_attributes t.catalogue) [] (names_of_root [] t.catalogue w.catalogue.names) tt)
        ∙ ap (del (key_at root n)) (append-nil (catalogue_entries t.catalogue))

    documents_less : differences (entries_of t.documents) (entries_of (without_document n l t).documents) ≡ map drop_change (entries_within (at l t.documents))
    documents_less = with_label (λ g. differences (entries_of t.documents) (entries_of (edit l behind t.documents)) ≡ map drop_change (entries_within g)) l t
        dropped_there (λ r ats ch nx is.
        let tree = own l r ats ++ entries_of ch in
        let back = entries_of nx ++ after_of l t.documents in
        let old : entries_of t.documents ≡ before_of l t.documents ++ (tree ++ back) = split l t.documents
        ∙ ap (λ g. before_of l t.documents ++ (entries_of g ++ after_of l t.documents)) is
        ∙ ap (λ es. before_of l t.documents ++ es) (append_assoc tree (entries_of nx) (after_of l t.documents)) in
        let less : entries_of (edit l behind t.documents) ≡ before_of l t.documents ++ ([] ++ back) = edit_entries l behind t.documents dropped_there
        ∙ ap (λ g. before_of l t.documents ++ (entries_of (behind g) ++ after_of l t.documents)) is in
        (λ i. differences (old i) (less i))
        ∙ differences_between (before_of l t.documents) tree [] back
        (subst Sorted old (sorted_behind (catalogue_entries t.catalogue) (entries_of t.documents) (map_sorted t w)))
        (subst Sorted less (sorted_behind (catalogue_entries (without_entry n t.catalogue)) (entries_of (edit l behind t.documents))
        (map_sorted (without_document n l t) without_document_keeps))))

    dropped_differ : differences (map_of t) (map_of (without_document n l t)) ≡ record { key = key_at root n; now = None } ∷ map drop_change
        (entries_within (at l t.documents))
    dropped_differ =
        let one : Change = record { key = key_at root n; now = None } in
        let catalogue : differences (catalogue_entries t.catalogue) (catalogue_entries (without_entry n t.catalogue)) ≡ one ∷ [] =
        ap (differences (catalogue_entries t.catalogue)) catalogue_less
        ∙ differences_of_one (key_at root n) None (catalogue_entries t.catalogue)
        (sorted_before (catalogue_entries t.catalogue) (entries_of t.documents) (map_sorted t w))
        ∙ ap (λ o. change_at (key_at root n) o None) (root_entry n t w dropped_name ∙ ap (λ o. attr_record (option_map label_text o)) e) in
        tree_parts t (without_document n l t) w without_document_keeps ∙ (λ i. catalogue i ++ documents_less i)

  pub drop_keeps : IsValidTree t → IsValidTree (drop_document n t).1
  drop_keeps w = on_drop (λ o. IsValidTree o.1) (λ _. w) (λ l e. without_document_keeps l w e)

  pub drop_differences : IsValidTree t → (l : Label) → beside n t.catalogue ≡ Some l
      → differences (map_of t) (map_of (drop_document n t).1) ≡ record { key = key_at root n; now = None } ∷ map drop_change (entries_within (at l t.documents))
  drop_differences w l e = ap (λ o. differences (map_of t) (map_of (drop_found n t o).1)) e ∙ dropped_differ l w e
