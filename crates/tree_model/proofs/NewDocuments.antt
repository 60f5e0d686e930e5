-- A new document keeps the tree valid, and the tree's map gains its entries and the catalogue's.
use Rattle.std.proofs.Common.{◌≡◌, ◌+◌, ◌≤◌, true, false, nat_lt, [], ◌∷◌, ◌++◌, map, Some, None, is_some, Less, nat_cmp, refl, sym, ap, subst, ◌∙◌, append_assoc, append-nil, arith, true≢false}
use Rattle.std.proofs.lemmas.Bool.Decides.{nat_tests}
use Rattle.std.specs.Cmp.Lexicographic.{slice_cmp}
use Rattle.std.specs.List.{AllByRecursion}
use Rattle.dewey_labels.specs.Labels.{Label, root, is_child, level, Within, is_within}
use Rattle.dewey_labels.specs.LabelText.{label_text}
use Rattle.dewey_labels.specs.NewLabels.{new_label, first_division}
use Rattle.dewey_labels.specs.Sides.{under, side, ahead}
use Rattle.dewey_labels.proofs.Sides.{under_above, under_before}
use Rattle.dewey_labels.proofs.Codes.{first_of_both, second_of_both, is_child_append, child_under}
use Rattle.dewey_labels.proofs.Labels.{level_of_child, child_label}
use Rattle.dewey_labels.proofs.NewLabels.{new_child, new_behind, new_label_is}
use Rattle.tree_model.specs.declared.record.Record.TheVariants.{Document, Element, Attr}
use Rattle.tree_model.specs.Limits.{deepest_level}
use Rattle.tree_model.specs.Names.{Name, is_name}
use Rattle.tree_model.specs.Keys.{key_at, node_key}
use Rattle.tree_model.specs.Entries.{Entries, Above, Sorted, put, put_all}
use Rattle.tree_model.specs.Tree.{none, attr_entry, own, entries_of, root_attributes, Tree, map_of, labels, last_label, beside}
use Rattle.tree_model.specs.ValidTrees.{KeysRise, KindsAllowed, LimitsKept, IsCatalogueOf, IsValidTree}
use Rattle.tree_model.specs.Fragments.{Fragments, no_more, element, text, IsValid, depth, is_text_fragment}
use Rattle.tree_model.specs.Graft.{graft, all_within}
use Rattle.tree_model.specs.Edits.{with_entry}
use Rattle.tree_model.specs.Documents.{document_at, with_document, document_label}
use Rattle.tree_model.proofs.Lists.{all_append, all_on}
use Rattle.tree_model.proofs.Entries.{put_stretch}
use Rattle.tree_model.proofs.Split.{Labelled, SideIs, SideIn, all_under, tree_in}
use Rattle.tree_model.proofs.Seeks.{later_above}
use Rattle.tree_model.proofs.Sorted.{entries_sorted}
use Rattle.tree_model.proofs.Removals.{all_below_each}
use Rattle.tree_model.proofs.WholeTree.{catalogue_entries, at_root, documents_above}
use Rattle.tree_model.proofs.Joins.{end_of, end_of_empty, end_of_last, entries-then_trees, labels-then_trees, keys-then_trees, kinds-then_trees, limits-then_trees}
use Rattle.tree_model.proofs.Grafts.{keys-graft, kinds-graft_below, limits-graft}
use Rattle.tree_model.proofs.Ends.{last_is_child, labels_before, all_ahead_of}
use Rattle.tree_model.proofs.NamedLists.{catalogue-with_entry, put_attribute, root-with_entry}

-- ---- the label of a new document

-- the label is a new last document's
pub record IsNewDocument (t : Tree) (l : Label) : Type 0 where
  pub is_child_of : is_child root l ≡ true
  pub last : slice_cmp nat_cmp (end_of root t.documents) l ≡ Less
  pub within : Within l

-- the label that `create` gives is
pub new_document : (t : Tree) (l : Label) → KeysRise root root t.documents → document_label t ≡ Some l → IsNewDocument t l
new_document t l w h = elim (last_label t.documents) as (λ o. last_label t.documents ≡ o → new_label root o None ≡ Some l → IsNewDocument t l) [
  | None ↦ λ e g. let is = new_label_is root l None None g in record {
    is_child_of = subst (λ v. is_child root v ≡ true) (sym is.0) (new_child root None None tt);
    last = subst (λ v. slice_cmp nat_cmp v l ≡ Less) (sym (end_of_empty root t.documents e)) (subst (λ v. slice_cmp nat_cmp root v ≡ Less) (sym is.0) refl);
    within = is.1;
  }
  | Some m ↦ λ e g. let is = new_label_is root l (Some m) None g in let c = last_is_child root root m t.documents w e in record {
    is_child_of = subst (λ v. is_child root v ≡ true) (sym is.0) (new_child root (Some m) None c);
    last = subst (λ v. slice_cmp nat_cmp v l ≡ Less) (sym (end_of_last root m t.documents e)) (subst (λ v. slice_cmp nat_cmp m v ≡ Less) (sym is.0) (new_behind root m None c));
    within = is.1;
  }
] refl h

-- ---- the document's tree

keys_of_document : (b l : Label) (f : Fragments) → is_child root l ≡ true → slice_cmp nat_cmp b l ≡ Less → Within l → all_within (document_at l f) ≡ true → IsValid f → KeysRise root b (document_at l f)
keys_of_document b l f c lt i h w =
    let below = is_child_append l (first_division ∷ []) refl in
    (c, lt, i, tt, keys-graft l l (l ++ (first_division ∷ [])) f none below (under_before l _ (child_under l _ below)) (first_of_both _ _ (second_of_both (is_within l) _ h)) w tt tt, tt)

kinds_of_document : (l : Label) (f : Fragments) → is_text_fragment f ≡ false → KindsAllowed None (document_at l f)
kinds_of_document l no_more h = (refl, refl, refl, tt, tt)
kinds_of_document l (element n ats ch nx) h = (refl, refl, refl, (refl, refl, refl, kinds-graft_below n (l ++ (first_division ∷ [])) first_division ch, tt), tt)
kinds_of_document l (text t nx) h = absurd (true≢false h)

limits_of_document : (l : Label) (f : Fragments) → is_child root l ≡ true → nat_lt deepest_level (1 + depth f) ≡ false → IsValid f → LimitsKept (document_at l f)
limits_of_document l f c h w =
    let is_level : level l ≡ 1 = level_of_child root l refl c in
    let labelled = child_label root l refl c in
    let e = l ++ (first_division ∷ []) in
    let below = is_child_append l (first_division ∷ []) refl in
    let fits : 1 + depth f ≤ deepest_level = grind (arith, nat_tests) in
    (omega arith, refl, tt, limits-graft l e f none (level_of_child l e labelled below) (child_label l e labelled below) (omega arith) w tt, tt)

-- ---- the tree with a new document

-- every test of `create` passes
pub record IsFit (n : Name) (l : Label) (f : Fragments) (t : Tree) : Type 0 where
  pub name : is_name n ≡ true
  pub new_name : is_some (beside n t.catalogue) ≡ false
  pub no_text : is_text_fragment f ≡ false
  pub shallow : nat_lt deepest_level (1 + depth f) ≡ false
  pub label : document_label t ≡ Some l
  pub within : all_within (document_at l f) ≡ true

-- the tree stays valid
pub with_document_formed : (n : Name) (l : Label) (f : Fragments) (t : Tree) → IsValidTree t → IsValid f → IsFit n l f t → IsValidTree (with_document n l f t)
with_document_formed n l f t w valid fit =
    let new = new_document t l w.keys fit.label in
    record {
      keys = keys-then_trees root root t.documents (document_at l f) w.keys (keys_of_document (end_of root t.documents) l f new.is_child_of new.last new.within fit.within valid);
      kinds = kinds-then_trees None t.documents (document_at l f) (λ _. refl) w.kinds (kinds_of_document l f fit.no_text);
      limits = limits-then_trees t.documents (document_at l f) w.limits (limits_of_document l f new.is_child_of fit.shallow valid);
      catalogue = subst (λ v. IsCatalogueOf v (with_entry n l t.catalogue)) (sym (labels-then_trees t.documents (document_at l f))) (catalogue-with_entry n l (labels t.documents) t.catalogue fit.name fit.new_name (labels_before root root l t.documents w.keys new.last) w.catalogue);
    }

-- ---- the map with a new document

-- the entries that a new document adds: the catalogue's, the document's, and those of its element's tree
abbrev pub document_entries : Name → Label → Fragments → Entries
document_entries n l f = attr_entry root (n, label_text l) ∷ entries_of (document_at l f)

none_behind : (s : Entries) → AllByRecursion (λ x. AllByRecursion (Above x.0) []) s
none_behind [] = tt
none_behind (x ∷ s) = (tt, none_behind s)

-- its map has the new entries put
pub map-with_document : (n : Name) (l : Label) (f : Fragments) (t : Tree) → IsValidTree t → IsValid f → IsFit n l f t → map_of (with_document n l f t) ≡ put_all (document_entries n l f) (map_of t)
map-with_document n l f t w valid fit =
    let new = new_document t l w.keys fit.label in
    let docs = entries_of t.documents in
    let doc = entries_of (document_at l f) in
    let cat = catalogue_entries (with_entry n l t.catalogue) in
    let prefix = cat ++ docs in
    let keys : KeysRise root root (document_at l f) = keys_of_document root l f new.is_child_of (under_before root l (child_under root l new.is_child_of)) new.within fit.within valid in
    let prefix_ahead : AllByRecursion (Labelled (λ k. ahead (side l k) ≡ true)) prefix = all_append (Labelled (λ k. ahead (side l k) ≡ true)) cat docs (at_root (λ k. ahead (side l k) ≡ true) (ap ahead (under_above root l (child_under root l new.is_child_of))) (with_entry n l t.catalogue)) (all_ahead_of root root l t.documents w.keys new.is_child_of new.last) in
    let doc_in : AllByRecursion (Labelled (SideIn l)) doc = all_append (Labelled (SideIn l)) (own l Document [] ++ entries_of (graft (l ++ (first_division ∷ [])) f none)) [] (tree_in root root l Document [] (graft (l ++ (first_division ∷ [])) f none) none keys) tt in
    let named : put (attr_entry root (n, label_text l)) (map_of t) ≡ prefix = put_attribute root n (label_text l) (root_attributes t.catalogue) docs (documents_above n t w) ∙ ap (λ v. map (attr_entry root) v ++ docs) (sym (root-with_entry n l t.catalogue)) in
    ap (λ v. cat ++ v) (entries-then_trees t.documents (document_at l f))
    ∙ sym (append_assoc cat docs doc)
    ∙ ap (λ v. prefix ++ v) (sym (append-nil doc))
    ∙ sym (put_stretch prefix doc [] (entries_sorted root root (document_at l f) keys) (all_below_each l prefix doc prefix_ahead doc_in) (none_behind doc))
    ∙ ap (put_all doc) (append-nil prefix ∙ sym named)

-- of a document that is one element alone: three entries
pub one_element_entries : (n m : Name) (l : Label) → document_entries n l (element m [] no_more no_more) ≡ (key_at root n, Attr (label_text l)) ∷ (node_key l, Document) ∷ (node_key (l ++ (first_division ∷ [])), Element m) ∷ []
one_element_entries n m l = refl

-- their keys rise
pub document_entries_sorted : (n : Name) (l : Label) (f : Fragments) (t : Tree) → IsValidTree t → IsValid f → IsFit n l f t → Sorted (document_entries n l f)
document_entries_sorted n l f t w valid fit =
    let new = new_document t l w.keys fit.label in
    let keys : KeysRise root root (document_at l f) = keys_of_document root l f new.is_child_of (under_before root l (child_under root l new.is_child_of)) new.within fit.within valid in
    (all_on (Labelled (SideIs root under)) (Above (key_at root n)) (λ e h. later_above root n e (under_before root e.0.label h)) (entries_of (document_at l f)) (all_under root root (document_at l f) keys), entries_sorted root root (document_at l f) keys)
