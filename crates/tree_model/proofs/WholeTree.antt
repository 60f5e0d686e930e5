-- The map of a whole tree: the catalogue's entries, and behind them those of the documents.
use Rattle.std.proofs.Common.{◌≡◌, ℕ, true, false, cond, [], ◌∷◌, ◌++◌, map, Some, None, option_map, Less, Equal, Greater, nat_cmp, is_eq, is_some, refl, sym, ap, subst, ◌∙◌, append_assoc}
use Rattle.std.specs.Ordering.{ordering_then}
use Rattle.std.specs.Cmp.Lexicographic.{slice_cmp}
use Rattle.std.specs.List.{AllByRecursion}
use Rattle.dewey_labels.specs.Labels.{Label, root}
use Rattle.dewey_labels.specs.LabelText.{label_text}
use Rattle.dewey_labels.specs.Sides.{above, left, same, under, right, side, is_in, is_under, ahead, rest, first_code}
use Rattle.dewey_labels.proofs.Sides.{same_is, in_under, under_above, under_before}
use Rattle.dewey_labels.proofs.Codes.{child_under}
use Rattle.tree_model.specs.declared.record.Record.{Record}
use Rattle.tree_model.specs.declared.record.Record.TheVariants.{Attr}
use Rattle.tree_model.specs.Names.{Name}
use Rattle.tree_model.specs.Keys.{key_at, node_key}
use Rattle.tree_model.specs.Entries.{Entries, Below, Above, Sorted, get, last_below}
use Rattle.tree_model.specs.inside.Seeks.{if_child}
use Rattle.tree_model.specs.Tree.{Attributes, Forest, none, node, attr_entry, own, entries_of, Catalogue, root_attribute, root_attributes, Tree, map_of, at, found, prev_of, record_of, beside}
use Rattle.tree_model.specs.inside.FoundNodes.{up}
use Rattle.tree_model.specs.ValidTrees.{NamesRise, KeysRise, IsValidTree}
use Rattle.tree_model.proofs.Lists.{all_append, all_on}
use Rattle.tree_model.proofs.Entries.{last_of, last_below_past, last_below_last, sorted_append}
use Rattle.tree_model.proofs.Split.{Labelled, SideIs, Later, all_under, before_of, after_of, split, all_ahead}
use Rattle.tree_model.proofs.Found.{some_is, at_keys, at_label, up_in, Lies, lies}
use Rattle.tree_model.proofs.Seeks.{ahead_below_node, later_above}
use Rattle.tree_model.proofs.ForwardReads.{get_law}
use Rattle.tree_model.proofs.BackwardReads.{or_none, last_append, prev_found, found_not_below, last_has}
use Rattle.tree_model.proofs.Stretches.{attr_record, get_attr}
use Rattle.tree_model.proofs.Sorted.{apart_by, names_above, entries_sorted}

-- ---- the catalogue's entries

-- the entries of the catalogue
abbrev pub catalogue_entries : Catalogue → Entries
catalogue_entries cat = map (attr_entry root) (root_attributes cat)

-- their label is the root
pub at_root : (P : Label → Type 0) → P root → (cat : Catalogue) → AllByRecursion (Labelled P) (catalogue_entries cat)
at_root P h [] = tt
at_root P h (c ∷ cat) = (h, at_root P h cat)

-- their names rise
pub names_of_root : (lo : Name) (cat : Catalogue) → NamesRise lo cat → NamesRise lo (root_attributes cat)
names_of_root lo [] w = tt
names_of_root lo (c ∷ cat) w = (w.0, w.1, names_of_root c.0 cat w.2)

-- a name's value is its document's label text
pub beside_root : (n : Name) (cat : Catalogue) → beside n (root_attributes cat) ≡ option_map label_text (beside n cat)
beside_root n [] = refl
beside_root n (c ∷ cat) = elim (is_eq (slice_cmp nat_cmp n c.0)) as (λ b. cond b (Some (label_text c.1)) (beside n (root_attributes cat)) ≡ option_map label_text (cond b (Some c.1) (beside n cat))) [ true ↦ refl | false ↦ beside_root n cat ]

-- ---- a node that is found lies below the root

-- what lies under a label of a subtree lies under its root
pub in_then_under : (p q l : Label) → is_in (side p q) ≡ true → side q l ≡ under → side p l ≡ under
in_then_under p q l i u = elim (side p q) as (λ s. side p q ≡ s → is_in s ≡ true → side p l ≡ under) [
  | above ↦ λ _ e. cc
  | left ↦ λ _ e. cc
  | same ↦ λ s _. subst (λ z. side z l ≡ under) (same_is p q s) u
  | under ↦ λ s _. in_under p q l s (ap is_in u)
  | right ↦ λ _ e. cc
] refl i

-- each node that is found lies under the forest's parent
pub found_under : (p lo l : Label) (f : Forest) → KeysRise p lo f → found (at l f) ≡ true → side p l ≡ under
found_under p lo l f w y =
    let there = at_keys p lo l f w in
    by (at l f) there.0 there.1 (at_label l f) y
  where
    by : (g : Forest) (b : Label) → KeysRise (up l p f) b g → (found g ≡ true → Rattle.tree_model.specs.Tree.head_label g ≡ Some l) → found g ≡ true → side p l ≡ under
    by none b v q e = cc
    by (node m r ats ch nx) b v q e = in_then_under p (up l p f) l (up_in p lo l f w) (subst (λ z. side (up l p f) z ≡ under) (some_is m l (q refl)) (child_under (up l p f) m v.0))

-- ---- a found node among the entries of the whole tree

-- entries of the root before the map keep what is known of a found node
pub with_root : (p l : Label) (r : Record) (ats : Attributes) (ch nx : Forest) (es : Entries) (cat : Catalogue) → side root l ≡ under → Lies p l r ats ch nx es → Lies p l r ats ch nx (catalogue_entries cat ++ es)
with_root p l r ats ch nx es cat u z = record {
  after = z.after;
  after_right = z.after_right;
  is_child_of = z.is_child_of;
  within = z.within;
  names = z.names;
  children = z.children;
  siblings = z.siblings;
  before = catalogue_entries cat ++ z.before;
  whole = ap (λ v. catalogue_entries cat ++ v) z.whole ∙ simp append_assoc refl;
  before_ahead = all_append (Labelled (λ k. ahead (side l k) ≡ true)) (catalogue_entries cat) z.before (at_root (λ k. ahead (side l k) ≡ true) (ap ahead (under_above root l u)) cat) z.before_ahead;
}

-- a found node among the entries of the whole tree
pub lies_in_tree : (l m : Label) (r : Record) (ats : Attributes) (ch nx : Forest) (t : Tree) → IsValidTree t → at l t.documents ≡ node m r ats ch nx → Lies (up l root t.documents) l r ats ch nx (map_of t)
lies_in_tree l m r ats ch nx t w e = with_root (up l root t.documents) l r ats ch nx (entries_of t.documents) t.catalogue (found_under root root l t.documents w.keys (ap found e)) (lies root root l m r ats ch nx t.documents w.keys e)

-- ---- single reads

-- no catalogue entry is a node's
pub get_past_root : (l lo : Label) (cat : Catalogue) (es : Entries) → NamesRise lo cat → get (node_key l) (catalogue_entries cat ++ es) ≡ get (node_key l) es
get_past_root l lo [] es w = refl
get_past_root l lo (c ∷ cat) es w = named c.0 (above_start lo c.0 w.0) ∙ get_past_root l c.0 cat es w.2
  where
    above_start : (lo n : Name) → slice_cmp nat_cmp lo n ≡ Less → slice_cmp nat_cmp [] n ≡ Less
    above_start [] n h = h
    above_start (x ∷ lo) [] h = cc
    above_start (x ∷ lo) (y ∷ n) h = refl

    named : (n : Name) → slice_cmp nat_cmp [] n ≡ Less → cond (is_eq (ordering_then (slice_cmp nat_cmp l root) (slice_cmp nat_cmp [] n))) (Some (Attr (label_text c.1))) (get (node_key l) (catalogue_entries cat ++ es)) ≡ get (node_key l) (catalogue_entries cat ++ es)
    named n h = ap (λ o. cond (is_eq (ordering_then (slice_cmp nat_cmp l root) o)) (Some (Attr (label_text c.1))) (get (node_key l) (catalogue_entries cat ++ es))) h
        ∙ elim (slice_cmp nat_cmp l root) as (λ o. cond (is_eq (ordering_then o Less)) (Some (Attr (label_text c.1))) (get (node_key l) (catalogue_entries cat ++ es)) ≡ get (node_key l) (catalogue_entries cat ++ es)) [ Less ↦ refl | Equal ↦ refl | Greater ↦ refl ]

-- the record of a node
pub get_node : (l : Label) (t : Tree) → IsValidTree t → get (node_key l) (map_of t) ≡ record_of (at l t.documents)
get_node l t w = get_past_root l [] t.catalogue (entries_of t.documents) w.catalogue.names ∙ get_law root root l t.documents w.keys

some_record : (g : Forest) → is_some (record_of g) ≡ found g
some_record none = refl
some_record (node l r ats ch nx) = refl

-- a node is there where its key is
pub there_in_tree : (l : Label) (t : Tree) → IsValidTree t → is_some (get (node_key l) (map_of t)) ≡ found (at l t.documents)
there_in_tree l t w = ap is_some (get_node l t w) ∙ some_record (at l t.documents)

-- the documents lie above the catalogue's entries
pub documents_above : (n : Name) (t : Tree) → IsValidTree t → AllByRecursion (Above (key_at root n)) (entries_of t.documents)
documents_above n t w = all_on (Labelled (SideIs root under)) (Above (key_at root n)) (λ e h. later_above root n e (under_before root e.0.label h)) (entries_of t.documents) (all_under root root t.documents w.keys)

-- the catalogue's entry of a name
pub get_document : (d : ℕ) (n : Name) (t : Tree) → IsValidTree t → get (key_at root (d ∷ n)) (map_of t) ≡ attr_record (option_map label_text (beside (d ∷ n) t.catalogue))
get_document d n t w = get_attr root (d ∷ n) (root_attributes t.catalogue) (entries_of t.documents) (documents_above (d ∷ n) t w) ∙ ap attr_record (beside_root (d ∷ n) t.catalogue)

-- no catalogue entry leads to a child of the root
pub no_child_of_root : (cat : Catalogue) → if_child root (last_of (catalogue_entries cat)) ≡ None
no_child_of_root [] = refl
no_child_of_root (c ∷ cat) =
    let x = attr_entry root (root_attribute c) in
    subst (λ v. if_child root v ≡ None) (sym (or_none (last_of (x ∷ catalogue_entries cat)))) (last_has (Labelled (SideIs root same)) (λ v. if_child root v ≡ None) (λ e h. ap (λ z. cond (is_under z) (Some (root ++ first_code (rest root e.0.label))) None) h) x (catalogue_entries cat) None (at_root (SideIs root same) refl (c ∷ cat)))

-- the left neighbour
pub prev_in_tree : (l : Label) (t : Tree) → IsValidTree t → found (at l t.documents) ≡ true → if_child (up l root t.documents) (last_below (node_key l) (map_of t)) ≡ prev_of None l t.documents
prev_in_tree l t w y =
    let k = node_key l in
    let f = t.documents in
    let cat = catalogue_entries t.catalogue in
    let u = found_under root root l f w.keys y in
    let low_cat : AllByRecursion (Below k) cat = all_on (Labelled (λ v. ahead (side l v) ≡ true)) (Below k) (ahead_below_node l []) cat (at_root (λ v. ahead (side l v) ≡ true) (ap ahead (under_above root l u)) t.catalogue) in
    let low_before : AllByRecursion (Below k) (before_of l f) = all_on (Labelled (λ v. ahead (side l v) ≡ true)) (Below k) (ahead_below_node l []) (before_of l f) (all_ahead root root l f w.keys) in
    let prefix = cat ++ before_of l f in
    let cut : map_of t ≡ prefix ++ (entries_of (at l f) ++ after_of l f) = ap (λ v. cat ++ v) (split l f) ∙ sym (append_assoc cat (before_of l f) _) in
    ap (λ v. if_child (up l root f) (last_below k v)) cut
    ∙ ap (if_child (up l root f)) (last_below_past k prefix _ (found_not_below root root l f w.keys) ∙ last_below_last k prefix (all_append (Below k) cat (before_of l f) low_cat low_before) ∙ last_append cat (before_of l f))
    ∙ prev_found root root l f None (last_of cat) w.keys y (no_child_of_root t.catalogue)

-- ---- the whole map is sorted

-- the keys of the map rise
pub map_sorted : (t : Tree) → IsValidTree t → Sorted (map_of t)
map_sorted t w =
    sorted_append (catalogue_entries t.catalogue) (entries_of t.documents) (names_above [] root (root_attributes t.catalogue) (names_of_root [] t.catalogue w.catalogue.names)).1 (entries_sorted root root t.documents w.keys)
    (apart_by (SideIs root same) (SideIs root under) (λ a b h g. subst (λ v. Later v b) (sym (same_is root a h)) (under_before root b g)) (catalogue_entries t.catalogue) (entries_of t.documents) (at_root (SideIs root same) refl t.catalogue) (all_under root root t.documents w.keys))
