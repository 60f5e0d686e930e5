-- What two trees have in common where their cells do: attributes, catalogues and subtrees.
use Rattle.std.proofs.Common.{◌≡◌, ℕ, true, false, cond, List, [], ◌∷◌, ◌++◌, map, Option, None, Some, option_map, is_some, Less, Equal, Greater, nat_cmp, is_eq, refl, sym, ap, subst, ◌∙◌, append_assoc, append-nil, true≢false, inr, ⊎_elim}
use Rattle.std.specs.List.{AllByRecursion}
use Rattle.std.specs.Cmp.Lexicographic.{slice_cmp}
use Rattle.dewey_labels.specs.Labels.{Label, root, parent, is_child}
use Rattle.dewey_labels.specs.LabelText.{label_text}
use Rattle.dewey_labels.specs.Sides.{under, right, side, is_in}
use Rattle.dewey_labels.proofs.Sides.{side_itself}
use Rattle.tree_model.specs.declared.key.Key.{Key}
use Rattle.tree_model.specs.declared.record.Record.{Record}
use Rattle.tree_model.specs.declared.record.Record.TheVariants.{Document, Element, Text, Attr}
use Rattle.tree_model.specs.Names.{Name}
use Rattle.tree_model.specs.Keys.{key_cmp, key_at}
use Rattle.tree_model.specs.Entries.{Entries, Above, Sorted, get}
use Rattle.tree_model.specs.Tree.{Attributes, Forest, none, node, own, entries_of, root_attributes, attr_entry, Tree, map_of, at, found, head_label, attributes_of, beside}
use Rattle.tree_model.specs.inside.FoundNodes.{up}
use Rattle.tree_model.specs.ValidTrees.{KeysRise, NamesRise, IsValidTree}
use Rattle.tree_model.specs.StoredTree.{catalogue_in}
use Rattle.tree_model.proofs.Lists.{all_append, all_on}
use Rattle.tree_model.proofs.Keys.{key_tied}
use Rattle.tree_model.proofs.Entries.{get_none, get_past}
use Rattle.tree_model.proofs.Split.{Labelled, SideIs, SideIn, own_all, under_in, all_under}
use Rattle.tree_model.proofs.Found.{some_is, at_keys, at_label, up_parent, Lies}
use Rattle.tree_model.proofs.Removals.{all_below_each}
use Rattle.tree_model.proofs.PutTrees.{all_above_each}
use Rattle.tree_model.proofs.Sorted.{entries_sorted}
use Rattle.tree_model.proofs.SameMaps.{same_forest}
use Rattle.tree_model.proofs.Stretches.{attr_record}
use Rattle.tree_model.proofs.WholeTree.{lies_in_tree, names_of_root, beside_root, get_document}
use Rattle.tree_model.proofs.PlaceLaws.{found_or_not}
use Rattle.tree_model.proofs.SameEntries.{same_entries}
use Rattle.tree_model.proofs.NamedLists.{none_named, same_named}
use Rattle.tree_model.proofs.ForwardReads.{behind_right}
use Rattle.tree_model.proofs.TreeReads.{attribute_in_tree}
use Rattle.tree_model.proofs.UnbrokenTrees.{catalogue_of_entries, catalogue_labels}

-- ---- attributes and the catalogue

abbrev pub value_in : Option Record → Option (List ℕ)
value_in None = None
value_in (Some Document) = None
value_in (Some (Element n)) = None
value_in (Some (Text d)) = None
value_in (Some (Attr v)) = Some v

pub value_again : (o : Option (List ℕ)) → value_in (attr_record o) ≡ o
value_again None = refl
value_again (Some v) = refl

pub attribute_names : (l : Label) (t : Tree) → IsValidTree t → NamesRise [] (attributes_of (at l t.documents))
attribute_names l t w = by _ (at l t.documents) (at_keys root root l t.documents w.keys).1
  where
    by : (b : Label) (g : Forest) → KeysRise (up l root t.documents) b g → NamesRise [] (attributes_of g)
    by b none v = tt
    by b (node m r ats ch nx) v = v.3

-- an attribute, by its cell
pub attribute_same : (l : Label) (n : Name) (t u : Tree) → IsValidTree t → IsValidTree u → found (at l t.documents) ≡ true → found (at l u.documents) ≡ true → get (key_at l n) (map_of t) ≡ get (key_at l n) (map_of u) → beside n (attributes_of (at l t.documents)) ≡ beside n (attributes_of (at l u.documents))
attribute_same l [] t u w v y z e = none_named [] [] (attributes_of (at l t.documents)) (attribute_names l t w) (inr refl) ∙ sym (none_named [] [] (attributes_of (at l u.documents)) (attribute_names l u v) (inr refl))
attribute_same l (d ∷ n) t u w v y z e =
    sym (value_again (beside (d ∷ n) (attributes_of (at l t.documents)))) ∙ ap value_in (sym (attribute_in_tree l d n t w y) ∙ e ∙ attribute_in_tree l d n u v z) ∙ value_again (beside (d ∷ n) (attributes_of (at l u.documents)))

-- all attributes of a node
pub attributes_same : (l : Label) (t u : Tree) → IsValidTree t → IsValidTree u → found (at l t.documents) ≡ true → found (at l u.documents) ≡ true → ((n : Name) → get (key_at l n) (map_of t) ≡ get (key_at l n) (map_of u)) → attributes_of (at l t.documents) ≡ attributes_of (at l u.documents)
attributes_same l t u w v y z e = same_named [] [] (attributes_of (at l t.documents)) (attributes_of (at l u.documents)) (attribute_names l t w) (attribute_names l u v) (λ n. attribute_same l n t u w v y z (e n))

-- a document's name, by its cell
pub root_attribute_same : (n : Name) (t u : Tree) → IsValidTree t → IsValidTree u → get (key_at root n) (map_of t) ≡ get (key_at root n) (map_of u) → beside n (root_attributes t.catalogue) ≡ beside n (root_attributes u.catalogue)
root_attribute_same [] t u w v e = none_named [] [] (root_attributes t.catalogue) (names_of_root [] t.catalogue w.catalogue.names) (inr refl) ∙ sym (none_named [] [] (root_attributes u.catalogue) (names_of_root [] u.catalogue v.catalogue.names) (inr refl))
root_attribute_same (d ∷ n) t u w v e =
    beside_root (d ∷ n) t.catalogue
    ∙ sym (value_again (option_map label_text (beside (d ∷ n) t.catalogue))) ∙ ap value_in (sym (get_document d n t w) ∙ e ∙ get_document d n u v) ∙ value_again (option_map label_text (beside (d ∷ n) u.catalogue))
    ∙ sym (beside_root (d ∷ n) u.catalogue)

-- the whole catalogue
pub catalogue_same : (t u : Tree) → IsValidTree t → IsValidTree u → ((n : Name) → get (key_at root n) (map_of t) ≡ get (key_at root n) (map_of u)) → t.catalogue ≡ u.catalogue
catalogue_same t u w v e =
    sym (catalogue_of_entries t.catalogue (catalogue_labels t w))
    ∙ ap (λ ats. catalogue_in (map (attr_entry root) ats)) (same_named [] [] (root_attributes t.catalogue) (root_attributes u.catalogue) (names_of_root [] t.catalogue w.catalogue.names) (names_of_root [] u.catalogue v.catalogue.names) (λ n. root_attribute_same n t u w v (e n)))
    ∙ catalogue_of_entries u.catalogue (catalogue_labels u v)

-- ---- maps

pub key_is : (a b : Key) → is_eq (key_cmp a b) ≡ true → a ≡ b
key_is a b g = elim (key_cmp a b) as (λ o. key_cmp a b ≡ o → is_eq o ≡ true → a ≡ b) [ Less ↦ λ _ h. absurd (true≢false (sym h)) | Equal ↦ λ q _. key_tied a b q | Greater ↦ λ _ h. absurd (true≢false (sym h)) ] refl g

-- ---- subtrees

-- a tree without those behind it
abbrev pub alone : Forest → Forest
alone none = none
alone (node l r ats ch nx) = node l r ats ch none

-- what stands above a key isn't at it
pub get_prefix : (k : Key) (xs ys : Entries) → AllByRecursion (Above k) ys → get k (xs ++ ys) ≡ get k xs
get_prefix k [] ys h = get_none k ys h
get_prefix k (x ∷ xs) ys h = ap (λ v. cond (is_eq (key_cmp k x.0)) (Some x.1) v) (get_prefix k xs ys h)

-- nothing stands at a key outside
get_outside : (l : Label) (k : Key) (xs : Entries) → is_in (side l k.label) ≡ false → AllByRecursion (Labelled (SideIn l)) xs → get k xs ≡ None
get_outside l k [] o h = refl
get_outside l k (x ∷ xs) o h = elim (is_eq (key_cmp k x.0)) as (λ b. is_eq (key_cmp k x.0) ≡ b → cond b (Some x.1) (get k xs) ≡ None) [
  | true ↦ λ g. absurd (true≢false (sym h.0 ∙ subst (λ z. is_in (side l z.label) ≡ false) (key_is k x.0 g) o))
  | false ↦ λ _. get_outside l k xs o h.1
] refl

module _ (p l : Label) (r : Record) (ats : Attributes) (ch nx : Forest) (es : Entries) (z : Lies p l r ats ch nx es) where
  abbrev tree : Entries
  tree = own l r ats ++ entries_of ch

  tree_in : AllByRecursion (Labelled (SideIn l)) tree
  tree_in = all_append (Labelled (SideIn l)) (own l r ats) (entries_of ch) (own_all (SideIn l) l r ats (ap is_in (side_itself l))) (all_on (Labelled (SideIs l under)) (Labelled (SideIn l)) (λ e h. under_in l e.0.label h) (entries_of ch) (all_under l l ch z.children))

  back_right : AllByRecursion (Labelled (SideIs l right)) (entries_of nx ++ z.after)
  back_right = behind_right p l r ats ch nx es z

  -- a key of the subtree is read in the subtree's entries
  get_inside : (k : Key) → is_in (side l k.label) ≡ true → get k es ≡ get k tree
  get_inside k i =
      let one : Entries = (k, r) ∷ [] in
      let lows = (all_below_each l z.before one z.before_ahead (i, tt)).0 in
      let highs = (all_above_each l (entries_of nx ++ z.after) one back_right (i, tt)).0 in
      ap (get k) (z.whole ∙ ap (λ v. v ++ (entries_of nx ++ z.after)) (append_assoc z.before (own l r ats) (entries_of ch)) ∙ append_assoc z.before tree (entries_of nx ++ z.after))
      ∙ get_past k z.before (tree ++ (entries_of nx ++ z.after)) lows
      ∙ get_prefix k tree (entries_of nx ++ z.after) highs

-- a child's label isn't empty
before_label : (l p : Label) → is_child p l ≡ true → slice_cmp nat_cmp [] l ≡ Less
before_label [] [] c = absurd (true≢false (sym c))
before_label [] (x ∷ p) c = absurd (true≢false (sym c))
before_label (x ∷ l) p c = refl

-- two subtrees with the same in each node and attribute are one
pub subtree_same : (l : Label) (t u : Tree) → IsValidTree t → IsValidTree u → found (at l t.documents) ≡ true → found (at l u.documents) ≡ true → ((k : Key) → is_in (side l k.label) ≡ true → get k (map_of t) ≡ get k (map_of u)) → alone (at l t.documents) ≡ alone (at l u.documents)
subtree_same l t u w v y z alike = by (at l t.documents) (at l u.documents) refl refl
  where
    by : (f g : Forest) → at l t.documents ≡ f → at l u.documents ≡ g → alone f ≡ alone g
    by none g e h = absurd (true≢false (sym y ∙ ap found e))
    by (node m r ats ch nx) none e h = absurd (true≢false (sym z ∙ ap found h))
    by (node m r ats ch nx) (node n q ats' ch' nx') e h =
        let m_is : m ≡ l = some_is m l (ap head_label (sym e) ∙ at_label l t.documents y) in
        let n_is : n ≡ l = some_is n l (ap head_label (sym h) ∙ at_label l u.documents z) in
        let lt = lies_in_tree l m r ats ch nx t w e in
        let lu = lies_in_tree l n q ats' ch' nx' u v h in
        let p = up l root t.documents in
        let p_is : up l root u.documents ≡ p = up_parent l u.documents v.keys z ∙ sym (up_parent l t.documents w.keys y) in
        let kt : KeysRise p [] (node l r ats ch none) = (lt.is_child_of, before_label l p lt.is_child_of, lt.within, lt.names, lt.children, tt) in
        let cu : is_child p l ≡ true = lt.is_child_of in
        let ku : KeysRise p [] (node l q ats' ch' none) = (cu, before_label l p cu, lu.within, lu.names, lu.children, tt) in
        let one = tree p l r ats ch nx (map_of t) lt in
        let other = tree (up l root u.documents) l q ats' ch' nx' (map_of u) lu in
        let same : (k : Key) → get k one ≡ get k other = λ k. ⊎_elim
        (λ i. sym (get_inside p l r ats ch nx (map_of t) lt k i) ∙ alike k i ∙ get_inside (up l root u.documents) l q ats' ch' nx' (map_of u) lu k i)
        (λ o. get_outside l k one o (tree_in p l r ats ch nx (map_of t) lt) ∙ sym (get_outside l k other o (tree_in (up l root u.documents) l q ats' ch' nx' (map_of u) lu)))
        (found_or_not (is_in (side l k.label))) in
        let st : Sorted one = subst Sorted (append-nil one) (entries_sorted p [] (node l r ats ch none) kt) in
        let su : Sorted other = subst Sorted (append-nil other) (entries_sorted p [] (node l q ats' ch' none) ku) in
        let maps : one ≡ other = same_entries one other st su same in
        ap (λ k. node k r ats ch none) m_is
        ∙ same_forest p [] [] (node l r ats ch none) (node l q ats' ch' none) kt ku (append-nil one ∙ maps ∙ sym (append-nil other))
        ∙ sym (ap (λ k. node k q ats' ch' none) n_is)

-- ---- documents

no_some : {A P : Type 0} (a : A) → ◌≡◌ {A = Option A} (Some a) None → P
no_some a e = absurd (true≢false (ap is_some e))

all_beside : {A : Type 0} (P : A → Type 0) (n : Name) (xs : List (Name × A)) → AllByRecursion (λ x. P x.1) xs → (a : A) → beside n xs ≡ Some a → P a
all_beside P n [] h a e = no_some a (sym e)
all_beside P n (x ∷ xs) h a e = elim (is_eq (slice_cmp nat_cmp n x.0)) as (λ b. cond b (Some x.1) (beside n xs) ≡ Some a → P a) [
  | true ↦ λ g. subst P (some_is x.1 a g) h.0
  | false ↦ λ g. all_beside P n xs h.1 a g
] e

abbrev read_label : Option (List ℕ) → Option Label
read_label None = None
read_label (Some t) = Rattle.dewey_labels.specs.LabelText.label_of t

label_again : (o : Option Label) → ((l : Label) → o ≡ Some l → Rattle.dewey_labels.specs.Labels.IsLabel l) → read_label (option_map label_text o) ≡ o
label_again None h = refl
label_again (Some l) h = Rattle.dewey_labels.proofs.LabelOf.label_of-label_text l (h l refl)

pub document_label : (n : Name) (l : Label) (t : Tree) → IsValidTree t → beside n t.catalogue ≡ Some l → Rattle.dewey_labels.specs.Labels.IsLabel l
document_label n l t w e = all_beside Rattle.dewey_labels.specs.Labels.IsLabel n t.catalogue (catalogue_labels t w) l e

-- the document with a name, by its cell
pub document_same : (n : Name) (t u : Tree) → IsValidTree t → IsValidTree u → get (key_at root n) (map_of t) ≡ get (key_at root n) (map_of u) → beside n t.catalogue ≡ beside n u.catalogue
document_same n t u w v e =
    sym (label_again (beside n t.catalogue) (λ l h. document_label n l t w h))
    ∙ ap read_label (sym (beside_root n t.catalogue) ∙ root_attribute_same n t u w v e ∙ beside_root n u.catalogue)
    ∙ label_again (beside n u.catalogue) (λ l h. document_label n l u v h)
