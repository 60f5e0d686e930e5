-- What a look shows is told by the cells that it reads: on valid trees that have the same in these it shows the same.
use Rattle.std.proofs.Common.{◌≡◌, ℕ, Bool, true, false, cond, List, [], ◌∷◌, ◌++◌, Option, None, Some, refl, sym, ap, ◌∙◌, true≢false, ⊎_elim, inr}
use Rattle.std.specs.List.{AllByRecursion}
use Rattle.dewey_labels.specs.Labels.{Label, root, is_child, is_label}
use Rattle.dewey_labels.specs.Sides.{side, under, is_in, ahead}
use Rattle.dewey_labels.proofs.Sides.{side_itself, under_above}
use Rattle.lock_resources.specs.Resources as resources
use Rattle.tree_model.specs.declared.key.Key.{Key}
use Rattle.tree_model.specs.declared.record.Record.{Record}
use Rattle.tree_model.specs.Names.{Name}
use Rattle.tree_model.specs.Keys.{key_at, node_key}
use Rattle.tree_model.specs.Entries.{get, Below, Above}
use Rattle.tree_model.specs.Places.{row, is_root}
use Rattle.tree_model.specs.Tree.{Attributes, Forest, none, node, Tree, map_of, entries_of, at, found, below, record_of, attributes_of, labels, head_label, choose, beside}
use Rattle.tree_model.specs.ValidTrees.{IsValidTree, KeysRise}
use Rattle.tree_model.proofs.Entries.{get_past, get_none}
use Rattle.tree_model.proofs.Found.{some_is, at_label}
use Rattle.tree_model.proofs.FoundParents.{found_right}
use Rattle.tree_model.proofs.Lists.{all_on}
use Rattle.tree_model.proofs.NamedLists.{none_named, same_named}
use Rattle.tree_model.proofs.PlaceLaws.{found_or_not, none_found, not_root, row_keys, at_row as row_at}
use Rattle.tree_model.proofs.Seeks.{ahead_below_node, later_above}
use Rattle.tree_model.proofs.Split.{Labelled, Later, before_of, after_of, split, all_ahead, all_later}
use Rattle.tree_model.proofs.StoredCatalogues.{not_root_under}
use Rattle.tree_model.proofs.Stretches.{attr_record}
use Rattle.tree_model.proofs.TreeReads.{attribute_in_tree}
use Rattle.tree_model.proofs.WholeTree.{get_node, catalogue_entries, at_root as at_root_label}
use Rattle.tree_cells.specs.Cells.{node_cell, attr_cell}
use Rattle.tree_cells.specs.Places.{is_at}
use Rattle.tree_cells.proofs.Coverage.{and_both}
use Rattle.tree_cells.proofs.Edges.{rows_same, found_by_cell}
use Rattle.tree_cells.proofs.SameTrees.{alone, subtree_same, attribute_names, value_in, value_again}
use Rattle.tree_cells.proofs.Seen.{record_in, same_self, in_self, by_key}
use Rattle.path_model.specs.Positions.{Position, a_node, attributes_at}
use Rattle.path_model.specs.Programs.{Look, at_node, at_row, at_tree, at_attributes, at_attribute, head_seen, row_seen, tree_seen, value_seen, seen}
use Rattle.xpath_plans.specs.LookCells.{ShowTheSame}
use Rattle.xpath_plans.specs.LookRequests.{resource_of}

-- ---- a node

abbrev by_record : Label → Option Record → List Position
by_record l None = []
by_record l (Some r) = a_node l r ∷ []

head_by : (l : Label) (f : Forest) → (found f ≡ true → head_label f ≡ Some l) → head_seen f ≡ by_record l (record_of f)
head_by l none h = refl
head_by l (node m r ats ch nx) h = ap (λ k. a_node k r ∷ []) (some_is m l (h refl))

node_same : (l : Label) (t u : Tree) → record_of (at l t.documents) ≡ record_of (at l u.documents) → head_seen (at l t.documents) ≡ head_seen (at l u.documents)
node_same l t u e =
    head_by l (at l t.documents) (at_label l t.documents) ∙ ap (by_record l) e ∙ sym (head_by l (at l u.documents) (at_label l u.documents))

-- ---- a row

-- a row by its labels and a record for each
abbrev seen_by : (Label → Option Record) → List Label → List Position
seen_by value [] = []
seen_by value (m ∷ ls) = by_record m (value m) ++ seen_by value ls

at_itself : (l : Label) (r : Record) (ats : Attributes) (ch nx : Forest) → at l (node l r ats ch nx) ≡ node l r ats ch nx
at_itself l r ats ch nx = ap (λ s. choose s none (node l r ats ch nx) (at l ch) (at l nx)) (side_itself l)

row_by : (p b : Label) (f : Forest) (value : Label → Option Record) → KeysRise p b f
    → ((m : Label) → is_child p m ≡ true → found (at m f) ≡ true → record_of (at m f) ≡ value m) → row_seen f ≡ seen_by value (labels f)
row_by p b none value w h = refl
row_by p b (node l r ats ch nx) value w h =
    let here : Some r ≡ value l = ap record_of (sym (at_itself l r ats ch nx)) ∙ h l w.0 (ap found (at_itself l r ats ch nx)) in
    let on : row_seen nx ≡ seen_by value (labels nx) = row_by p l nx value w.5 (λ m c y.
    let behind : at m (node l r ats ch nx) ≡ at m nx = ap (λ s. choose s none (node l r ats ch nx) (at m ch) (at m nx)) (found_right p l m l nx w.5 w.0 (inr refl) y) in
    ap record_of (sym behind) ∙ h m c (ap found behind ∙ y)) in
    ap (λ o. by_record l o ++ row_seen nx) here ∙ ap (λ (ns : List Position). by_record l (value l) ++ ns) on

row_same : (l : Label) (t u : Tree) → IsValidTree t → IsValidTree u → is_label l ≡ true
    → ((m : Label) → is_child l m ≡ true → get (node_key m) (map_of t) ≡ get (node_key m) (map_of u)) → row_seen (row l t) ≡ row_seen (row l u)
row_same l t u w v i same =
    row_by l l (row l t) (λ m. get (node_key m) (map_of t)) (row_keys l t w) (λ m c y. ap record_of (sym (row_at l m t w i c)) ∙ sym (get_node m t w))
    ∙ ap (seen_by (λ m. get (node_key m) (map_of t))) (rows_same l t u w v i (λ m c. found_by_cell m t u w v (same m c)))
    ∙ sym (row_by l l (row l u) (λ m. get (node_key m) (map_of t)) (row_keys l u v)
    (λ m c y. ap record_of (sym (row_at l m u v i c)) ∙ sym (get_node m u v) ∙ sym (same m c)))

-- no node is the root
below_is : (l : Label) (t : Tree) → is_root l ≡ false → below (at l t.documents) ≡ row l t
below_is l t e = ap (λ b. cond b t.documents (below (at l t.documents))) (sym e)

at_root : (l : Label) (t : Tree) → IsValidTree t → is_root l ≡ true → at l t.documents ≡ none
at_root l t w e = none_found (at l t.documents) (by (found (at l t.documents)) refl)
  where
    by : (b : Bool) → found (at l t.documents) ≡ b → b ≡ false
    by false h = refl
    by true h = absurd (true≢false (sym e ∙ not_root l t w h))

children_same : (l : Label) (t u : Tree) → IsValidTree t → IsValidTree u → is_label l ≡ true
    → ((m : Label) → is_child l m ≡ true → get (node_key m) (map_of t) ≡ get (node_key m) (map_of u))
    → row_seen (below (at l t.documents)) ≡ row_seen (below (at l u.documents))
children_same l t u w v i same =
    ⊎_elim
    (λ e. ap (λ f. row_seen (below f)) (at_root l t w e ∙ sym (at_root l u v e)))
    (λ e. ap row_seen (below_is l t e) ∙ row_same l t u w v i same ∙ sym (ap row_seen (below_is l u e)))
    (found_or_not (is_root l))

-- ---- a whole tree

first_tree : (f : Forest) → tree_seen f ≡ tree_seen (alone f)
first_tree none = refl
first_tree (node l r ats ch nx) = refl

whole_same : (l : Label) (t u : Tree) → IsValidTree t → IsValidTree u
    → ((k : Key) → is_in (side l k.label) ≡ true → get k (map_of t) ≡ get k (map_of u)) → tree_seen (at l t.documents) ≡ tree_seen (at l u.documents)
whole_same l t u w v same =
    let there : found (at l t.documents) ≡ found (at l u.documents) = found_by_cell l t u w v (same (node_key l) (in_self l)) in
    ⊎_elim
    (λ y. first_tree (at l t.documents) ∙ ap tree_seen (subtree_same l t u w v y (sym there ∙ y) same) ∙ sym (first_tree (at l u.documents)))
    (λ n. ap tree_seen (none_found (at l t.documents) n ∙ sym (none_found (at l u.documents) (sym there ∙ n))))
    (found_or_not (found (at l t.documents)))

-- ---- attributes

-- where no node has the label, no attribute stands
no_attribute_of : (l : Label) (n : Name) (t : Tree) → IsValidTree t → side root l ≡ under → found (at l t.documents) ≡ false
    → get (key_at l n) (map_of t) ≡ None
no_attribute_of l n t w u h =
    let k = key_at l n in
    let f = t.documents in
    let roots : AllByRecursion (Below k) (catalogue_entries t.catalogue) = all_on (Labelled (λ v. ahead (side l v) ≡ true)) (Below k) (ahead_below_node l n)
    (catalogue_entries t.catalogue) (at_root_label (λ v. ahead (side l v) ≡ true) (ap ahead (under_above root l u)) t.catalogue) in
    let lows : AllByRecursion (Below k) (before_of l f) = all_on (Labelled (λ v. ahead (side l v) ≡ true)) (Below k) (ahead_below_node l n) (before_of l f)
    (all_ahead root root l f w.keys) in
    let highs : AllByRecursion (Above k) (after_of l f) = all_on (Labelled (Later l)) (Above k) (λ e z. later_above l n e z) (after_of l f)
    (all_later root root l f w.keys) in
    get_past k (catalogue_entries t.catalogue) (entries_of f) roots ∙ ap (get k) (split l f) ∙ get_past k (before_of l f) _ lows
    ∙ ap (λ g. get k (entries_of g ++ after_of l f)) (none_found (at l f) h) ∙ get_none k (after_of l f) highs

attribute_by_key : (l : Label) (d : ℕ) (n : Name) (t : Tree) → IsValidTree t → side root l ≡ under
    → get (key_at l (d ∷ n)) (map_of t) ≡ attr_record (beside (d ∷ n) (attributes_of (at l t.documents)))
attribute_by_key l d n t w u =
    ⊎_elim
    (λ y. attribute_in_tree l d n t w y)
    (λ h. no_attribute_of l (d ∷ n) t w u h ∙ ap (λ f. attr_record (beside (d ∷ n) (attributes_of f))) (sym (none_found (at l t.documents) h)))
    (found_or_not (found (at l t.documents)))

value_same : (l : Label) (n : Name) (t u : Tree) → IsValidTree t → IsValidTree u → side root l ≡ under
    → get (key_at l n) (map_of t) ≡ get (key_at l n) (map_of u)
    → beside n (attributes_of (at l t.documents)) ≡ beside n (attributes_of (at l u.documents))
value_same l [] t u w v i e =
    none_named [] [] (attributes_of (at l t.documents)) (attribute_names l t w) (inr refl)
    ∙ sym (none_named [] [] (attributes_of (at l u.documents)) (attribute_names l u v) (inr refl))
value_same l (d ∷ n) t u w v i e =
    sym (value_again (beside (d ∷ n) (attributes_of (at l t.documents))))
    ∙ ap value_in (sym (attribute_by_key l d n t w i) ∙ e ∙ attribute_by_key l d n u v i) ∙ value_again (beside (d ∷ n) (attributes_of (at l u.documents)))

-- at the root nothing is found in either tree
at_places : {A : Type 0} (P : Forest → A) (l : Label) (t u : Tree) → IsValidTree t → IsValidTree u → is_label l ≡ true
    → (side root l ≡ under → P (at l t.documents) ≡ P (at l u.documents)) → P (at l t.documents) ≡ P (at l u.documents)
at_places P l t u w v i h =
    ⊎_elim
    (λ e. ap P (at_root l t w e ∙ sym (at_root l u v e)))
    (λ e. h (not_root_under l i e))
    (found_or_not (is_root l))

-- ---- each look

pub looks_same : (o : Look) (t u : Tree) → IsValidTree t → IsValidTree u → is_label (resources.label_of (resource_of o)) ≡ true → ShowTheSame o t u → seen t o ≡ seen u o
looks_same (at_node l) t u w v i same = node_same l t u (by_key l t u w v (ap record_in (same (node_cell l) (same_self l))))
looks_same (at_row l) t u w v i same = children_same l t u w v i (λ m c. ap record_in (same (node_cell m) c))
looks_same (at_tree l) t u w v i same = whole_same l t u w v (λ k j. by k.label k.name j)
  where
    by : (m : Label) (n : Name) → is_in (side l m) ≡ true → get (key_at m n) (map_of t) ≡ get (key_at m n) (map_of u)
    by m n j = ap record_in (same (attr_cell m n) j)
looks_same (at_attributes l) t u w v i same =
    at_places (λ f. attributes_at l (attributes_of f)) l t u w v i (λ b.
    ap (attributes_at l) (same_named [] [] (attributes_of (at l t.documents)) (attributes_of (at l u.documents))
    (attribute_names l t w) (attribute_names l u v) (λ n. value_same l n t u w v b (ap record_in (same (attr_cell l n) (same_self l))))))
looks_same (at_attribute l n) t u w v i same =
    at_places (λ f. value_seen l n (beside n (attributes_of f))) l t u w v i (λ b.
    ap (value_seen l n) (value_same l n t u w v b (ap record_in (same (attr_cell l n) (and_both (is_at l l) _ (same_self l) (same_self n))))))
