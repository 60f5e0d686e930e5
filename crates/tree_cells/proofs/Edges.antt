-- The edges of a tree by its rows, and that the nodes which are there settle them.
use Rattle.std.proofs.Common.{◌≡◌, Bool, true, false, cond, List, [], ◌∷◌, Option, None, Some, is_some, refl, sym, ap, subst, ◌∙◌, true≢false, ◌⊎◌, inl, inr, ⊎_elim}
use Rattle.dewey_labels.specs.Labels.{Label, root, is_child, is_label, parent}
use Rattle.dewey_labels.specs.Sides.{under, side}
use Rattle.dewey_labels.proofs.Labels.{parent_of_child, child_of_parent, root_is_no_child}
use Rattle.lock_resources.specs.declared.resource.Side.{Side}
use Rattle.lock_resources.specs.declared.resource.Side.TheVariants.{First, Last, Next, Prev}
use Rattle.tree_model.specs.Keys.{node_key}
use Rattle.tree_model.specs.Entries.{get}
use Rattle.tree_model.specs.Tree.{Forest, none, node, Tree, map_of, choose, at, found, below, labels, head_label, last_label, next_of, prev_of}
use Rattle.tree_model.specs.ValidTrees.{KeysRise, IsValidTree, is_among}
use Rattle.tree_model.specs.Places.{is_root}
use Rattle.tree_model.proofs.Found.{some_is}
use Rattle.tree_model.proofs.EditedTrees.{found_label}
use Rattle.tree_model.proofs.WholeTree.{there_in_tree}
use Rattle.tree_model.proofs.StoredCatalogues.{root_is, under_not_root}
use Rattle.tree_cells.specs.Cells.{neighbour}
use Rattle.tree_model.specs.Places.{row}
use Rattle.tree_cells.specs.Places.{has_row_of}
use Rattle.tree_cells.proofs.Rows.{Rises, rises, same_rows, among_found, head_in, last_in, next_in, prev_in, head_is, last_is, next_is, prev_is}
use Rattle.tree_model.proofs.PlaceLaws.{found_or_not, none_found, not_root, row_keys, at_row, prev_row}

-- ---- rows

-- a child stands in its row where it is found
pub in_row : (q m : Label) (t : Tree) → IsValidTree t → is_label q ≡ true → is_child q m ≡ true → is_among m (labels (row q t)) ≡ found (at m t.documents)
in_row q m t w i c = among_found q q m (row q t) (row_keys q t w) c ∙ ap found (sym (at_row q m t w i c))

-- ---- edges

-- what stands at an edge, by the row
abbrev pub edge_in : Side → Label → List Label → Option Label
edge_in First l ls = head_in ls
edge_in Last l ls = last_in ls
edge_in Next l ls = next_in l ls
edge_in Prev l ls = prev_in None l ls

pub edge_is : (q l : Label) (s : Side) (t : Tree) → IsValidTree t → is_label q ≡ true → has_row_of s l q ≡ true → neighbour l s t ≡ edge_in s l (labels (row q t))
edge_is q l First t w i h = head_is (row l t) ∙ ap (λ z. head_in (labels (row z t))) (sym (Rattle.tree_model.proofs.StoredCatalogues.same_label_is q l h))
edge_is q l Last t w i h = last_is (row l t) ∙ ap (λ z. last_in (labels (row z t))) (sym (Rattle.tree_model.proofs.StoredCatalogues.same_label_is q l h))
edge_is q l Next t w i h = ap next_of (at_row q l t w i h) ∙ next_is q q l (row q t) (row_keys q t w) h
edge_is q l Prev t w i h = prev_row q l t w i h ∙ prev_is None q q l (row q t) (row_keys q t w) h

-- two rows are one where the same nodes are there
pub rows_same : (q : Label) (t u : Tree) → IsValidTree t → IsValidTree u → is_label q ≡ true → ((m : Label) → is_child q m ≡ true → found (at m t.documents) ≡ found (at m u.documents)) → labels (row q t) ≡ labels (row q u)
rows_same q t u w v i there = same_rows q q q (labels (row q t)) (labels (row q u)) (rises q q (row q t) (row_keys q t w)) (rises q q (row q u) (row_keys q u v)) (λ m c. in_row q m t w i c ∙ there m c ∙ sym (in_row q m u v i c))

-- so are their edges
pub edges_same : (q l : Label) (s : Side) (t u : Tree) → IsValidTree t → IsValidTree u → is_label q ≡ true → has_row_of s l q ≡ true → ((m : Label) → is_child q m ≡ true → found (at m t.documents) ≡ found (at m u.documents)) → neighbour l s t ≡ neighbour l s u
edges_same q l s t u w v i h there = edge_is q l s t w i h ∙ ap (edge_in s l) (rows_same q t u w v i there) ∙ sym (edge_is q l s u v i h)

-- ---- edges that no row has

no_prev_there : (o : Option Label) (l : Label) (f : Forest) → found (at l f) ≡ false → prev_of o l f ≡ None
no_prev_there o l none y = refl
no_prev_there o l (node k r ats ch nx) y = elim (side k l) as (λ s. found (choose s none (node k r ats ch nx) (at l ch) (at l nx)) ≡ false → choose s None o (prev_of None l ch) (prev_of (Some k) l nx) ≡ None) [
  | Rattle.dewey_labels.specs.Sides.above ↦ λ _. refl
  | Rattle.dewey_labels.specs.Sides.left ↦ λ _. refl
  | Rattle.dewey_labels.specs.Sides.same ↦ λ e. absurd (true≢false e)
  | Rattle.dewey_labels.specs.Sides.under ↦ λ e. no_prev_there None l ch e
  | Rattle.dewey_labels.specs.Sides.right ↦ λ e. no_prev_there (Some k) l nx e
] y

pub not_found : (l : Label) (t : Tree) → IsValidTree t → is_label l ≡ false → found (at l t.documents) ≡ false
not_found l t w i = ⊎_elim (λ y. absurd (true≢false (sym (found_label l t.documents w.keys y) ∙ i))) (λ y. y) (found_or_not (found (at l t.documents)))

root_not_found : (t : Tree) → IsValidTree t → found (at root t.documents) ≡ false
root_not_found t w = ⊎_elim (λ y. absurd (true≢false (not_root root t w y))) (λ y. y) (found_or_not (found (at root t.documents)))

pub no_sibling : (l : Label) (s : Side) (t : Tree) → found (at l t.documents) ≡ false → (has_row_of s root root ≡ false) → neighbour l s t ≡ None
no_sibling l First t y h = absurd (true≢false h)
no_sibling l Last t y h = absurd (true≢false h)
no_sibling l Next t y h = ap next_of (none_found (at l t.documents) y)
no_sibling l Prev t y h = no_prev_there None l t.documents y

not_root_label : (l : Label) → is_label l ≡ false → is_root l ≡ false
not_root_label l i = ⊎_elim (λ e. absurd (true≢false (sym (ap is_label (root_is l e)) ∙ i))) (λ e. e) (found_or_not (is_root l))

-- whose row an edge belongs to: a label's, or no one's
pub owner_of : (l : Label) (s : Side) (t : Tree) → IsValidTree t → ((q : Label) × (is_label q ≡ true) × (has_row_of s l q ≡ true)) ⊎ (neighbour l s t ≡ None)
owner_of l s t w = ⊎_elim (λ i. labelled s i) (λ i. inr (strange s i)) (found_or_not (is_label l))
  where
    inner : is_label l ≡ true → has_row_of First l l ≡ true
    inner i = ap Rattle.std.proofs.Common.is_eq (Rattle.tree_model.proofs.EntryLimits.list_itself l)

    outer : is_label l ≡ true → (s : Side) → (has_row_of s root root ≡ false) → (is_child (parent l) l ≡ true → has_row_of s l (parent l) ≡ true) → ((q : Label) × (is_label q ≡ true) × (has_row_of s l q ≡ true)) ⊎ (neighbour l s t ≡ None)
    outer i s o h = ⊎_elim
        (λ e. inr (no_sibling l s t (subst (λ z. found (at z t.documents) ≡ false) (sym (root_is l e)) (root_not_found t w)) o))
        (λ e. inl (parent l, Rattle.dewey_labels.proofs.Labels.is_label-parent l i, h (child_of_parent l i (λ g. true≢false (ap is_root (sym g) ∙ e)))))
        (found_or_not (is_root l))

    labelled : (s : Side) → is_label l ≡ true → ((q : Label) × (is_label q ≡ true) × (has_row_of s l q ≡ true)) ⊎ (neighbour l s t ≡ None)
    labelled First i = inl (l, i, inner i)
    labelled Last i = inl (l, i, inner i)
    labelled Next i = outer i Next refl (λ c. c)
    labelled Prev i = outer i Prev refl (λ c. c)

    empty : is_label l ≡ false → row l t ≡ none
    empty i = ap (λ b. cond b t.documents (below (at l t.documents))) (not_root_label l i) ∙ ap below (none_found (at l t.documents) (not_found l t w i))

    strange : (s : Side) → is_label l ≡ false → neighbour l s t ≡ None
    strange First i = ap head_label (empty i)
    strange Last i = ap last_label (empty i)
    strange Next i = no_sibling l Next t (not_found l t w i) refl
    strange Prev i = no_sibling l Prev t (not_found l t w i) refl

-- where the same nodes are there, all edges are the same
pub all_edges_same : (t u : Tree) → IsValidTree t → IsValidTree u → ((m : Label) → found (at m t.documents) ≡ found (at m u.documents)) → (l : Label) (s : Side) → neighbour l s t ≡ neighbour l s u
all_edges_same t u w v there l s = ⊎_elim
    (λ o. edges_same o.0 l s t u w v o.1 o.2 (λ m _. there m))
    (λ e. ⊎_elim (λ o. edges_same o.0 l s t u w v o.1 o.2 (λ m _. there m)) (λ g. e ∙ sym g) (owner_of l s u v))
    (owner_of l s t w)

-- a node is there where its cell tells so
pub found_by_cell : (l : Label) (t u : Tree) → IsValidTree t → IsValidTree u → get (node_key l) (map_of t) ≡ get (node_key l) (map_of u) → found (at l t.documents) ≡ found (at l u.documents)
found_by_cell l t u w v e = sym (there_in_tree l t w) ∙ ap is_some e ∙ there_in_tree l u v

-- ---- the labels at edges

head_child : (p b m : Label) (ls : List Label) → Rises p b ls → head_in ls ≡ Some m → is_child p m ≡ true
head_child p b m [] w e = cc
head_child p b m (l ∷ ls) w e = subst (λ z. is_child p z ≡ true) (some_is l m e) w.0

last_child : (p b m : Label) (ls : List Label) → Rises p b ls → last_in ls ≡ Some m → is_child p m ≡ true
last_child p b m [] w e = cc
last_child p b m (l ∷ ls) w e = elim (last_in ls) as (λ o. last_in ls ≡ o → Rattle.std.specs.Option.option_or o (Some l) ≡ Some m → is_child p m ≡ true) [
  | None ↦ λ _ g. subst (λ z. is_child p z ≡ true) (some_is l m g) w.0
  | Some k ↦ λ h g. last_child p l m ls w.2 (h ∙ g)
] refl e

next_child : (p b l m : Label) (ls : List Label) → Rises p b ls → next_in l ls ≡ Some m → is_child p m ≡ true
next_child p b l m [] w e = cc
next_child p b l m (k ∷ ls) w e = elim (Rattle.tree_model.specs.ValidTrees.same_label l k) as (λ z. cond z (head_in ls) (next_in l ls) ≡ Some m → is_child p m ≡ true) [
  | true ↦ λ g. head_child p k m ls w.2 g
  | false ↦ λ g. next_child p k l m ls w.2 g
] e

prev_child : (o : Option Label) (p b l m : Label) (ls : List Label) → (o ≡ Some m → is_child p m ≡ true) → Rises p b ls → prev_in o l ls ≡ Some m → is_child p m ≡ true
prev_child o p b l m [] h w e = cc
prev_child o p b l m (k ∷ ls) h w e = elim (Rattle.tree_model.specs.ValidTrees.same_label l k) as (λ z. cond z o (prev_in (Some k) l ls) ≡ Some m → is_child p m ≡ true) [
  | true ↦ λ g. h g
  | false ↦ λ g. prev_child (Some k) p k l m ls (λ q. subst (λ z. is_child p z ≡ true) (some_is k m q) w.0) w.2 g
] e

edge_child : (s : Side) (p b l m : Label) (ls : List Label) → Rises p b ls → edge_in s l ls ≡ Some m → is_child p m ≡ true
edge_child First p b l m ls w e = head_child p b m ls w e
edge_child Last p b l m ls w e = last_child p b m ls w e
edge_child Next p b l m ls w e = next_child p b l m ls w e
edge_child Prev p b l m ls w e = prev_child None p b l m ls (λ q. cc) w e

-- a node at an edge is one of the row
pub neighbour_child : (q l m : Label) (s : Side) (t : Tree) → IsValidTree t → is_label q ≡ true → has_row_of s l q ≡ true → neighbour l s t ≡ Some m → is_child q m ≡ true
neighbour_child q l m s t w i h e = edge_child s q q l m (labels (row q t)) (rises q q (row q t) (row_keys q t w)) (sym (edge_is q l s t w i h) ∙ e)

-- and its label is one
pub neighbour_label : (l m : Label) (s : Side) (t : Tree) → IsValidTree t → neighbour l s t ≡ Some m → is_label m ≡ true
neighbour_label l m s t w e = ⊎_elim
    (λ o. Rattle.dewey_labels.proofs.Labels.child_label o.0 m o.1 (neighbour_child o.0 l m s t w o.1 o.2 e))
    (λ n. no_some m (sym e ∙ n))
    (owner_of l s t w)
  where
    no_some : {P : Type 0} (a : Label) → ◌≡◌ {A = Option Label} (Some a) None → P
    no_some a h = absurd (true≢false (ap is_some h))
