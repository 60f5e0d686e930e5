-- Two trees of which one has a subtree more, and what that does to their rows and edges.
use Rattle.std.proofs.Common.{◌≡◌, ℕ, zero, suc, ◌+◌, ◌≤◌, Bool, true, false, cond, ◌||◌, List, ◌∷◌, Option, None, Some, Less, Equal, Greater, nat_cmp, is_eq, refl, sym, ap, subst, ◌∙◌, true≢false, arith}
use Rattle.std.specs.Ordering.{ordering_reverse}
use Rattle.std.specs.Cmp.Lexicographic.{slice_cmp, nat_list_cmp_total}
use Rattle.dewey_labels.specs.Labels.{Label, is_child, is_label, parent, level, cut, IsAncestor, root}
use Rattle.dewey_labels.specs.Sides.{Side as Place, above, left, same, under, right, side, is_in, is_under}
use Rattle.dewey_labels.proofs.Sides.{side_itself, same_is, under_before, ancestor_under}
use Rattle.dewey_labels.proofs.Codes.{child_under, children_right}
use Rattle.dewey_labels.proofs.Labels.{parent_of_child, child_label, level_of_child, is_ancestor_is}
use Rattle.lock_resources.specs.declared.resource.Side.{Side}
use Rattle.lock_resources.specs.declared.resource.Side.TheVariants.{Next, Prev}
use Rattle.tree_model.specs.Tree.{Tree, at, found, labels, map_of}
use Rattle.tree_model.specs.ValidTrees.{IsValidTree, same_label, is_among}
use Rattle.tree_model.proofs.EntryLimits.{list_itself}
use Rattle.tree_model.proofs.StoredCatalogues.{same_label_is}
use Rattle.tree_cells.specs.Cells.{neighbour}
use Rattle.tree_model.specs.Places.{row}
use Rattle.tree_cells.specs.Places.{has_row_of}
use Rattle.tree_model.proofs.PlaceLaws.{row_keys}
use Rattle.tree_cells.proofs.Rows.{rises, same_rows, left_of}
use Rattle.tree_cells.proofs.Edges.{in_row, edge_in, edge_is, rows_same}
use Rattle.tree_cells.proofs.RowChanges as changes
use Rattle.std.proofs.Common.{map, is_some}
use Rattle.std.specs.List.{AllByRecursion}
use Rattle.tree_model.specs.declared.record.Record.{Record}
use Rattle.tree_model.specs.Keys.{key_cmp, key_at, node_key}
use Rattle.tree_model.specs.Entries.{Entries, get, changed}
use Rattle.tree_model.proofs.Keys.{key_itself}
use Rattle.tree_model.specs.Changes.{put_change, drop_change}
use Rattle.tree_model.proofs.Split.{Labelled, SideIn}
use Rattle.tree_model.proofs.WholeTree.{there_in_tree}
use Rattle.tree_cells.proofs.KeyChanges.{set_over, get_in_changed, set_over_none, set_over_puts, unchanged_outside, set_over_drops, kept_outside}

-- ---- where labels lie

pub siblings_apart : (p m n : Label) → is_child p m ≡ true → is_child p n ≡ true → same_label m n ≡ false → is_in (side n m) ≡ false
siblings_apart p m n c d h = elim (slice_cmp nat_cmp m n) as (λ o. slice_cmp nat_cmp m n ≡ o → is_eq o ≡ false → is_in (side n m) ≡ false) [
  | Less ↦ λ e _. ap is_in (left_of p m n c d e)
  | Equal ↦ λ _ g. absurd (true≢false g)
  | Greater ↦ λ e _. ap is_in (children_right p n m d c (nat_list_cmp_total.antisymm n m ∙ ap ordering_reverse e))
] refl h

cut_down : (n : ℕ) (l : Label) → cut (suc n) l ≡ cut n (parent l)
cut_down zero l = refl
cut_down (suc n) l = ap parent (cut_down n l)

pub under_is_in : (s : Place) → is_under s ≡ true → is_in s ≡ true
under_is_in above h = h
under_is_in left h = h
under_is_in same h = refl
under_is_in under h = refl
under_is_in right h = h

-- what lies under a label has its parent at the label or under it
pub parent_in : (n q m : Label) → is_label n ≡ true → is_label q ≡ true → is_child q m ≡ true → side n m ≡ under → is_in (side n q) ≡ true
parent_in n q m i j c u =
    let labelled = child_label q m j c in
    let up : IsAncestor n m = (is_ancestor_is n m i labelled).0 (ancestor_under n m ∙ ap is_under u) in
    let is : parent m ≡ q = parent_of_child q m j c in
    let deep : level m ≡ level q + 1 = level_of_child q m j c in
    by up.0 up.1 (subst (λ k. up.0 ≤ k) deep up.2) (up.3) is
  where
    by : (k : ℕ) → 1 ≤ k → k ≤ level q + 1 → n ≡ cut k m → parent m ≡ q → is_in (side n q) ≡ true
    by zero one most e is = absurd (omega arith)
    by (suc zero) one most e is = ap is_in (subst (λ z. side z q ≡ same) (sym (e ∙ is)) (side_itself q))
    by (suc (suc k)) one most e is =
        let a : IsAncestor n q = (suc k, omega arith, omega arith, e ∙ cut_down (suc k) m ∙ ap (cut (suc k)) is) in
        under_is_in (side n q) (sym (ancestor_under n q) ∙ (is_ancestor_is n q i j).1 a)

-- ---- a subtree more

-- t' has what t has, and below p a subtree at `new`, where t has none
pub record IsInserted (p new : Label) (t t' : Tree) : Type 0 where
  pub label : is_label p ≡ true
  pub child : is_child p new ≡ true
  pub absent : found (at new t.documents) ≡ false
  pub there : found (at new t'.documents) ≡ true
  pub elsewhere : (m : Label) → is_in (side new m) ≡ false → found (at m t'.documents) ≡ found (at m t.documents)

module _ (p new : Label) (t t' : Tree) (w : IsValidTree t) (v : IsValidTree t') (is : IsInserted p new t t') where
  pub new_label : is_label new ≡ true
  new_label = child_label p new is.label is.child

  pub not_among : is_among new (labels (row p t)) ≡ false
  not_among = in_row p new t w is.label is.child ∙ is.absent

  -- the parent's row has the new label
  pub row_inserted : labels (row p t') ≡ changes.put_in new (labels (row p t))
  row_inserted = same_rows p p p (labels (row p t')) (changes.put_in new (labels (row p t))) (rises p p (row p t') (row_keys p t' v))
      (changes.rises_put p p new (labels (row p t)) (rises p p (row p t) (row_keys p t w)) is.child (under_before p new (child_under p new is.child)) not_among)
      (λ m c. in_row p m t' v is.label c ∙ by m c (same_label m new) refl ∙ sym (changes.among_put m new (labels (row p t)) ∙ ap (λ b. same_label m new || b) (in_row p m t w is.label c)))
    where
      by : (m : Label) → is_child p m ≡ true → (b : Bool) → same_label m new ≡ b → found (at m t'.documents) ≡ (same_label m new || found (at m t.documents))
      by m c true e = ap (λ k. found (at k t'.documents)) (same_label_is m new e) ∙ is.there ∙ sym (ap (λ b. b || found (at m t.documents)) e)
      by m c false e = is.elsewhere m (siblings_apart p m new c is.child e) ∙ sym (ap (λ b. b || found (at m t.documents)) e)

  -- the rows outside the subtree are the same but for that one
  pub outside : (q m : Label) → is_label q ≡ true → is_in (side new q) ≡ false → same_label q p ≡ false → is_child q m ≡ true → is_in (side new m) ≡ false
  outside q m i o n c = elim (side new m) as (λ s. side new m ≡ s → is_in s ≡ false) [
    | above ↦ λ _. refl
    | left ↦ λ _. refl
    | same ↦ λ e.
        let one : m ≡ new = same_is new m e in
        let both : q ≡ p = sym (parent_of_child q m i c) ∙ ap parent one ∙ parent_of_child p new is.label is.child in
        absurd (true≢false (sym (subst (λ z. same_label q z ≡ true) both (ap is_eq (list_itself q))) ∙ n))
    | under ↦ λ e. absurd (true≢false (sym (parent_in new q m new_label i c e) ∙ o))
    | right ↦ λ _. refl
  ] refl

  pub row_elsewhere : (q : Label) → is_label q ≡ true → is_in (side new q) ≡ false → same_label q p ≡ false → labels (row q t') ≡ labels (row q t)
  row_elsewhere q i o n = rows_same q t' t v w i (λ m c. is.elsewhere m (outside q m i o n c))

  -- the neighbours of the new label
  abbrev pub left_neighbour : Option Label
  left_neighbour = changes.left_of new (labels (row p t))

  abbrev pub right_neighbour : Option Label
  right_neighbour = changes.right_of new (labels (row p t))

  pub edge_inserted : (l : Label) (s : Side) → has_row_of s l p ≡ true → neighbour l s t' ≡ changes.edge_after new left_neighbour right_neighbour s l (neighbour l s t)
  edge_inserted l s h =
      edge_is p l s t' v is.label h
      ∙ ap (edge_in s l) row_inserted
      ∙ changes.edge_put s p p l new (labels (row p t)) (rises p p (row p t) (row_keys p t w)) not_among
      ∙ sym (ap (changes.edge_after new left_neighbour right_neighbour s l) (edge_is p l s t w is.label h))

  pub edge_elsewhere : (q l : Label) (s : Side) → is_label q ≡ true → has_row_of s l q ≡ true → is_in (side new q) ≡ false → same_label q p ≡ false → neighbour l s t' ≡ neighbour l s t
  edge_elsewhere q l s i h o n = edge_is q l s t' v i h ∙ ap (edge_in s l) (row_elsewhere q i o n) ∙ sym (edge_is q l s t w i h)

  -- without it
  pub edge_removed : (l : Label) (s : Side) → has_row_of s l p ≡ true → neighbour l s t ≡ changes.edge_without new left_neighbour right_neighbour s l (neighbour l s t')
  edge_removed l s h =
      edge_is p l s t w is.label h
      ∙ changes.edge_less s p p l new (labels (row p t)) (rises p p (row p t) (row_keys p t w)) not_among
      ∙ ap (changes.edge_without new left_neighbour right_neighbour s l) (ap (edge_in s l) (sym row_inserted) ∙ sym (edge_is p l s t' v is.label h))

  pub left_is : neighbour new Prev t' ≡ left_neighbour
  left_is = edge_inserted new Prev is.child ∙ ap (λ b. cond b left_neighbour (cond (changes.is_at new right_neighbour) (Some new) (neighbour new Prev t))) (ap is_eq (list_itself new))

  pub right_is : neighbour new Next t' ≡ right_neighbour
  right_is = edge_inserted new Next is.child ∙ ap (λ b. cond b right_neighbour (cond (changes.is_at new left_neighbour) (Some new) (neighbour new Next t))) (ap is_eq (list_itself new))

-- ---- a subtree that was put

-- puts of a subtree's entries, the first of which is its node's, where no node has its label
pub inserted_by_puts : (p new : Label) (t t' : Tree) (r : Record) (xs : Entries) → IsValidTree t → IsValidTree t' → is_label p ≡ true → is_child p new ≡ true → found (at new t.documents) ≡ false
    → AllByRecursion (Labelled (SideIn new)) ((node_key new, r) ∷ xs) → map_of t' ≡ changed (map put_change ((node_key new, r) ∷ xs)) (map_of t) → IsInserted p new t t'
inserted_by_puts p new t t' r xs w v i c absent inside e = record {
  label = i;
  child = c;
  absent = absent;
  there = sym (there_in_tree new t' v) ∙ ap is_some (get_in_changed (node_key new) (map put_change ((node_key new, r) ∷ xs)) t t' w e)
      ∙ set_over_puts (node_key new) xs (cond (is_eq (key_cmp (node_key new) (node_key new))) (Some r) (get (node_key new) (map_of t))) (ap (λ o. is_some (cond (is_eq o) (Some r) (get (node_key new) (map_of t)))) (key_itself (node_key new)));
  elsewhere = λ m o. sym (there_in_tree m t' v) ∙ ap is_some (get_in_changed (node_key m) (map put_change ((node_key new, r) ∷ xs)) t t' w e ∙ set_over_none (node_key m) (map put_change ((node_key new, r) ∷ xs)) (get (node_key m) (map_of t)) (unchanged_outside new (node_key m) ((node_key new, r) ∷ xs) o inside)) ∙ there_in_tree m t w;
}

-- the same with an attribute of the root before them
pub inserted_with_attribute : (p new : Label) (t t' : Tree) (n : List ℕ) (a r : Record) (xs : Entries) → IsValidTree t → IsValidTree t' → is_label p ≡ true → is_child p new ≡ true → found (at new t.documents) ≡ false → ((m : Label) → is_eq (key_cmp (node_key m) (key_at root n)) ≡ false)
    → AllByRecursion (Labelled (SideIn new)) ((node_key new, r) ∷ xs) → map_of t' ≡ changed (map put_change ((key_at root n, a) ∷ (node_key new, r) ∷ xs)) (map_of t) → IsInserted p new t t'
inserted_with_attribute p new t t' n a r xs w v i c absent no_node inside e = record {
  label = i;
  child = c;
  absent = absent;
  there = sym (there_in_tree new t' v) ∙ ap is_some (past new)
      ∙ set_over_puts (node_key new) xs (cond (is_eq (key_cmp (node_key new) (node_key new))) (Some r) (get (node_key new) (map_of t))) (ap (λ o. is_some (cond (is_eq o) (Some r) (get (node_key new) (map_of t)))) (key_itself (node_key new)));
  elsewhere = λ m o. sym (there_in_tree m t' v) ∙ ap is_some (past m ∙ set_over_none (node_key m) (map put_change ((node_key new, r) ∷ xs)) (get (node_key m) (map_of t)) (unchanged_outside new (node_key m) ((node_key new, r) ∷ xs) o inside)) ∙ there_in_tree m t w;
}
  where
    past : (m : Label) → get (node_key m) (map_of t') ≡ set_over (node_key m) (map put_change ((node_key new, r) ∷ xs)) (get (node_key m) (map_of t))
    past m = get_in_changed (node_key m) (map put_change ((key_at root n, a) ∷ (node_key new, r) ∷ xs)) t t' w e ∙ ap (λ b. set_over (node_key m) (map put_change ((node_key new, r) ∷ xs)) (cond b (Some a) (get (node_key m) (map_of t)))) (no_node m)

-- a subtree whose entries are deleted, its node's first
pub removed_by_drops : (p old : Label) (t t' : Tree) (r : Record) (xs : Entries) → IsValidTree t → IsValidTree t' → is_label p ≡ true → is_child p old ≡ true → found (at old t.documents) ≡ true
    → AllByRecursion (Labelled (SideIn old)) ((node_key old, r) ∷ xs) → map_of t' ≡ changed (map drop_change ((node_key old, r) ∷ xs)) (map_of t) → IsInserted p old t' t
removed_by_drops p old t t' r xs w v i c there inside e = record {
  label = i;
  child = c;
  absent = sym (there_in_tree old t' v) ∙ ap is_some (get_in_changed (node_key old) (map drop_change ((node_key old, r) ∷ xs)) t t' w e
      ∙ ap (λ o. set_over (node_key old) (map drop_change xs) (cond (is_eq o) None (get (node_key old) (map_of t)))) (key_itself (node_key old))
      ∙ set_over_drops (node_key old) xs);
  there = there;
  elsewhere = λ m o. sym (sym (there_in_tree m t' v) ∙ ap is_some (get_in_changed (node_key m) (map drop_change ((node_key old, r) ∷ xs)) t t' w e ∙ set_over_none (node_key m) (map drop_change ((node_key old, r) ∷ xs)) (get (node_key m) (map_of t)) (kept_outside old (node_key m) ((node_key old, r) ∷ xs) o inside)) ∙ there_in_tree m t w);
}

-- the same with an attribute of the root before them
pub removed_with_attribute : (p old : Label) (t t' : Tree) (n : List ℕ) (r : Record) (xs : Entries) → IsValidTree t → IsValidTree t' → is_label p ≡ true → is_child p old ≡ true → found (at old t.documents) ≡ true → ((m : Label) → is_eq (key_cmp (node_key m) (key_at root n)) ≡ false)
    → AllByRecursion (Labelled (SideIn old)) ((node_key old, r) ∷ xs) → map_of t' ≡ changed (record { key = key_at root n; now = None } ∷ map drop_change ((node_key old, r) ∷ xs)) (map_of t) → IsInserted p old t' t
removed_with_attribute p old t t' n r xs w v i c there no_node inside e = record {
  label = i;
  child = c;
  absent = sym (there_in_tree old t' v) ∙ ap is_some (past old
      ∙ ap (λ o. set_over (node_key old) (map drop_change xs) (cond (is_eq o) None (get (node_key old) (map_of t)))) (key_itself (node_key old))
      ∙ set_over_drops (node_key old) xs);
  there = there;
  elsewhere = λ m o. sym (sym (there_in_tree m t' v) ∙ ap is_some (past m ∙ set_over_none (node_key m) (map drop_change ((node_key old, r) ∷ xs)) (get (node_key m) (map_of t)) (kept_outside old (node_key m) ((node_key old, r) ∷ xs) o inside)) ∙ there_in_tree m t w);
}
  where
    past : (m : Label) → get (node_key m) (map_of t') ≡ set_over (node_key m) (map drop_change ((node_key old, r) ∷ xs)) (get (node_key m) (map_of t))
    past m = get_in_changed (node_key m) (record { key = key_at root n; now = None } ∷ map drop_change ((node_key old, r) ∷ xs)) t t' w e ∙ ap (λ b. set_over (node_key m) (map drop_change ((node_key old, r) ∷ xs)) (cond b None (get (node_key m) (map_of t)))) (no_node m)
