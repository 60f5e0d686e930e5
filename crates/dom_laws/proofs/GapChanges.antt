-- The end of a call by which a subtree comes in or goes: what it writes and what it keeps of the edges.
use Rattle.std.proofs.Common.{◌≡◌, Bool, true, false, cond, List, Option, None, Some, is_some, refl, sym, ap, subst, ◌∙◌, true≢false, ⊎_elim, ◌||◌}
use Rattle.dewey_labels.specs.Labels.{Label, is_label, is_child}
use Rattle.dewey_labels.specs.Sides.{side, is_in, under, is_under}
use Rattle.dewey_labels.proofs.Codes.{child_under}
use Rattle.lock_resources.specs.declared.resource.Side.{Side}
use Rattle.lock_resources.specs.declared.resource.Side.TheVariants.{First, Last, Next, Prev}
use Rattle.lock_resources.specs.declared.request.Request.{Request}
use Rattle.tree_model.specs.declared.change.Change.{Change}
use Rattle.tree_model.specs.Keys.{node_key}
use Rattle.tree_model.specs.Entries.{changed}
use Rattle.tree_model.specs.Tree.{Tree, map_of, at, found}
use Rattle.tree_model.specs.ValidTrees.{IsValidTree, same_label}
use Rattle.tree_model.specs.Outcomes.{Outcome}
use Rattle.tree_model.specs.Places.{row}
use Rattle.tree_model.proofs.StoredCatalogues.{same_label_is}
use Rattle.tree_model.proofs.PlaceLaws.{found_or_not}
use Rattle.tree_cells.specs.Cells.{Cell, node_cell, edge_cell, neighbour}
use Rattle.tree_cells.specs.Covers.{writes, Agree, label_of}
use Rattle.tree_cells.specs.Places.{has_row_of}
use Rattle.tree_cells.proofs.Coverage.{written_is_read, either, or_first, or_second}
use Rattle.tree_cells.proofs.Conflict.{under_is}
use Rattle.tree_cells.proofs.Edges.{edges_same, owner_of, found_by_cell}
use Rattle.tree_cells.proofs.Insertions.{IsInserted, edge_inserted, edge_removed, edge_elsewhere, left_neighbour, right_neighbour, parent_in}
use Rattle.lock_plans.specs.Plans.{ends}
use Rattle.dom_laws.proofs.Same.{Same}
use Rattle.tree_cells.proofs.Seen.{record_in, label_in}
use Rattle.dom_laws.proofs.Changes.{AreCovered, same_changes, key_written}
use Rattle.tree_cells.proofs.RowChanges as changes

-- the requests cover a subtree for writing, and the edges about its gap
pub record CoversGap (acc : List Request) (p new : Label) (left right : Option Label) : Type 0 where
  pub tree : (x : Cell) → is_in (side new (label_of x)) ≡ true → writes acc x ≡ true
  pub first : left ≡ None → writes acc (edge_cell p First) ≡ true
  pub next : (l : Label) → left ≡ Some l → writes acc (edge_cell l Next) ≡ true
  pub last : right ≡ None → writes acc (edge_cell p Last) ≡ true
  pub prev : (r : Label) → right ≡ Some r → writes acc (edge_cell r Prev) ≡ true

-- what lies under a label of a subtree lies under its root
inside_child : (new z m : Label) → is_in (side new z) ≡ true → is_child z m ≡ true → side new m ≡ under
inside_child new z m i c = Rattle.tree_model.proofs.WholeTree.in_then_under new z m i (child_under z m c)

pub in_child : (new z m : Label) → is_in (side new z) ≡ true → is_child z m ≡ true → is_in (side new m) ≡ true
in_child new z m i c = ap is_in (inside_child new z m i c)

at_is : (l : Label) (o : Option Label) → changes.is_at l o ≡ true → o ≡ Some l
at_is l None e = absurd (true≢false (sym e))
at_is l (Some m) e = ap Some (sym (same_label_is l m e))

neither : (a b : Bool) → (a || b) ≡ false → (a ≡ false) × (b ≡ false)
neither true b e = absurd (true≢false e)
neither false b e = (refl, e)

-- an edge that isn't covered isn't the subtree's
not_new : (acc : List Request) (p new l : Label) (s : Side) (left right : Option Label) → CoversGap acc p new left right → writes acc (edge_cell l s) ≡ false
    → same_label l new ≡ false
not_new acc p new l s left right c off = ⊎_elim
    (λ e. absurd (true≢false (sym (c.tree
    (edge_cell l s) (subst (λ z. is_in (side new z) ≡ true) (sym (same_label_is l new e)) (Rattle.tree_cells.proofs.Seen.in_self new))) ∙ off)))
    (λ e. e) (found_or_not (same_label l new))

-- an edge that isn't about the gap
pub gap_kept : (acc : List Request) (p new l : Label) (s : Side) (left right o : Option Label) → CoversGap acc p new left right → has_row_of s l p ≡ true
    → writes acc (edge_cell l s) ≡ false → changes.edge_after new left right s l o ≡ o
gap_kept acc p new l First left right o c h off = by left refl
  where
    by : (z : Option Label) → left ≡ z → cond (is_some z) o (Some new) ≡ o
    by (Some m) e = refl
    by None e = absurd (true≢false (sym (subst (λ k. writes acc (edge_cell k First) ≡ true) (same_label_is p l h) (c.first e)) ∙ off))
gap_kept acc p new l Last left right o c h off = by right refl
  where
    by : (z : Option Label) → right ≡ z → cond (is_some z) o (Some new) ≡ o
    by (Some m) e = refl
    by None e = absurd (true≢false (sym (subst (λ k. writes acc (edge_cell k Last) ≡ true) (same_label_is p l h) (c.last e)) ∙ off))
gap_kept acc p new l Next left right o c h off =
    (λ i. cond (not_new acc p new l Next left right c off i) right (cond (changes.is_at l left) (Some new) o))
    ∙ ap (λ b. cond b (Some new) o) (⊎_elim (λ e. absurd (true≢false (sym (c.next l (at_is l left e)) ∙ off))) (λ e. e) (found_or_not (changes.is_at l left)))
gap_kept acc p new l Prev left right o c h off =
    (λ i. cond (not_new acc p new l Prev left right c off i) left (cond (changes.is_at l right) (Some new) o))
    ∙ ap (λ b. cond b (Some new) o) (⊎_elim (λ e. absurd (true≢false (sym (c.prev l (at_is l right e)) ∙ off))) (λ e. e) (found_or_not (changes.is_at l right)))

-- an edge that isn't about the gap of a subtree that goes
without_kept : (acc : List Request) (p new l : Label) (s : Side) (left right o : Option Label) → CoversGap acc p new left right → has_row_of s l p ≡ true
    → writes acc (edge_cell l s) ≡ false → changes.edge_without new left right s l o ≡ o
without_kept acc p new l First left right o c h off = by left refl
  where
    by : (z : Option Label) → left ≡ z → cond (is_some z) o right ≡ o
    by (Some m) e = refl
    by None e = absurd (true≢false (sym (subst (λ k. writes acc (edge_cell k First) ≡ true) (same_label_is p l h) (c.first e)) ∙ off))
without_kept acc p new l Last left right o c h off = by right refl
  where
    by : (z : Option Label) → right ≡ z → cond (is_some z) o left ≡ o
    by (Some m) e = refl
    by None e = absurd (true≢false (sym (subst (λ k. writes acc (edge_cell k Last) ≡ true) (same_label_is p l h) (c.last e)) ∙ off))
without_kept acc p new l Next left right o c h off =
    (λ i. cond (not_new acc p new l Next left right c off i) None (cond (changes.is_at l left) right o))
    ∙ ap (λ b. cond b right o) (⊎_elim (λ e. absurd (true≢false (sym (c.next l (at_is l left e)) ∙ off))) (λ e. e) (found_or_not (changes.is_at l left)))
without_kept acc p new l Prev left right o c h off =
    (λ i. cond (not_new acc p new l Prev left right c off i) None (cond (changes.is_at l right) left o))
    ∙ ap (λ b. cond b left o) (⊎_elim (λ e. absurd (true≢false (sym (c.prev l (at_is l right e)) ∙ off))) (λ e. e) (found_or_not (changes.is_at l right)))

-- labels whose cells the requests cover for writing: subtrees
pub record CoversTrees (acc : List Request) (inside : Label → Bool) : Type 0 where
  pub tree : (x : Cell) → inside (label_of x) ≡ true → writes acc x ≡ true
  pub down : (z m : Label) → inside z ≡ true → is_child z m ≡ true → inside m ≡ true

module _ (acc : List Request) (t u : Tree) (w : IsValidTree t) (v : IsValidTree u) (agree : Agree acc t u) (o p : Outcome) (wo : IsValidTree o.1)
    (vp : IsValidTree p.1) (cs : List Change)
    (mt : map_of o.1 ≡ changed cs (map_of t)) (mu : map_of p.1 ≡ changed cs (map_of u)) (covered : AreCovered acc cs) where
  old_same : (l : Label) (s : Side) → writes acc (edge_cell l s) ≡ true → neighbour l s t ≡ neighbour l s u
  old_same l s on = ap label_in (agree (edge_cell l s) (written_is_read acc (edge_cell l s) on))

  -- an edge by whose row it is
  by_row : {P : Type 0} (l : Label) (s : Side) → ((z : Label) → is_label z ≡ true → has_row_of s l z ≡ true → P)
      → ((neighbour l s o.1 ≡ None) → (neighbour l s p.1 ≡ None) → (neighbour l s t ≡ None) → P) → P
  by_row l s row none = ⊎_elim (λ z. row z.0 z.1 z.2)
      (λ a. ⊎_elim (λ z. row z.0 z.1 z.2) (λ b. ⊎_elim (λ z. row z.0 z.1 z.2) (λ c. none a b c) (owner_of l s t w)) (owner_of l s p.1 vp)) (owner_of l s o.1 wo)

  -- subtrees that are covered, and what the change does to an edge of the row of q, and to those of other rows
  module _ (inside : Label → Bool) (trees : CoversTrees acc inside) (q : Label) (edge : Side → Label → Option Label → Option Label)
      (after_t : (l : Label) (s : Side) → inside q ≡ false → has_row_of s l q ≡ true → neighbour l s o.1 ≡ edge s l (neighbour l s t))
      (after_u : (l : Label) (s : Side) → inside q ≡ false → has_row_of s l q ≡ true → neighbour l s p.1 ≡ edge s l (neighbour l s u))
      (edge_kept : (l : Label) (s : Side) (o : Option Label) → has_row_of s l q ≡ true → writes acc (edge_cell l s) ≡ false → edge s l o ≡ o)
      (else_t : (z l : Label) (s : Side) → is_label z ≡ true → has_row_of s l z ≡ true → inside z ≡ false → same_label z q ≡ false
      → neighbour l s o.1 ≡ neighbour l s t)
      (else_u : (z l : Label) (s : Side) → is_label z ≡ true → has_row_of s l z ≡ true → inside z ≡ false → same_label z q ≡ false
      → neighbour l s p.1 ≡ neighbour l s u) where
    -- the same nodes are there in the subtrees
    tree_same : (m : Label) → inside m ≡ true → found (at m o.1.documents) ≡ found (at m p.1.documents)
    tree_same m i =
        let on = trees.tree (node_cell m) i in
        found_by_cell m o.1 p.1 wo vp (key_written acc t u w v agree o p cs mt mu covered (node_cell m) (node_key m) on
        (ap record_in (agree (node_cell m) (written_is_read acc (node_cell m) on))))

    -- an edge of a row lies in the subtrees where the row's label does
    edge_inside : (z l : Label) (s : Side) → has_row_of s l z ≡ true → inside z ≡ true → inside l ≡ true
    edge_inside z l First h i = subst (λ k. inside k ≡ true) (same_label_is z l h) i
    edge_inside z l Last h i = subst (λ k. inside k ≡ true) (same_label_is z l h) i
    edge_inside z l Next h i = trees.down z l i h
    edge_inside z l Prev h i = trees.down z l i h

    edges_kept : (l : Label) (s : Side) → writes acc (edge_cell l s) ≡ false → neighbour l s o.1 ≡ neighbour l s t
    edges_kept l s off = by_row l s
        (λ z i h. ⊎_elim (λ within. absurd (true≢false (sym (trees.tree (edge_cell l s) (edge_inside z l s h within)) ∙ off)))
        (λ out. ⊎_elim
        (λ e. let h2 = subst (λ k. has_row_of s l k ≡ true) (same_label_is z q e) h in let outq = subst (λ k. inside k ≡ false) (same_label_is z q e) out in
        after_t l s outq h2 ∙ edge_kept l s (neighbour l s t) h2 off)
        (λ n. else_t z l s i h out n)
        (found_or_not (same_label z q)))
        (found_or_not (inside z)))
        (λ a b c. a ∙ sym c)

    edges_written : (l : Label) (s : Side) → writes acc (edge_cell l s) ≡ true → neighbour l s o.1 ≡ neighbour l s p.1
    edges_written l s on = by_row l s
        (λ z i h. ⊎_elim
        (λ within. edges_same z l s o.1 p.1 wo vp i h (λ m c. tree_same m (trees.down z m within c)))
        (λ out. ⊎_elim
        (λ e. let h2 = subst (λ k. has_row_of s l k ≡ true) (same_label_is z q e) h in let outq = subst (λ k. inside k ≡ false) (same_label_is z q e) out in
        after_t l s outq h2 ∙ ap (edge s l) (old_same l s on) ∙ sym (after_u l s outq h2))
        (λ n. else_t z l s i h out n ∙ old_same l s on ∙ sym (else_u z l s i h out n))
        (found_or_not (same_label z q)))
        (found_or_not (inside z)))
        (λ a b c. a ∙ sym b)

    pub same_gap : o.0 ≡ p.0 → Same acc t u (ends o) (ends p)
    same_gap e = same_changes acc t u w v agree o p cs mt mu covered e edges_written edges_kept

  -- the gap of one subtree
  module _ (q new : Label) (left right : Option Label) (gap : CoversGap acc q new left right) where
    one_tree : CoversTrees acc (λ z. is_in (side new z))
    one_tree = record { tree = gap.tree; down = in_child new }

    -- a subtree comes in
    pub same_inserted : (it : IsInserted q new t o.1) (iu : IsInserted q new u p.1)
        → left_neighbour q new t o.1 w wo it ≡ left → left_neighbour q new u p.1 v vp iu ≡ left
        → right_neighbour q new t o.1 w wo it ≡ right → right_neighbour q new u p.1 v vp iu ≡ right
        → o.0 ≡ p.0 → Same acc t u (ends o) (ends p)
    same_inserted it iu lt lu rt ru e = same_gap (λ z. is_in (side new z)) one_tree q (changes.edge_after new left right)
        (λ l s _ h. edge_inserted q new t o.1 w wo it l s h ∙ (λ i. changes.edge_after new (lt i) (rt i) s l (neighbour l s t)))
        (λ l s _ h. edge_inserted q new u p.1 v vp iu l s h ∙ (λ i. changes.edge_after new (lu i) (ru i) s l (neighbour l s u)))
        (λ l s o h off. gap_kept acc q new l s left right o gap h off)
        (λ z l s i h out n. edge_elsewhere q new t o.1 w wo it z l s i h out n)
        (λ z l s i h out n. edge_elsewhere q new u p.1 v vp iu z l s i h out n)
        e

    -- a subtree goes
    pub same_removed : (it : IsInserted q new o.1 t) (iu : IsInserted q new p.1 u)
        → left_neighbour q new o.1 t wo w it ≡ left → left_neighbour q new p.1 u vp v iu ≡ left
        → right_neighbour q new o.1 t wo w it ≡ right → right_neighbour q new p.1 u vp v iu ≡ right
        → o.0 ≡ p.0 → Same acc t u (ends o) (ends p)
    same_removed it iu lt lu rt ru e = same_gap (λ z. is_in (side new z)) one_tree q (changes.edge_without new left right)
        (λ l s _ h. edge_removed q new o.1 t wo w it l s h ∙ (λ i. changes.edge_without new (lt i) (rt i) s l (neighbour l s t)))
        (λ l s _ h. edge_removed q new p.1 u vp v iu l s h ∙ (λ i. changes.edge_without new (lu i) (ru i) s l (neighbour l s u)))
        (λ l s o h off. without_kept acc q new l s left right o gap h off)
        (λ z l s i h out n. sym (edge_elsewhere q new o.1 t wo w it z l s i h out n))
        (λ z l s i h out n. sym (edge_elsewhere q new p.1 u vp v iu z l s i h out n))
        e

  -- a subtree goes and another one comes in its place, t1 and u1 being the trees between
  pub same_replaced : (q old new : Label) (left right : Option Label) → CoversGap acc q old left right → CoversGap acc q new left right
      → (t1 u1 : Tree) (w1 : IsValidTree t1) (v1 : IsValidTree u1) (ot : IsInserted q old t1 t) (ou : IsInserted q old u1 u) (it : IsInserted q new t1 o.1)
      (iu : IsInserted q new u1 p.1)
      → left_neighbour q old t1 t w1 w ot ≡ left → left_neighbour q old u1 u v1 v ou ≡ left → right_neighbour q old t1 t w1 w ot ≡ right
      → right_neighbour q old u1 u v1 v ou ≡ right
      → left_neighbour q new t1 o.1 w1 wo it ≡ left → left_neighbour q new u1 p.1 v1 vp iu ≡ left → right_neighbour q new t1 o.1 w1 wo it ≡ right
      → right_neighbour q new u1 p.1 v1 vp iu ≡ right
      → o.0 ≡ p.0 → Same acc t u (ends o) (ends p)
  same_replaced q old new left right gone come t1 u1 w1 v1 ot ou it iu a b c d e f g h same =
      same_gap (λ z. is_in (side old z) || is_in (side new z)) two_trees q
      (λ s l k. changes.edge_after new left right s l (changes.edge_without old left right s l k))
      (λ l s _ k. edge_inserted q new t1 o.1 w1 wo it l s k ∙ (λ i. changes.edge_after new (e i) (g i) s l (neighbour l s t1))
      ∙ ap (changes.edge_after new left right s l) (edge_removed q old t1 t w1 w ot l s k
      ∙ (λ i. changes.edge_without old (a i) (c i) s l (neighbour l s t))))
      (λ l s _ k. edge_inserted q new u1 p.1 v1 vp iu l s k ∙ (λ i. changes.edge_after new (f i) (h i) s l (neighbour l s u1))
      ∙ ap (changes.edge_after new left right s l) (edge_removed q old u1 u v1 v ou l s k
      ∙ (λ i. changes.edge_without old (b i) (d i) s l (neighbour l s u))))
      (λ l s k row off. ap (changes.edge_after new left right s l) (without_kept acc q old l s left right k gone row off)
      ∙ gap_kept acc q new l s left right k come row off)
      (λ z l s i row out n. let off = neither (is_in (side old z)) (is_in (side new z)) out in edge_elsewhere q new t1 o.1 w1 wo it z l s i row off.1 n
      ∙ sym (edge_elsewhere q old t1 t w1 w ot z l s i row off.0 n))
      (λ z l s i row out n. let off = neither (is_in (side old z)) (is_in (side new z)) out in edge_elsewhere q new u1 p.1 v1 vp iu z l s i row off.1 n
      ∙ sym (edge_elsewhere q old u1 u v1 v ou z l s i row off.0 n))
      same
    where
      two_trees : CoversTrees acc (λ z. is_in (side old z) || is_in (side new z))
      two_trees = record {
        tree = λ x k. ⊎_elim (gone.tree x) (come.tree x) (either (is_in (side old (label_of x))) (is_in (side new (label_of x))) k);
        down = λ z m k c. ⊎_elim (λ y. or_first (is_in (side old m)) (is_in (side new m)) (in_child old z m y c))
            (λ y. or_second (is_in (side old m)) (is_in (side new m)) (in_child new z m y c)) (either (is_in (side old z)) (is_in (side new z)) k);
      }

  -- a subtree is built anew under its node, which stays
  pub same_rebuilt : (l : Label) → is_label l ≡ true → ((x : Cell) → is_in (side l (label_of x)) ≡ true → writes acc x ≡ true)
      → ((m : Label) → is_under (side l m) ≡ false → found (at m o.1.documents) ≡ found (at m t.documents))
      → ((m : Label) → is_under (side l m) ≡ false → found (at m p.1.documents) ≡ found (at m u.documents))
      → o.0 ≡ p.0 → Same acc t u (ends o) (ends p)
  same_rebuilt l labelled tree there_t there_u same = same_gap (λ z. is_in (side l z)) (record { tree = tree; down = in_child l }) l (λ s m k. k)
      (λ m s out row. absurd (true≢false (sym (Rattle.tree_cells.proofs.Seen.in_self l) ∙ out)))
      (λ m s out row. absurd (true≢false (sym (Rattle.tree_cells.proofs.Seen.in_self l) ∙ out)))
      (λ m s k row off. refl)
      (λ z m s i row out n. edges_same z m s o.1 t wo w i row (λ k c. there_t k (outside z k i out c)))
      (λ z m s i row out n. edges_same z m s p.1 u vp v i row (λ k c. there_u k (outside z k i out c)))
      same
    where
      outside : (z k : Label) → is_label z ≡ true → is_in (side l z) ≡ false → is_child z k ≡ true → is_under (side l k) ≡ false
      outside z k i out c = ⊎_elim (λ y. absurd (true≢false (sym (parent_in l z k labelled i c (under_is (side l k) y)) ∙ out))) (λ y. y)
          (found_or_not (is_under (side l k)))
