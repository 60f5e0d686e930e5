-- The end of a call that changes keys: what it writes and what it keeps.
use Rattle.std.specs.List.{AllByRecursion}
use Rattle.std.proofs.Common.{◌≡◌, true, false, ◌&&◌, List, [], ◌∷◌, ◌++◌, is_eq, refl, sym, ap, subst, ◌∙◌, true≢false, ⊎_elim}
use Rattle.dewey_labels.specs.Labels.{Label}
use Rattle.dewey_labels.specs.Sides.{side, is_in}
use Rattle.lock_modes.specs.declared.mode.Mode.TheVariants.{SX}
use Rattle.lock_resources.specs.declared.resource.Side.{Side}
use Rattle.lock_resources.specs.declared.resource.Resource.TheVariants.{Node, Attr}
use Rattle.lock_resources.specs.declared.request.Request.{Request}
use Rattle.lock_resources.specs.Intentions.{with_intentions}
use Rattle.tree_model.specs.declared.key.Key.{Key}
use Rattle.tree_model.specs.declared.change.Change.{Change}
use Rattle.tree_model.specs.Names.{Name}
use Rattle.tree_model.specs.Keys.{key_cmp, key_at, node_key}
use Rattle.tree_model.specs.Entries.{get, changed}
use Rattle.tree_model.specs.Tree.{Tree, map_of, at, found}
use Rattle.tree_model.specs.ValidTrees.{IsValidTree, same_label}
use Rattle.tree_model.specs.Outcomes.{Outcome}
use Rattle.tree_model.proofs.PlaceLaws.{found_or_not}
use Rattle.tree_cells.specs.Cells.{Cell, node_cell, attr_cell, edge_cell, record_is, label_is, value_at, neighbour}
use Rattle.tree_cells.specs.Covers.{writes_from, writes_edge, writes, Agree, label_of}
use Rattle.tree_cells.proofs.Coverage.{written_is_read, and_both, or_first}
use Rattle.tree_cells.proofs.Edges.{all_edges_same}
use Rattle.tree_cells.proofs.KeyChanges.{set_over, set_over_none, get_in_changed, Unchanged}
use Rattle.tree_cells.proofs.SameTrees.{key_is}
use Rattle.lock_plans.specs.Plans.{ends}
use Rattle.tree_cells.proofs.Agreement.{last_covers}
use Rattle.dom_laws.proofs.Same.{Same, same_change}
use Rattle.tree_cells.proofs.Seen.{record_in, label_in, same_self}
use Rattle.lock_modes.specs.declared.ask.Ask.TheVariants as ask

-- the key of a cell, if it has one
abbrev pub HasKey : Cell → Key → Type 0
HasKey (node_cell l) k = k ≡ node_key l
HasKey (attr_cell l n) k = k ≡ key_at l n
HasKey (edge_cell l s) k = ⊥

-- every cell with the key of a change is covered for writing
abbrev pub AreCovered : List Request → List Change → Type 0
AreCovered acc cs = AllByRecursion (λ c. (x : Cell) → HasKey x c.key → writes acc x ≡ true) cs

unchanged : (acc : List Request) (x : Cell) (k : Key) (cs : List Change) → HasKey x k → AreCovered acc cs → writes acc x ≡ false → Unchanged k cs
unchanged acc x k [] h c off = tt
unchanged acc x k (d ∷ cs) h c off = (
  ⊎_elim
      (λ e. absurd (true≢false (sym (c.0 x (subst (HasKey x) (key_is k d.key e) h)) ∙ off)))
      (λ e. e) (found_or_not (is_eq (key_cmp k d.key))),
  unchanged acc x k cs h c.1 off,
)

module _ (acc : List Request) (t u : Tree) (w : IsValidTree t) (v : IsValidTree u) (agree : Agree acc t u) (o p : Outcome) (cs : List Change)
    (mt : map_of o.1 ≡ changed cs (map_of t)) (mu : map_of p.1 ≡ changed cs (map_of u)) (covered : AreCovered acc cs) where
  pub key_written : (x : Cell) (k : Key) → writes acc x ≡ true → get k (map_of t) ≡ get k (map_of u) → get k (map_of o.1) ≡ get k (map_of p.1)
  key_written x k on e = get_in_changed k cs t o.1 w mt ∙ ap (set_over k cs) e ∙ sym (get_in_changed k cs u p.1 v mu)

  key_kept : (x : Cell) (k : Key) → HasKey x k → writes acc x ≡ false → get k (map_of o.1) ≡ get k (map_of t)
  key_kept x k h off = get_in_changed k cs t o.1 w mt ∙ set_over_none k cs (get k (map_of t)) (unchanged acc x k cs h covered off)

  agreed : (x : Cell) → writes acc x ≡ true → value_at t x ≡ value_at u x
  agreed x on = agree x (written_is_read acc x on)

  written_by : ((l : Label) (s : Side) → writes acc (edge_cell l s) ≡ true → neighbour l s o.1 ≡ neighbour l s p.1) → (x : Cell) → writes acc x ≡ true
      → value_at o.1 x ≡ value_at p.1 x
  written_by edges (node_cell l) on = ap record_is (key_written (node_cell l) (node_key l) on (ap record_in (agreed (node_cell l) on)))
  written_by edges (attr_cell l n) on = ap record_is (key_written (attr_cell l n) (key_at l n) on (ap record_in (agreed (attr_cell l n) on)))
  written_by edges (edge_cell l s) on = ap label_is (edges l s on)

  kept_by : ((l : Label) (s : Side) → writes acc (edge_cell l s) ≡ false → neighbour l s o.1 ≡ neighbour l s t) → (x : Cell) → writes acc x ≡ false
      → value_at o.1 x ≡ value_at t x
  kept_by edges (node_cell l) off = ap record_is (key_kept (node_cell l) (node_key l) refl off)
  kept_by edges (attr_cell l n) off = ap record_is (key_kept (attr_cell l n) (key_at l n) refl off)
  kept_by edges (edge_cell l s) off = ap label_is (edges l s off)

  -- the same changes on both trees
  pub same_changes : o.0 ≡ p.0
      → ((l : Label) (s : Side) → writes acc (edge_cell l s) ≡ true → neighbour l s o.1 ≡ neighbour l s p.1)
      → ((l : Label) (s : Side) → writes acc (edge_cell l s) ≡ false → neighbour l s o.1 ≡ neighbour l s t)
      → Same acc t u (ends o) (ends p)
  same_changes e written kept = same_change acc t u o p e (written_by written) (kept_by kept)

  -- where no node comes or goes, no edge changes
  pub same_in_place : o.0 ≡ p.0 → IsValidTree o.1 → IsValidTree p.1
      → ((l : Label) → found (at l o.1.documents) ≡ found (at l t.documents)) → ((l : Label) → found (at l p.1.documents) ≡ found (at l u.documents))
      → Same acc t u (ends o) (ends p)
  same_in_place e wo vp there_t there_u = same_changes e
      (λ l s on. all_edges_same o.1 t wo w there_t l s ∙ ap label_in (agreed (edge_cell l s) on) ∙ sym (all_edges_same p.1 u vp v there_u l s))
      (λ l s off. all_edges_same o.1 t wo w there_t l s)

-- ---- what is covered for writing

-- a subtree that was taken
pub taken : (acc : List Request) (l : Label) (x : Cell) → is_in (side l (label_of x)) ≡ true → writes (acc ++ with_intentions (Node l) (ask.Node SX)) x ≡ true
taken acc l x i = or_first _ (writes_edge (acc ++ with_intentions (Node l) (ask.Node SX)) x)
    (last_covers (λ r a. writes_from r a x) acc (Node l) (ask.Node SX) (and_both (is_in (side l (label_of x))) true i refl))

pub taken_attribute : (acc : List Request) (l : Label) (n : Name) → writes (acc ++ with_intentions (Attr l n) (ask.Node SX)) (attr_cell l n) ≡ true
taken_attribute acc l n = or_first _ false
    (last_covers (λ r a. writes_from r a (attr_cell l n)) acc (Attr l n) (ask.Node SX)
    (and_both (same_label l l && same_label n n) true (and_both (same_label l l) (same_label n n) (same_self l) (same_self n)) refl))
