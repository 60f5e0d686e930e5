-- What is known of two trees that agree on what was asked for.
use Rattle.std.proofs.Common.{◌≡◌, Bool, true, false, cond, ◌&&◌, List, ◌++◌, Option, None, Some, is_eq, refl, sym, ap, ◌∙◌}
use Rattle.dewey_labels.specs.Labels.{Label, is_child}
use Rattle.dewey_labels.specs.Sides.{side, is_in}
use Rattle.dewey_labels.proofs.Sides.{side_itself}
use Rattle.lock_modes.specs.declared.ask.Ask.{Ask}
use Rattle.lock_modes.specs.declared.mode.Mode.TheVariants.{LR, SR, SX}
use Rattle.lock_modes.specs.declared.edge_mode.EdgeMode.{EdgeMode}
use Rattle.lock_resources.specs.declared.resource.Side.{Side}
use Rattle.lock_resources.specs.declared.resource.Side.TheVariants.{First, Last, Next, Prev}
use Rattle.lock_resources.specs.declared.resource.Resource.TheVariants.{Node, AttrRoot, Attr, Edge}
use Rattle.lock_resources.specs.declared.request.Request.{Request}
use Rattle.lock_resources.specs.Intentions.{with_intentions}
use Rattle.tree_model.specs.declared.key.Key.{Key}
use Rattle.tree_model.specs.declared.record.Record.{Record}
use Rattle.tree_model.specs.Names.{Name}
use Rattle.tree_model.specs.Keys.{key_at, node_key}
use Rattle.tree_model.specs.Entries.{get}
use Rattle.tree_model.specs.Tree.{Forest, none, node, Tree, map_of, at, found, below, record_of, first_of, last_child_of}
use Rattle.tree_model.specs.ValidTrees.{IsValidTree, same_label}
use Rattle.tree_model.specs.Places.{row}
use Rattle.tree_model.proofs.EntryLimits.{list_itself}
use Rattle.tree_model.proofs.WholeTree.{get_node}
use Rattle.tree_model.proofs.PlaceLaws.{not_root}
use Rattle.tree_cells.specs.Cells.{node_cell, attr_cell, edge_cell, Value, record_is, label_is, neighbour}
use Rattle.tree_cells.specs.Covers.{Agree}
use Rattle.tree_cells.specs.Places.{same_side}
use Rattle.tree_cells.proofs.Coverage.{and_both, or_first, or_second}
use Rattle.tree_cells.proofs.Agreement.{seen}
use Rattle.lock_modes.specs.declared.ask.Ask.TheVariants as ask

-- ---- values

abbrev pub record_in : Value → Option Record
record_in (record_is r) = r
record_in (label_is l) = None

abbrev pub label_in : Value → Option Label
label_in (record_is r) = None
label_in (label_is l) = l

pub same_self : (l : Label) → same_label l l ≡ true
same_self l = ap is_eq (list_itself l)

pub in_self : (l : Label) → is_in (side l l) ≡ true
in_self l = ap is_in (side_itself l)

-- ---- a node

pub by_key : (l : Label) (t u : Tree) → IsValidTree t → IsValidTree u → get (node_key l) (map_of t) ≡ get (node_key l) (map_of u)
    → record_of (at l t.documents) ≡ record_of (at l u.documents)
by_key l t u w v e = sym (get_node l t w) ∙ e ∙ get_node l u v

abbrev there : Option Record → Bool
there None = false
there (Some r) = true

pub found_is : (f : Forest) → found f ≡ there (record_of f)
found_is none = refl
found_is (node l r ats ch nx) = refl

pub same_found : (f g : Forest) → record_of f ≡ record_of g → found f ≡ found g
same_found f g e = found_is f ∙ ap there e ∙ sym (found_is g)

-- a node that was asked for, in any mode that reads it
pub node_seen : (acc : List Request) (l : Label) (a : Ask) (t u : Tree) → Rattle.tree_cells.specs.ModeParts.reads_node a ≡ true
    → Agree (acc ++ with_intentions (Node l) a) t u → get (node_key l) (map_of t) ≡ get (node_key l) (map_of u)
node_seen acc l a t u e agree =
    ap record_in (seen acc (Node l) a t u agree (node_cell l)
    (or_first (same_label l l && Rattle.tree_cells.specs.ModeParts.reads_node a) _
    (and_both (same_label l l) (Rattle.tree_cells.specs.ModeParts.reads_node a) (same_self l) e)))

-- ---- an edge

pub same_side_self : (s : Side) → same_side s s ≡ true
same_side_self First = refl
same_side_self Last = refl
same_side_self Next = refl
same_side_self Prev = refl

pub edge_seen : (acc : List Request) (l : Label) (s : Side) (m : EdgeMode) (t u : Tree) → Agree (acc ++ with_intentions (Edge l s) (ask.Edge m)) t u
    → neighbour l s t ≡ neighbour l s u
edge_seen acc l s m t u agree =
    ap label_in (seen acc (Edge l s) (ask.Edge m) t u agree (edge_cell l s)
    (and_both (same_label l l && same_side s s) true (and_both (same_label l l) (same_side s s) (same_self l) (same_side_self s)) refl))

-- the row of a found node is that of its children
pub row_is : (l : Label) (t : Tree) → IsValidTree t → found (at l t.documents) ≡ true → row l t ≡ below (at l t.documents)
row_is l t w y = ap (λ b. cond b t.documents (below (at l t.documents))) (not_root l t w y)

pub first_is : (l : Label) (t : Tree) → IsValidTree t → found (at l t.documents) ≡ true → neighbour l First t ≡ first_of (at l t.documents)
first_is l t w y = ap Rattle.tree_model.specs.Tree.head_label (row_is l t w y)

pub last_is : (l : Label) (t : Tree) → IsValidTree t → found (at l t.documents) ≡ true → neighbour l Last t ≡ last_child_of (at l t.documents)
last_is l t w y = ap Rattle.tree_model.specs.Tree.last_label (row_is l t w y)

-- ---- attributes

pub attribute_seen : (acc : List Request) (l : Label) (n : Name) (a : Ask) (t u : Tree) → Rattle.tree_cells.specs.ModeParts.reads_node a ≡ true
    → Agree (acc ++ with_intentions (Attr l n) a) t u → get (key_at l n) (map_of t) ≡ get (key_at l n) (map_of u)
attribute_seen acc l n a t u e agree =
    ap record_in (seen acc (Attr l n) a t u agree (attr_cell l n)
    (and_both (same_label l l && same_label n n) (Rattle.tree_cells.specs.ModeParts.reads_node a)
    (and_both (same_label l l) (same_label n n) (same_self l) (same_self n)) e))

pub attributes_seen : (acc : List Request) (l : Label) (t u : Tree) → Agree (acc ++ with_intentions (AttrRoot l) (ask.Node LR)) t u → (n : Name)
    → get (key_at l n) (map_of t) ≡ get (key_at l n) (map_of u)
attributes_seen acc l t u agree n =
    ap record_in (seen acc (AttrRoot l) (ask.Node LR) t u agree (attr_cell l n) (and_both (same_label l l) true (same_self l) refl))

-- ---- a level

pub level_seen : (acc : List Request) (l : Label) (t u : Tree) → Agree (acc ++ with_intentions (Node l) (ask.Node LR)) t u → (m : Label) → is_child l m ≡ true
    → get (node_key m) (map_of t) ≡ get (node_key m) (map_of u)
level_seen acc l t u agree m c =
    ap record_in (seen acc (Node l) (ask.Node LR) t u agree (node_cell m)
    (or_second (same_label l m && true) _ (or_first (is_child l m && true) _ (and_both (is_child l m) true c refl))))

-- ---- a subtree

pub tree_seen : (acc : List Request) (l : Label) (t u : Tree) → Agree (acc ++ with_intentions (Node l) (ask.Node SR)) t u → (k : Key)
    → is_in (side l k.label) ≡ true → get k (map_of t) ≡ get k (map_of u)
tree_seen acc l t u agree k i = by k.name
  where
    by : (n : Name) → get (key_at k.label n) (map_of t) ≡ get (key_at k.label n) (map_of u)
    by n = ap record_in (seen acc (Node l) (ask.Node SR) t u agree (attr_cell k.label n) (and_both (is_in (side l k.label)) true i refl))

-- ---- a subtree that was taken

pub taken_seen : (acc : List Request) (l : Label) (t u : Tree) → Agree (acc ++ with_intentions (Node l) (ask.Node SX)) t u → (k : Key)
    → is_in (side l k.label) ≡ true → get k (map_of t) ≡ get k (map_of u)
taken_seen acc l t u agree k i = by k.name
  where
    by : (n : Name) → get (key_at k.label n) (map_of t) ≡ get (key_at k.label n) (map_of u)
    by n = ap record_in (seen acc (Node l) (ask.Node SX) t u agree (attr_cell k.label n) (and_both (is_in (side l k.label)) true i refl))

-- with its neighbours
pub next_of_taken : (acc : List Request) (l : Label) (t u : Tree) → Agree (acc ++ with_intentions (Node l) (ask.Node SX)) t u
    → neighbour l Next t ≡ neighbour l Next u
next_of_taken acc l t u agree =
    ap label_in (seen acc (Node l) (ask.Node SX) t u agree (edge_cell l Next)
    (or_first (same_label l l && true) _ (and_both (same_label l l) true (same_self l) refl)))

pub prev_of_taken : (acc : List Request) (l : Label) (t u : Tree) → Agree (acc ++ with_intentions (Node l) (ask.Node SX)) t u
    → neighbour l Prev t ≡ neighbour l Prev u
prev_of_taken acc l t u agree =
    ap label_in (seen acc (Node l) (ask.Node SX) t u agree (edge_cell l Prev)
    (or_first (same_label l l && true) _ (and_both (same_label l l) true (same_self l) refl)))
