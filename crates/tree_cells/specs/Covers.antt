-- Which cells held requests cover, for reading and for writing (docs/PROFILE.md, "Covers").
use Rattle.std.specs.Prelude.{◌≡◌, Bool, true, false, ◌&&◌, ◌||◌, List, [], ◌∷◌}
use Rattle.dewey_labels.specs.Labels.{Label}
use Rattle.lock_modes.specs.declared.ask.Ask.{Ask}
use Rattle.lock_resources.specs.declared.resource.Side.{Side}
use Rattle.lock_resources.specs.declared.resource.Side.TheVariants.{First, Last, Next, Prev}
use Rattle.lock_resources.specs.declared.resource.Resource.{Resource}
use Rattle.lock_resources.specs.declared.resource.Resource.TheVariants.{Node, AttrRoot, Attr, Edge}
use Rattle.lock_resources.specs.declared.request.Request.{Request}
use Rattle.tree_model.specs.Names.{Name}
use Rattle.tree_model.specs.Tree.{Tree}
use Rattle.tree_cells.specs.Cells.{Cell, node_cell, attr_cell, edge_cell, value_at}
use Rattle.tree_cells.specs.ModeParts.{reads_node, reads_level, reads_subtree, reads_edge, is_exclusive, changes_child, changes_edge}
use Rattle.tree_cells.specs.Places.{is_at, is_above, is_at_or_above, is_parent, same_name, same_side, has_row_of}

-- one of the requests does
abbrev pub some_of : (Resource → Ask → Bool) → List Request → Bool
some_of p [] = false
some_of p (g ∷ gs) = p g.resource g.ask || some_of p gs

-- ---- for reading: one request does

-- an edge of l, from the node a: its own level for its first and last child, its parent's for its neighbours, or a subtree in which the edge lies
abbrev pub reads_edge_from : Label → Ask → Label → Side → Bool
reads_edge_from a m l First = (is_at a l && reads_level m) || (is_at_or_above a l && reads_subtree m)
reads_edge_from a m l Last = (is_at a l && reads_level m) || (is_at_or_above a l && reads_subtree m)
reads_edge_from a m l Next = (is_at a l && is_exclusive m) || ((is_parent a l && reads_level m) || (is_above a l && reads_subtree m))
reads_edge_from a m l Prev = (is_at a l && is_exclusive m) || ((is_parent a l && reads_level m) || (is_above a l && reads_subtree m))

-- a line for each kind of resource at which a request covers a cell
abbrev pub reads_from : Resource → Ask → Cell → Bool
reads_from (Node a) m (node_cell l) = (is_at a l && reads_node m) || ((is_parent a l && reads_level m) || (is_at_or_above a l && reads_subtree m))
reads_from (Attr a k) m (attr_cell l n) = (is_at a l && same_name k n) && reads_node m
reads_from (AttrRoot a) m (attr_cell l n) = is_at a l && reads_level m
reads_from (Node a) m (attr_cell l n) = is_at_or_above a l && reads_subtree m
reads_from (Edge a r) m (edge_cell l s) = (is_at a l && same_side r s) && reads_edge m
reads_from (Node a) m (edge_cell l s) = reads_edge_from a m l s
reads_from r m x = false

-- the requests cover a cell for reading
abbrev pub reads : List Request → Cell → Bool
reads gs x = some_of (λ r a. reads_from r a x) gs

-- ---- for writing: a subtree or an attribute that is taken, or an edge together with a change of a child

-- the label of a cell
abbrev pub label_of : Cell → Label
label_of (node_cell l) = l
label_of (attr_cell l n) = l
label_of (edge_cell l s) = l

-- an attribute that is taken
abbrev pub takes_attribute : Label → Name → Ask → Cell → Bool
takes_attribute a k m (attr_cell l n) = (is_at a l && same_name k n) && is_exclusive m
takes_attribute a k m x = false

-- one request does by itself
abbrev pub writes_from : Resource → Ask → Cell → Bool
writes_from (Node a) m x = is_at_or_above a (label_of x) && is_exclusive m
writes_from (Attr a k) m x = takes_attribute a k m x
writes_from (AttrRoot a) m x = false
writes_from (Edge a r) m x = false

-- the edge is asked to be changed
abbrev pub changes_edge_at : Label → Side → Resource → Ask → Bool
changes_edge_at l s (Edge a r) m = (is_at a l && same_side r s) && changes_edge m
changes_edge_at l s r m = false

-- a change of a child is asked at the node to whose row the edge belongs
abbrev pub changes_row : Label → Side → Resource → Ask → Bool
changes_row l s (Node a) m = has_row_of s l a && changes_child m
changes_row l s r m = false

-- two requests together cover an edge
abbrev pub writes_edge : List Request → Cell → Bool
writes_edge gs (node_cell l) = false
writes_edge gs (attr_cell l n) = false
writes_edge gs (edge_cell l s) = some_of (changes_edge_at l s) gs && some_of (changes_row l s) gs

-- the requests cover a cell for writing
abbrev pub writes : List Request → Cell → Bool
writes gs x = some_of (λ r a. writes_from r a x) gs || writes_edge gs x

-- ---- trees under requests

-- two trees have the same in every cell that these requests cover for reading
abbrev pub Agree : List Request → Tree → Tree → Type 0
Agree gs t u = (x : Cell) → reads gs x ≡ true → value_at t x ≡ value_at u x

-- what the one list covers, the other covers
pub record IsCoveredBy (gs hs : List Request) : Type 0 where
  pub reading : (x : Cell) → reads gs x ≡ true → reads hs x ≡ true
  pub writing : (x : Cell) → writes gs x ≡ true → writes hs x ≡ true
