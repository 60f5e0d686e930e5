-- The cells of a tree: what a call may see of it, or change, one by one (docs/PROFILE.md, "Cells").
use Rattle.std.specs.Prelude.{Option, None}
use Rattle.dewey_labels.specs.Labels.{Label}
use Rattle.lock_resources.specs.declared.resource.Side.{Side}
use Rattle.lock_resources.specs.declared.resource.Side.TheVariants.{First, Last, Next, Prev}
use Rattle.tree_model.specs.declared.record.Record.{Record}
use Rattle.tree_model.specs.Names.{Name}
use Rattle.tree_model.specs.Keys.{key_at, node_key}
use Rattle.tree_model.specs.Entries.{get}
use Rattle.tree_model.specs.Tree.{Tree, map_of, at, next_of, prev_of}
use Rattle.tree_model.specs.Places.{first_in, last_in}

-- a cell: a node, an attribute of a node, or an edge of a node; the catalogue's entries are attributes of the root
pub data Cell : Type 0 where
  node_cell : Label → Cell
  attr_cell : Label → Name → Cell
  edge_cell : Label → Side → Cell

-- what a cell is worth: a record, or the label of the node at an edge; each may be absent
pub data Value : Type 0 where
  record_is : Option Record → Value
  label_is : Option Label → Value

-- the label of the node at an edge
abbrev pub neighbour : Label → Side → Tree → Option Label
neighbour l First t = first_in l t
neighbour l Last t = last_in l t
neighbour l Next t = next_of (at l t.documents)
neighbour l Prev t = prev_of None l t.documents

-- what a tree has in a cell
abbrev pub value_at : Tree → Cell → Value
value_at t (node_cell l) = record_is (get (node_key l) (map_of t))
value_at t (attr_cell l n) = record_is (get (key_at l n) (map_of t))
value_at t (edge_cell l s) = label_is (neighbour l s t)
