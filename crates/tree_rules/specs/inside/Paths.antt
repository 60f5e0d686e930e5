-- The nodes on the way from the root down to a record, and what may stand below them.
use Rattle.std.specs.Prelude.{◌≡◌, ◌⊎◌, ◌-◌, Bool, true, false, not, cond, List, [], ◌∷◌, length, slice_get, Option, Some, None, option_map}
use Rattle.dewey_labels.specs.Labels.{Label, is_ancestor}
use Rattle.tree_model.specs.declared.record.Record.{Record}
use Rattle.tree_model.specs.declared.record.Record.TheVariants.{Document, Element, Text}
use Rattle.tree_model.specs.Entries.{Entries, get}
use Rattle.tree_model.specs.Keys.{node_key}
use Rattle.tree_model.specs.ValidTrees.{same_label}
use Rattle.tree_rules.specs.declared.path.Room.{Room}
use Rattle.tree_rules.specs.declared.path.Room.TheVariants.{Nodes, Nothing, OneElement}
use Rattle.tree_rules.specs.declared.path.Step.{Step}

-- what may stand below a node with this record
abbrev pub room_of : Record → Room
room_of Document = OneElement
room_of (Element n) = Nodes
room_of r = Nothing

-- a record may stand there, where something stands there already or nothing does
abbrev pub may_enter : Option Room → Record → Bool → Bool
may_enter (Some OneElement) (Element n) taken = not taken
may_enter (Some Nodes) (Element n) taken = true
may_enter (Some Nodes) (Text d) taken = true
may_enter room r taken = false

-- what may stand below an element
abbrev pub holds_nodes : Option Room → Bool
holds_nodes (Some Nodes) = true
holds_nodes room = false

-- what may stand below the node with this label, if it is on the path
abbrev pub room_at : Label → List Step → Option Room
room_at p [] = None
room_at p (s ∷ ss) = cond (same_label p s.label) (Some s.room) (room_at p ss)

-- the same, if a map has it
abbrev pub room_in : Label → Entries → Option Room
room_in p es = option_map room_of (get (node_key p) es)

-- a node that doesn't stand above the label
abbrev pub stands_beside : Label → Option Step → Bool
stands_beside l None = false
stands_beside l (Some s) = not (is_ancestor s.label l)

-- the path ends at such a one
abbrev pub ends_beside : Label → List Step → Bool
ends_beside l ss = stands_beside l (slice_get ss (length ss - 1))

-- the path goes to this node now: it has those above the node as before, the node itself, and none that it hadn't
pub record HasGone (l : Label) (room : Room) (old new : List Step) : Type 0 where
  pub above : (p : Label) → is_ancestor p l ≡ true → room_at p new ≡ room_at p old
  pub here : room_at l old ≡ None → room_at l new ≡ Some room
  pub fewer : (p : Label) (r : Room) → room_at p new ≡ Some r → (room_at p old ≡ Some r) ⊎ ((p ≡ l) × (r ≡ room))

-- the last record lies under the label
abbrev pub is_above : Label → Option Label → Bool
is_above p None = false
is_above p (Some l) = is_ancestor p l
