-- Walks over the nodes below a node, and over the attributes of one: what is found, and from where the next one is sought.
use Rattle.std.specs.Prelude.{◌≡◌, ◌≤◌, ◌+◌, ◌&&◌, cond, ℕ, true, false, List, length, if◌then◌else◌, Option, Some, None}
use Rattle.std.specs.List.{filter}
use Rattle.dewey_labels.specs.Labels.{Label, is_child}
use Rattle.dewey_labels.specs.Lists.{is_empty}
use Rattle.dewey_labels.specs.Sides.{side, is_under}
use Rattle.tree_model.specs.declared.key.Key.{Key}
use Rattle.tree_model.specs.declared.record.Record.{Record}
use Rattle.tree_model.specs.declared.record.Record.TheVariants.{Attr}
use Rattle.tree_model.specs.Entries.{Entries}
use Rattle.tree_model.specs.inside.Seeks.{behind_attributes, behind_tree}
use Rattle.tree_model.specs.Places.{is_root}
use Rattle.tree_model.specs.Tree.{Forest, Tree, at, below}
use Rattle.tree_model.specs.ValidTrees.{same_label}
use Rattle.node_seq.specs.Trees.{StandsFor}
use Rattle.path_model.specs.AxisPrograms.{on_right}
use Rattle.path_model.specs.Positions.{Position}
use Rattle.path_model.specs.Programs.{row_seen, all_seen}
use Rattle.xpath_axes.specs.declared.nodes.Reach.{Reach}
use Rattle.xpath_axes.specs.declared.nodes.Reach.TheVariants.{Children, ChildrenBehind, Descendants}

-- ---- nodes

-- the nodes below a node that are met
abbrev pub nodes_below : Reach → Forest → List Position
nodes_below Children f = row_seen (below f)
nodes_below (ChildrenBehind m) f = filter (on_right m.now) (row_seen (below f))
nodes_below Descendants f = all_seen (below f)

-- they are met from a label down: not from the root, which is no node, and behind one of the label's children
abbrev pub CanBegin : Reach → Label → Type 0
CanBegin Children l = is_root l ≡ false
CanBegin (ChildrenBehind m) l = (is_root l ≡ false) × (is_child l m.now ≡ true)
CanBegin Descendants l = is_root l ≡ false

-- where a walk can begin, this holds of the nodes of a tree that it meets below the label
abbrev pub OnNodesMet : Reach → Label → Tree → (List Position → Type 0) → Type 0
OnNodesMet reach l t holds = CanBegin reach l → holds (nodes_below reach (at l t.documents))

-- the count of reads rose by no more than one for each node that is read, of those that the walk meets in the tree
-- that the known map stands for, and one, however the call ended
abbrev pub ReadsOnWalk : Option Entries → Reach → Label → (List Position → List Position) → ℕ → ℕ → Type 0
ReadsOnWalk contents reach l read before after =
    (t : Tree) → StandsFor contents t → OnNodesMet reach l t (λ met. after ≤ before + (length (read met) + 1))

-- from where the first of them is sought
abbrev pub start_key : Reach → Label → Key
start_key Children l = behind_attributes l
start_key (ChildrenBehind m) l = behind_tree m.now
start_key Descendants l = behind_attributes l

-- from where the next of them is sought
abbrev pub behind_key : Reach → Label → Key
behind_key Children l = behind_tree l
behind_key (ChildrenBehind m) l = behind_tree l
behind_key Descendants l = behind_attributes l

-- what was found, if it is a node's own entry and lies under the label
abbrev pub node_under : Label → Option (Key × Record) → Option (Label × Record)
node_under l None = None
node_under l (Some e) = cond (is_under (side l e.0.label) && is_empty e.0.name) (Some (e.0.label, e.1)) None

-- ---- attributes

-- the value of an attribute's record
abbrev pub value_of : Option Record → Option (List ℕ)
value_of (Some (Attr v)) = Some v
value_of o = None

-- the key and the value of an attribute's entry
abbrev pub keyed_value : Key → Record → Option (Key × List ℕ)
keyed_value k (Attr v) = Some (k, v)
keyed_value k r = None

-- those of what was found, if it is an attribute of the node with label l
abbrev pub attribute_of : Label → Option (Key × Record) → Option (Key × List ℕ)
attribute_of l None = None
attribute_of l (Some e) = if same_label l e.0.label then keyed_value e.0 e.1 else None
