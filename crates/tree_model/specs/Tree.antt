-- The tree of a store, and the map from keys to records that it stands for (docs/PROFILE.md, "The tree").
use Rattle.std.specs.Prelude.{ℕ, Bool, true, false, cond, List, [], ◌∷◌, ◌++◌, map, Option, Some, None}
use Rattle.std.specs.Option.{option_or}
use Rattle.std.specs.Ordering.{nat_cmp, is_eq}
use Rattle.std.specs.Cmp.Lexicographic.{slice_cmp}
use Rattle.dewey_labels.specs.Labels.{Label, root}
use Rattle.dewey_labels.specs.LabelText.{label_text}
use Rattle.dewey_labels.specs.Sides.{Side, above, left, same, under, right, side}
use Rattle.tree_model.specs.declared.key.Key.{Key}
use Rattle.tree_model.specs.declared.record.Record.{Record}
use Rattle.tree_model.specs.declared.record.Record.TheVariants.{Attr}
use Rattle.tree_model.specs.Keys.{key_at, node_key}
use Rattle.tree_model.specs.Names.{Name}
use Rattle.tree_model.specs.Entries.{Entries}

-- ---- the types

-- attributes: each one's name and value, as bytes
abbrev pub Attributes : Type 0
Attributes = List (Name × List ℕ)

-- trees in a row: the first one's node with its label, record, attributes and children, and the trees behind it
pub data Forest : Type 0 where
  none : Forest
  node : Label → Record → Attributes → Forest → Forest → Forest

-- the names of the documents, each with its document's label
abbrev pub Catalogue : Type 0
Catalogue = List (Name × Label)

-- a store's tree below the root
pub record Tree : Type 0 where
  pub catalogue : Catalogue
  pub documents : Forest

-- the tree of a new store
abbrev pub empty_tree : Tree
empty_tree = record { catalogue = []; documents = none }

-- ---- the map

-- the entry of an attribute of the node with label l
abbrev pub attr_entry : Label → Name × List ℕ → Key × Record
attr_entry l a = (key_at l a.0, Attr a.1)

-- a node's own entries: its record's, and those of its attributes
abbrev pub own : Label → Record → Attributes → Entries
own l r ats = (node_key l, r) ∷ map (attr_entry l) ats

-- the entries of a forest: each node's own, those of its children, and those of the trees behind it
abbrev pub entries_of : Forest → Entries
entries_of none = []
entries_of (node l r ats ch nx) = (own l r ats ++ entries_of ch) ++ entries_of nx

-- a catalogue entry is an attribute of the root whose value is the label's text
abbrev pub root_attribute : Name × Label → Name × List ℕ
root_attribute c = (c.0, label_text c.1)

-- the root's attributes, as the catalogue has them
abbrev pub root_attributes : Catalogue → Attributes
root_attributes cat = map root_attribute cat

-- the map of a tree, without the root
abbrev pub map_of : Tree → Entries
map_of t = map (attr_entry root) (root_attributes t.catalogue) ++ entries_of t.documents

-- ---- the node with a label

-- one of five, by the side of a forest's first node on which a label lies: stop, here, down or along
abbrev pub choose : {A : Type 0} → Side → A → A → A → A → A
choose above stop here down along = stop
choose left stop here down along = stop
choose same stop here down along = here
choose under stop here down along = down
choose right stop here down along = along

-- the tree whose node has the label, with the trees behind it; none where no node has the label
abbrev pub at : Label → Forest → Forest
at l none = none
at l (node m r ats ch nx) = choose (side m l) none (node m r ats ch nx) (at l ch) (at l nx)

-- whether a node was found
abbrev pub found : Forest → Bool
found none = false
found (node l r ats ch nx) = true

-- the left neighbour of that node; o being that of the forest
abbrev pub prev_of : Option Label → Label → Forest → Option Label
prev_of o l none = None
prev_of o l (node m r ats ch nx) = choose (side m l) None o (prev_of None l ch) (prev_of (Some m) l nx)

-- ---- what a forest says of its first node, as `at` finds it

-- its record
abbrev pub record_of : Forest → Option Record
record_of none = None
record_of (node l r ats ch nx) = Some r

-- its attributes
abbrev pub attributes_of : Forest → Attributes
attributes_of none = []
attributes_of (node l r ats ch nx) = ats

-- the forest of its children
abbrev pub below : Forest → Forest
below none = none
below (node l r ats ch nx) = ch

-- the trees behind it
abbrev pub behind : Forest → Forest
behind none = none
behind (node l r ats ch nx) = nx

-- ---- rows of nodes

-- the labels of the trees in a row
abbrev pub labels : Forest → List Label
labels none = []
labels (node l r ats ch nx) = l ∷ labels nx

-- the first of them
abbrev pub head_label : Forest → Option Label
head_label none = None
head_label (node l r ats ch nx) = Some l

-- the last of them
abbrev pub last_label : Forest → Option Label
last_label none = None
last_label (node l r ats ch nx) = option_or (last_label nx) (Some l)

-- the labels of a found node's children
abbrev pub children_of : Forest → List Label
children_of f = labels (below f)

-- the label of a found node's first child
abbrev pub first_of : Forest → Option Label
first_of f = head_label (below f)

-- that of its last child
abbrev pub last_child_of : Forest → Option Label
last_child_of f = last_label (below f)

-- that of its right neighbour
abbrev pub next_of : Forest → Option Label
next_of f = head_label (behind f)

-- ---- attributes and catalogue entries

-- what stands beside a name
abbrev pub beside : {A : Type 0} → Name → List (Name × A) → Option A
beside n [] = None
beside n (a ∷ ats) = cond (is_eq (slice_cmp nat_cmp n a.0)) (Some a.1) (beside n ats)

-- ---- changes

-- the forest with the tree of a label, and the trees behind it, changed
abbrev pub edit : Label → (Forest → Forest) → Forest → Forest
edit l h none = none
edit l h (node m r ats ch nx) = choose (side m l) (node m r ats ch nx) (h (node m r ats ch nx)) (node m r ats (edit l h ch) nx) (node m r ats ch (edit l h nx))

-- one row of trees behind another one
abbrev pub then_trees : Forest → Forest → Forest
then_trees none g = g
then_trees (node l r ats ch nx) g = node l r ats ch (then_trees nx g)
