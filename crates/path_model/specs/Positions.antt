-- The positions of a tree, which XPath calls nodes (XPath 1.0, section 5), their document order, and the tests of steps (section 2.3).
use Rattle.std.specs.Prelude.{ℕ, Bool, true, false, List, [], ◌∷◌, ◌++◌, map}
use Rattle.std.specs.Ordering.{is_eq}
use Rattle.std.specs.Str.{bytes_eq}
use Rattle.dewey_labels.specs.Labels.{Label}
use Rattle.tree_model.specs.declared.key.Key.{Key}
use Rattle.tree_model.specs.declared.record.Record.{Record}
use Rattle.tree_model.specs.declared.record.Record.TheVariants.{Document, Element, Text}
use Rattle.tree_model.specs.Keys.{key_at, key_cmp}
use Rattle.tree_model.specs.Names.{Name}
use Rattle.tree_model.specs.Tree.{Attributes, Forest, none, node, Tree}
use Rattle.path_model.specs.declared.path.Axis.{Axis}
use Rattle.path_model.specs.declared.path.Axis.TheVariants.{Attribute}
use Rattle.path_model.specs.declared.path.NodeTest.{NodeTest}
use Rattle.path_model.specs.declared.path.NodeTest.TheVariants as test

-- a node with its label and record, or an attribute with its element's label, its name and its value
pub data Position : Type 0 where
  a_node : Label → Record → Position
  an_attribute : Label → Name → List ℕ → Position

-- ---- what stands where

-- the attributes of a node
abbrev pub attributes_at : Label → Attributes → List Position
attributes_at l ats = map (λ a. an_attribute l a.0 a.1) ats

-- the positions of a forest in document order: each node, its attributes, then what lies under it
abbrev pub positions_in : Forest → List Position
positions_in none = []
positions_in (node l r ats ch nx) = ((a_node l r ∷ attributes_at l ats) ++ positions_in ch) ++ positions_in nx

-- those of a tree, whose root is none
abbrev pub positions : Tree → List Position
positions t = positions_in t.documents

-- ---- document order

abbrev pub label_of : Position → Label
label_of (a_node l r) = l
label_of (an_attribute l n v) = l

-- its name in keys: attributes follow their element by name, and come before its children
abbrev pub name_of : Position → Name
name_of (a_node l r) = []
name_of (an_attribute l n v) = n

abbrev pub key_of : Position → Key
key_of p = key_at (label_of p) (name_of p)

-- whether two positions are one
abbrev pub is_same : Position → Position → Bool
is_same p q = is_eq (key_cmp (key_of p) (key_of q))

-- ---- kinds and names

abbrev pub is_node : Position → Bool
is_node (a_node l r) = true
is_node (an_attribute l n v) = false

abbrev pub is_document : Position → Bool
is_document (a_node l Document) = true
is_document p = false

-- the name of an element or an attribute; that of a document or a text is empty
abbrev pub own_name : Position → Name
own_name (a_node l (Element n)) = n
own_name (a_node l r) = []
own_name (an_attribute l n v) = n

-- ---- node tests

-- a name passes the test
abbrev pub is_named : NodeTest → Name → Bool
is_named (test.Name m) n = bytes_eq m n
is_named test.Any n = true
is_named test.Text n = false
is_named test.Node n = true

-- a node passes the test: names and `*` are of elements
abbrev pub node_passes : NodeTest → Record → Bool
node_passes test.Node r = true
node_passes test.Text (Text d) = true
node_passes test.Text r = false
node_passes t (Element n) = is_named t n
node_passes t r = false

-- a position passes the test of a step along the axis: names and `*` are of attributes on their axis alone
abbrev pub passes : Axis → NodeTest → Position → Bool
passes axis t (a_node l r) = node_passes t r
passes Attribute t (an_attribute l n v) = is_named t n
passes axis test.Node (an_attribute l n v) = true
passes axis t (an_attribute l n v) = false
