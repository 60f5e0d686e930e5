-- Worked rows of the covers, a node e of a document d with a child c, and of the values of cells.
use Rattle.std.proofs.Common.{◌≡◌, true, false, List, [], ◌∷◌, ◌++◌, Some, None, refl}
use Rattle.dewey_labels.specs.Labels.{Label, root}
use Rattle.lock_modes.specs.declared.ask.Ask.TheVariants as ask
use Rattle.lock_modes.specs.declared.mode.Mode.{Mode}
use Rattle.lock_modes.specs.declared.mode.Mode.TheVariants.{IR, NR, LR, SR, CX, SX}
use Rattle.lock_modes.specs.declared.edge_mode.EdgeMode.TheVariants.{ER, EX}
use Rattle.lock_resources.specs.declared.resource.Side.TheVariants.{First, Last, Next, Prev}
use Rattle.lock_resources.specs.declared.resource.Resource.{Resource}
use Rattle.lock_resources.specs.declared.resource.Resource.TheVariants.{Node, AttrRoot, Attr, Edge}
use Rattle.lock_resources.specs.declared.request.Request.{Request}
use Rattle.lock_resources.specs.Intentions.{request, with_intentions}
use Rattle.tree_model.specs.declared.record.Record.TheVariants as record_of
use Rattle.tree_model.specs.Names.{Name}
use Rattle.tree_model.specs.Tree.{none, node, Tree}
use Rattle.tree_cells.specs.Cells.{node_cell, attr_cell, edge_cell, record_is, label_is, value_at}
use Rattle.tree_cells.specs.Covers.{reads, writes}
use Rattle.tree_cells.specs.Clashes.{bar_each_other}

-- the labels of a document, its element, a child of that, and a child of that one
abbrev d : Label
d = 1 ∷ 1001 ∷ []

abbrev e : Label
e = 1 ∷ 1001 ∷ 1001 ∷ []

abbrev c : Label
c = 1 ∷ 1001 ∷ 1001 ∷ 1001 ∷ []

abbrev f : Label
f = 1 ∷ 1001 ∷ 1001 ∷ 1001 ∷ 1001 ∷ []

-- one mode at one resource
abbrev one : Resource → Mode → List Request
one r m = request r (ask.Node m) ∷ []

abbrev er : Resource → List Request
er r = request r (ask.Edge ER) ∷ []

abbrev ex : Resource → List Request
ex r = request r (ask.Edge EX) ∷ []

-- ---- a node

node_by_itself : reads (one (Node e) NR) (node_cell e) ≡ true
node_by_itself = refl

intention_reads_no_node : reads (one (Node e) IR) (node_cell e) ≡ false
intention_reads_no_node = refl

node_by_its_parents_level : reads (one (Node e) LR) (node_cell c) ≡ true
node_by_its_parents_level = refl

level_ends_at_children : reads (one (Node e) LR) (node_cell f) ≡ false
level_ends_at_children = refl

node_by_a_subtree_above : reads (one (Node e) SR) (node_cell f) ≡ true
node_by_a_subtree_above = refl

node_is_taken_from_above : writes (one (Node e) SX) (node_cell f) ≡ true
node_is_taken_from_above = refl

nothing_above_is_taken : reads (one (Node e) SX) (node_cell d) ≡ false
nothing_above_is_taken = refl

-- ---- an attribute k of e

abbrev k : Name
k = 107 ∷ []

abbrev j : Name
j = 106 ∷ []

attribute_by_itself : reads (one (Attr e k) NR) (attr_cell e k) ≡ true
attribute_by_itself = refl

no_other_attribute : reads (one (Attr e k) NR) (attr_cell e j) ≡ false
no_other_attribute = refl

attribute_with_all_others : reads (one (AttrRoot e) LR) (attr_cell e k) ≡ true
attribute_with_all_others = refl

level_reads_no_attribute : reads (one (Node e) LR) (attr_cell e k) ≡ false
level_reads_no_attribute = refl

attribute_by_a_subtree_above : reads (one (Node d) SR) (attr_cell e k) ≡ true
attribute_by_a_subtree_above = refl

attribute_is_taken : writes (one (Attr e k) SX) (attr_cell e k) ≡ true
attribute_is_taken = refl

change_of_attributes_takes_none : writes (one (AttrRoot e) CX) (attr_cell e k) ≡ false
change_of_attributes_takes_none = refl

-- ---- the edges of e, and of c

edge_by_itself : reads (er (Edge e First)) (edge_cell e First) ≡ true
edge_by_itself = refl

last_by_its_own_level : reads (one (Node e) LR) (edge_cell e Last) ≡ true
last_by_its_own_level = refl

next_by_its_parents_level : reads (one (Node e) LR) (edge_cell c Next) ≡ true
next_by_its_parents_level = refl

next_of_what_is_taken : reads (one (Node c) SX) (edge_cell c Next) ≡ true
next_of_what_is_taken = refl

subtree_reads_no_neighbour : reads (one (Node c) SR) (edge_cell c Prev) ≡ false
subtree_reads_no_neighbour = refl

first_with_a_change_of_a_child : writes (ex (Edge e First) ++ one (Node e) CX) (edge_cell e First) ≡ true
first_with_a_change_of_a_child = refl

edge_alone_is_not_written : writes (ex (Edge e First)) (edge_cell e First) ≡ false
edge_alone_is_not_written = refl

next_with_a_change_at_its_parent : writes (ex (Edge c Next) ++ one (Node e) CX) (edge_cell c Next) ≡ true
next_with_a_change_at_its_parent = refl

not_with_one_at_itself : writes (ex (Edge c Next) ++ one (Node c) CX) (edge_cell c Next) ≡ false
not_with_one_at_itself = refl

-- ---- conflicts

-- who asked for the first child of e, and who puts one there
abbrev reads_first : List Request
reads_first = with_intentions (Node e) (ask.Node NR) ++ with_intentions (Edge e First) (ask.Edge ER)

abbrev puts_first : List Request
puts_first = with_intentions (Edge e First) (ask.Edge EX) ++ with_intentions (Node c) (ask.Node SX)

they_clash : bar_each_other reads_first puts_first ≡ true
they_clash = refl

-- without its edge request the one who asked doesn't cover the edge, and is in nobody's way
without_the_edge : bar_each_other (with_intentions (Node e) (ask.Node NR)) puts_first ≡ false
without_the_edge = refl

-- ---- values

abbrev small : Tree
small = record { catalogue = (k, d) ∷ []; documents = node d record_of.Document [] (node e (record_of.Element k) ((j, 49 ∷ []) ∷ []) (node c (record_of.Text (49 ∷ [])) [] none none) none) none }

root_is_no_record : value_at small (node_cell root) ≡ record_is None
root_is_no_record = refl

element_is : value_at small (node_cell e) ≡ record_is (Some (record_of.Element k))
element_is = refl

attribute_is : value_at small (attr_cell e j) ≡ record_is (Some (record_of.Attr (49 ∷ [])))
attribute_is = refl

first_document_is : value_at small (edge_cell root First) ≡ label_is (Some d)
first_document_is = refl

last_child_is : value_at small (edge_cell e Last) ≡ label_is (Some c)
last_child_is = refl

no_next : value_at small (edge_cell c Next) ≡ label_is None
no_next = refl
