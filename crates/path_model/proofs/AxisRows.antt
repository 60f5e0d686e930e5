-- Worked rows: each axis from an element, an attribute, a text and a document of one tree, by hand after XPath 1.0, section 2.2.
use Rattle.std.proofs.Common.{◌≡◌, false, List, [], ◌∷◌, refl, map}
use Rattle.std.specs.Prelude.{codes, pos, ℕ}
use Rattle.dewey_labels.specs.Labels.{Label}
use Rattle.tree_model.specs.declared.record.Record.TheVariants.{Document, Element, Text}
use Rattle.tree_model.specs.Tree.{Attributes, Forest, none, node, Tree}
use Rattle.path_model.specs.declared.path.Axis.{Axis}
use Rattle.path_model.specs.declared.path.Axis.TheVariants as axis
use Rattle.path_model.specs.declared.path.NodeTest.{NodeTest}
use Rattle.path_model.specs.declared.path.NodeTest.TheVariants as test
use Rattle.path_model.specs.Paths.{Expr, Exprs, no_more, then_expr, Steps, no_steps, step}
use Rattle.path_model.specs.Paths as paths
use Rattle.path_model.specs.Positions.{Position, a_node, an_attribute, label_of}
use Rattle.path_model.specs.Meaning.{found_from}

-- ---- the tree: ["r",{"i":"1"},["a",["x"],"t"],["b",{"j":"3","k":"2"},["x"],["y"]],["c",["x"]]], and behind it a document with ["r"]

abbrev D : Label
D = 1 ∷ 1001 ∷ []

abbrev R : Label
R = 1 ∷ 1001 ∷ 1001 ∷ []

abbrev A : Label
A = 1 ∷ 1001 ∷ 1001 ∷ 1001 ∷ []

abbrev AX : Label
AX = 1 ∷ 1001 ∷ 1001 ∷ 1001 ∷ 1001 ∷ []

abbrev AT : Label
AT = 1 ∷ 1001 ∷ 1001 ∷ 1001 ∷ 1003 ∷ []

abbrev B : Label
B = 1 ∷ 1001 ∷ 1001 ∷ 1003 ∷ []

abbrev BX : Label
BX = 1 ∷ 1001 ∷ 1001 ∷ 1003 ∷ 1001 ∷ []

abbrev BY : Label
BY = 1 ∷ 1001 ∷ 1001 ∷ 1003 ∷ 1003 ∷ []

abbrev C : Label
C = 1 ∷ 1001 ∷ 1001 ∷ 1005 ∷ []

abbrev CX : Label
CX = 1 ∷ 1001 ∷ 1001 ∷ 1005 ∷ 1001 ∷ []

abbrev element : Label → List ℕ → Attributes → Forest → Forest → Forest
element l n ats ch nx = node l (Element n) ats ch nx

abbrev of_a : Forest
of_a = element AX (codes "x") [] none (node AT (Text (codes "t")) [] none none)

abbrev of_b : Forest
of_b = element BX (codes "x") [] none (element BY (codes "y") [] none none)

abbrev of_c : Forest
of_c = element CX (codes "x") [] none none

abbrev of_r : Forest
of_r = element A (codes "a") [] of_a (element B (codes "b") ((codes "j", codes "3") ∷ (codes "k", codes "2") ∷ []) of_b (element C (codes "c") [] of_c none))

abbrev other : Forest
other = node (1 ∷ 1003 ∷ []) Document [] (element (1 ∷ 1003 ∷ 1001 ∷ []) (codes "r") [] none none) none

abbrev tree : Tree
tree = record { catalogue = (codes "m", D) ∷ (codes "n", 1 ∷ 1003 ∷ []) ∷ []; documents = node D Document [] (element R (codes "r") ((codes "i", codes "1") ∷ []) of_r none) other }

-- ---- a step, and its first position

abbrev set : Axis → NodeTest → Position → List Position
set a t n = found_from tree false (step a t no_more no_steps) n

abbrev labels : Axis → NodeTest → Position → List Label
labels a t n = map label_of (set a t n)

abbrev first : Axis → Position → List Label
first a n = map label_of (found_from tree false (step a test.Node (then_expr (paths.number (pos 1)) no_more) no_steps) n)

-- ---- from the element b

abbrev b : Position
b = a_node B (Element (codes "b"))

child_of_b : labels axis.Child test.Node b ≡ BX ∷ BY ∷ []
child_of_b = refl

named_child_of_b : labels axis.Child (test.Name (codes "y")) b ≡ BY ∷ []
named_child_of_b = refl

under_b : labels axis.Descendant test.Node b ≡ BX ∷ BY ∷ []
under_b = refl

over_b : labels axis.Parent test.Node b ≡ R ∷ []
over_b = refl

all_over_b : labels axis.Ancestor test.Node b ≡ D ∷ R ∷ []
all_over_b = refl

behind_b : labels axis.FollowingSibling test.Node b ≡ C ∷ []
behind_b = refl

before_b : labels axis.PrecedingSibling test.Node b ≡ A ∷ []
before_b = refl

all_behind_b : labels axis.Following test.Node b ≡ C ∷ CX ∷ []
all_behind_b = refl

all_before_b : labels axis.Preceding test.Node b ≡ A ∷ AX ∷ AT ∷ []
all_before_b = refl

of_b_by_name : set axis.Attribute (test.Name (codes "k")) b ≡ an_attribute B (codes "k") (codes "2") ∷ []
of_b_by_name = refl

all_of_b : set axis.Attribute test.Any b ≡ an_attribute B (codes "j") (codes "3") ∷ an_attribute B (codes "k") (codes "2") ∷ []
all_of_b = refl

b_itself : labels axis.SelfNode (test.Name (codes "b")) b ≡ B ∷ []
b_itself = refl

b_down : labels axis.DescendantOrSelf test.Node b ≡ B ∷ BX ∷ BY ∷ []
b_down = refl

b_up : labels axis.AncestorOrSelf test.Node b ≡ D ∷ R ∷ B ∷ []
b_up = refl

-- ---- the reverse axes count backwards, from the nearest; the set is in document order all the same

nearest_over_b : first axis.Ancestor b ≡ R ∷ []
nearest_over_b = refl

nearest_up_from_b : first axis.AncestorOrSelf b ≡ B ∷ []
nearest_up_from_b = refl

nearest_before_b : first axis.Preceding b ≡ AT ∷ []
nearest_before_b = refl

nearest_sibling_before_c : first axis.PrecedingSibling (a_node C (Element (codes "c"))) ≡ B ∷ []
nearest_sibling_before_c = refl

first_behind_a : first axis.FollowingSibling (a_node A (Element (codes "a"))) ≡ B ∷ []
first_behind_a = refl

-- ---- from the attribute k of b

abbrev k : Position
k = an_attribute B (codes "k") (codes "2")

over_k : labels axis.Parent test.Node k ≡ B ∷ []
over_k = refl

all_over_k : labels axis.Ancestor test.Node k ≡ D ∷ R ∷ B ∷ []
all_over_k = refl

k_up : set axis.AncestorOrSelf test.Node k ≡ a_node D Document ∷ a_node R (Element (codes "r")) ∷ b ∷ k ∷ []
k_up = refl

behind_k : labels axis.Following test.Node k ≡ BX ∷ BY ∷ C ∷ CX ∷ []
behind_k = refl

before_k : labels axis.Preceding test.Node k ≡ A ∷ AX ∷ AT ∷ []
before_k = refl

no_sibling_of_k : labels axis.FollowingSibling test.Node k ≡ []
no_sibling_of_k = refl

nothing_under_k : labels axis.Descendant test.Node k ≡ []
nothing_under_k = refl

k_itself : set axis.SelfNode test.Node k ≡ k ∷ []
k_itself = refl

-- names and `*` are of elements but on the axis of attributes
k_is_no_element : set axis.SelfNode test.Any k ≡ []
k_is_no_element = refl

-- ---- from the text, and from the document

abbrev text : Position
text = a_node AT (Text (codes "t"))

text_has_no_attributes : labels axis.Attribute test.Node text ≡ []
text_has_no_attributes = refl

before_text : labels axis.Preceding test.Node text ≡ AX ∷ []
before_text = refl

behind_text : labels axis.Following test.Node text ≡ B ∷ BX ∷ BY ∷ C ∷ CX ∷ []
behind_text = refl

abbrev document : Position
document = a_node D Document

below_document : labels axis.Child test.Node document ≡ R ∷ []
below_document = refl

nothing_over_document : labels axis.Parent test.Node document ≡ []
nothing_over_document = refl

no_sibling_of_document : labels axis.FollowingSibling test.Node document ≡ []
no_sibling_of_document = refl

-- no axis leads to another document
nothing_behind_document : labels axis.Following test.Node document ≡ []
nothing_behind_document = refl
