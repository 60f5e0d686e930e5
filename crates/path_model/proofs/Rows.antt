-- Worked rows: what paths mean on small trees, what they find and what they look at, by computation.
use Rattle.std.proofs.Common.{◌≡◌, Bool, true, false, List, [], ◌∷◌, refl, map}
use Rattle.std.specs.Prelude.{codes, pos, ℕ}
use Rattle.dewey_labels.specs.Labels.{Label}
use Rattle.tree_model.specs.declared.record.Record.TheVariants.{Document, Element, Text}
use Rattle.tree_model.specs.Tree.{Forest, none, node, Tree}
use Rattle.path_model.specs.declared.path.Axis.TheVariants.{Child, Descendant, Attribute, PrecedingSibling, DescendantOrSelf}
use Rattle.path_model.specs.declared.path.Axis.{Axis}
use Rattle.path_model.specs.declared.path.NodeTest.{NodeTest}
use Rattle.path_model.specs.declared.path.NodeTest.TheVariants as test
use Rattle.path_model.specs.declared.path.Op.TheVariants.{Eq, Gt}
use Rattle.path_model.specs.Paths.{Expr, path, literal, apply, Exprs, no_more, then_expr, Steps, no_steps, step, binary}
use Rattle.path_model.specs.Paths as paths
use Rattle.path_model.specs.Positions.{Position, a_node, label_of}
use Rattle.path_model.specs.Programs.{at_node, at_row, at_tree, at_attribute, answer, looked}
use Rattle.path_model.specs.Evaluation.{find_from}
use Rattle.path_model.specs.Meaning.{found_from}

abbrev D : Label
D = 1 ∷ 1001 ∷ []

abbrev E : Label
E = 1 ∷ 1001 ∷ 1001 ∷ []

abbrev under : Label → ℕ → Label
under [] n = n ∷ []
under (x ∷ l) n = x ∷ under l n

abbrev document : Forest → Tree
document f = record { catalogue = (codes "x", D) ∷ []; documents = node D Document [] f none }

-- the labels of what a path means, and of what its program answers
abbrev meant : Tree → Bool → Steps → Position → List Label
meant t is_absolute ss n = map label_of (found_from t is_absolute ss n)

abbrev answered : Tree → Bool → Steps → Position → List Label
answered t is_absolute ss n = map label_of (answer t (find_from is_absolute ss n))

abbrev one : Expr → Exprs
one e = then_expr e no_more

abbrev named : Axis → List ℕ → Exprs → Steps → Steps
named a n es ss = step a (test.Name n) es ss

abbrev at_nodes : Steps → Steps
at_nodes ss = step DescendantOrSelf test.Node no_more ss

-- ["a",["b",{"k":"1"}],["b",{"k":"2"}]]
abbrev two : Tree
two = document (node E (Element (codes "a")) [] (node (under E 1001) (Element (codes "b")) ((codes "k", codes "1") ∷ []) none (node (under E 1003) (Element (codes "b")) ((codes "k", codes "2") ∷ []) none none)) none)

-- //b[@k='1'][2]
abbrev second_b : Steps
second_b = at_nodes (named Child (codes "b") (then_expr (binary Eq (path false (named Attribute (codes "k") no_more no_steps)) (literal (codes "1"))) (one (paths.number (pos 2)))) no_steps)

no_second_b : meant two true second_b (a_node D Document) ≡ []
no_second_b = refl

finds_no_second_b : answered two true second_b (a_node D Document) ≡ []
finds_no_second_b = refl

-- it looks at the document, at all of it, at each node's children, and at each b's attribute on the way
looked_for_b : looked two (find_from true second_b (a_node D Document))
    ≡ at_node D ∷ at_tree D ∷ at_row D ∷ at_row E ∷ at_attribute (under E 1001) (codes "k") ∷ at_attribute (under E 1003) (codes "k") ∷ at_row (under E 1001) ∷ at_row (under E 1003) ∷ []
looked_for_b = refl

-- a node set compares by every node: a[b/@k = '2'] is there, though the first b has another k
abbrev some_k : Steps
some_k = named Child (codes "a") (one (binary Eq (path false (named Child (codes "b") no_more (named Attribute (codes "k") no_more no_steps))) (literal (codes "2")))) no_steps

by_some_node : meant two false some_k (a_node D Document) ≡ E ∷ []
by_some_node = refl

finds_by_some_node : answered two false some_k (a_node D Document) ≡ E ∷ []
finds_by_some_node = refl

-- ["a",["b"],["c"],"x","y",["d"]]
abbrev mixed : Tree
mixed = document (node E (Element (codes "a")) [] (node (under E 1001) (Element (codes "b")) [] none (node (under E 1003) (Element (codes "c")) [] none
    (node (under E 1005) (Text (codes "x")) [] none (node (under E 1007) (Text (codes "y")) [] none (node (under E 1009) (Element (codes "d")) [] none none))))) none)

-- preceding-sibling::*[1] from d is c, the nearest
abbrev first_before : NodeTest → Steps
first_before t = step PrecedingSibling t (one (paths.number (pos 1))) no_steps

abbrev at_d : Position
at_d = a_node (under E 1009) (Element (codes "d"))

nearest_element : meant mixed false (first_before test.Any) at_d ≡ under E 1003 ∷ []
nearest_element = refl

finds_nearest_element : answered mixed false (first_before test.Any) at_d ≡ under E 1003 ∷ []
finds_nearest_element = refl

nearest_node : meant mixed false (first_before test.Node) at_d ≡ under E 1007 ∷ []
nearest_node = refl

finds_nearest_node : answered mixed false (first_before test.Node) at_d ≡ under E 1007 ∷ []
finds_nearest_node = refl

abbrev texts_of : Steps
texts_of = step Child test.Text no_more no_steps

texts_below : meant mixed false texts_of (a_node E (Element (codes "a"))) ≡ under E 1005 ∷ under E 1007 ∷ []
texts_below = refl

finds_texts_below : answered mixed false texts_of (a_node E (Element (codes "a"))) ≡ under E 1005 ∷ under E 1007 ∷ []
finds_texts_below = refl

abbrev priced : Label → List ℕ → Forest → Forest
priced l p behind = node l (Element (codes "i")) [] (node (under l 1001) (Element (codes "price")) [] (node (under (under l 1001) 1001) (Text p) [] none none) none) behind

-- ["c",["i",["price","9"]],["i",["price"," 11 "]],["i",["price","1.5"]],["i",["price","abc"]]]
abbrev prices : Tree
prices = document (node E (Element (codes "c")) [] (priced (under E 1001) (codes "9") (priced (under E 1003) (codes " 11 ") (priced (under E 1005) (codes "1.5") (priced (under E 1007) (codes "abc") none)))) none)

-- /c/i[price > 10]
abbrev dear : Steps
dear = named Child (codes "c") no_more (named Child (codes "i") (one (binary Gt (path false (named Child (codes "price") no_more no_steps)) (paths.number (pos 10)))) no_steps)

above_ten : meant prices true dear (a_node D Document) ≡ under E 1003 ∷ []
above_ten = refl

finds_above_ten : answered prices true dear (a_node D Document) ≡ under E 1003 ∷ []
finds_above_ten = refl

-- //price[1] is the first price of each i, not the first of all
abbrev first_prices : Steps
first_prices = at_nodes (named Child (codes "price") (one (paths.number (pos 1))) no_steps)

first_of_each : meant prices true first_prices (a_node D Document) ≡ under (under E 1001) 1001 ∷ under (under E 1003) 1001 ∷ under (under E 1005) 1001 ∷ under (under E 1007) 1001 ∷ []
first_of_each = refl

finds_first_of_each : answered prices true first_prices (a_node D Document) ≡ under (under E 1001) 1001 ∷ under (under E 1003) 1001 ∷ under (under E 1005) 1001 ∷ under (under E 1007) 1001 ∷ []
finds_first_of_each = refl

-- /descendant::price[1] is the first of all
abbrev first_price : Steps
first_price = named Descendant (codes "price") (one (paths.number (pos 1))) no_steps

first_of_all : meant prices true first_price (a_node D Document) ≡ under (under E 1001) 1001 ∷ []
first_of_all = refl

finds_first_of_all : answered prices true first_price (a_node D Document) ≡ under (under E 1001) 1001 ∷ []
finds_first_of_all = refl
