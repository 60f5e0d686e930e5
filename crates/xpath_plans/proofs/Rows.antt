-- Worked rows: what `find` asks for on small trees, in order, by computation.
use Rattle.std.proofs.Common.{◌≡◌, ◌+◌, ◌*◌, true, false, List, [], ◌∷◌, ◌++◌, length, refl}
use Rattle.std.specs.Prelude.{codes, pos, ℕ}
use Rattle.dewey_labels.specs.Labels.{Label, root}
use Rattle.lock_modes.specs.declared.ask.Ask.TheVariants as ask
use Rattle.lock_modes.specs.declared.mode.Mode.{Mode}
use Rattle.lock_modes.specs.declared.mode.Mode.TheVariants.{IR, NR, LR, SR, IX}
use Rattle.lock_resources.specs.declared.resource.Resource.TheVariants.{Node, AttrRoot, Attr}
use Rattle.lock_resources.specs.declared.request.Request.{Request}
use Rattle.lock_resources.specs.Intentions.{request}
use Rattle.tree_model.specs.declared.record.Record.TheVariants.{Document, Element, Text}
use Rattle.tree_model.specs.Names.{Name}
use Rattle.tree_model.specs.Tree.{Forest, none, node, Tree}
use Rattle.tree_cells.specs.Clashes.{bars}
use Rattle.path_model.specs.declared.path.Axis.{Axis}
use Rattle.path_model.specs.declared.path.Axis.TheVariants as axis
use Rattle.path_model.specs.declared.path.NodeTest.TheVariants as test
use Rattle.path_model.specs.declared.path.Op.TheVariants.{Eq, Gt}
use Rattle.path_model.specs.Paths.{Expr, path, literal, Exprs, no_more, then_expr, Path, Steps, no_steps, step, binary}
use Rattle.path_model.specs.Paths as paths
use Rattle.path_model.specs.Finds.{find}
use Rattle.path_model.specs.Programs.{looked}
use Rattle.xpath_plans.specs.Finds.{find_requests}

-- ---- labels, requests, paths

abbrev D : Label
D = 1 ∷ 1001 ∷ []

abbrev E : Label
E = 1 ∷ 1001 ∷ 1001 ∷ []

abbrev under : Label → ℕ → Label
under [] n = n ∷ []
under (x ∷ l) n = x ∷ under l n

-- a mode at a node, behind the intentions from the root down
abbrev at_document : Mode → List Request
at_document m = request (Node root) (ask.Node IR) ∷ request (Node D) (ask.Node m) ∷ []

abbrev at_element : Mode → List Request
at_element m = at_document IR ++ request (Node E) (ask.Node m) ∷ []

abbrev at_child : ℕ → Mode → List Request
at_child n m = at_element IR ++ request (Node (under E n)) (ask.Node m) ∷ []

abbrev at_grandchild : ℕ → Mode → List Request
at_grandchild n m = at_child n IR ++ request (Node (under (under E n) 1001)) (ask.Node m) ∷ []

-- an attribute of a child, and all of them
abbrev at_attribute : ℕ → Name → List Request
at_attribute n k = at_child n IR ++ request (AttrRoot (under E n)) (ask.Node IR) ∷ request (Attr (under E n) k) (ask.Node NR) ∷ []

abbrev at_attributes : ℕ → List Request
at_attributes n = at_child n IR ++ request (AttrRoot (under E n)) (ask.Node LR) ∷ []

abbrev absolute : Steps → Path
absolute ss = record { is_absolute = true; steps = ss }

abbrev relative : Steps → Path
relative ss = record { is_absolute = false; steps = ss }

abbrev named : Axis → List ℕ → Exprs → Steps → Steps
named a n es ss = step a (test.Name n) es ss

abbrev one : Expr → Exprs
one e = then_expr e no_more

abbrev document : Forest → Tree
document f = record { catalogue = (codes "x", D) ∷ []; documents = node D Document [] f none }

-- ---- an empty node set

-- ["a",["b",{"k":"1"}],["b",{"k":"2"}]]
abbrev two : Tree
two = document (node E (Element (codes "a")) [] (node (under E 1001) (Element (codes "b")) ((codes "k", codes "1") ∷ []) none (node (under E 1003) (Element (codes "b")) ((codes "k", codes "2") ∷ []) none none)) none)

-- //b[@k='1'][2]
abbrev second_b : Path
second_b = absolute (step axis.DescendantOrSelf test.Node no_more (named axis.Child (codes "b") (then_expr (binary Eq (path false (named axis.Attribute (codes "k") no_more no_steps)) (literal (codes "1"))) (one (paths.number (pos 2)))) no_steps))

-- the document is seen, looked for again by `/`, which asks nothing more, and looked at with all below it; then the children of each node, and the attribute of each b, also of the one that is dropped
asked_for_nothing_found : find_requests D second_b two
    ≡ at_document NR ++ at_document SR ++ at_document LR ++ at_element LR ++ at_attribute 1001 (codes "k") ++ at_attribute 1003 (codes "k") ++ at_child 1001 LR ++ at_child 1003 LR
asked_for_nothing_found = refl

-- so another one may not change an attribute in the document
empty_set_holds_the_document : bars (find_requests D second_b two) (request (Node D) (ask.Node IX)) ≡ true
empty_set_holds_the_document = refl

-- ---- what is looked at again

-- a step to all elements of the document, with these predicates
abbrev to_all : Exprs → Steps
to_all es = step axis.DescendantOrSelf test.Node no_more (step axis.Child test.Any es no_steps)

-- //*[//*[//*]]
abbrev nested : Path
nested = absolute (to_all (one (path true (to_all (one (path true (to_all no_more)))))))

-- the six looks of the last path are made again at each of three elements, and these at each of three again
nested_looks : length (looked two (find D nested)) ≡ 1 + (6 + 3 * (6 + 3 * 6))
nested_looks = refl

-- each asks once
nested_asks_once : find_requests D nested two
    ≡ at_document NR ++ at_document SR ++ at_document LR ++ at_element LR ++ at_child 1001 LR ++ at_child 1003 LR
nested_asks_once = refl

-- ---- what is missing

-- ["a",["b"],["c"],"x","y",["d"]]
abbrev mixed : Tree
mixed = document (node E (Element (codes "a")) [] (node (under E 1001) (Element (codes "b")) [] none (node (under E 1003) (Element (codes "c")) [] none
    (node (under E 1005) (Text (codes "x")) [] none (node (under E 1007) (Text (codes "y")) [] none (node (under E 1009) (Element (codes "d")) [] none none))))) none)

-- where no node has the label nothing else is asked for
missing_node : find_requests (under E 1011) second_b mixed ≡ at_child 1011 NR
missing_node = refl

-- a missing child asks as much as one that is there
child_there : find_requests E (relative (named axis.Child (codes "b") no_more no_steps)) mixed ≡ at_element NR ++ at_element LR
child_there = refl

missing_child : find_requests E (relative (named axis.Child (codes "z") no_more no_steps)) mixed ≡ at_element NR ++ at_element LR
missing_child = refl

-- and so does a missing attribute
missing_attribute : find_requests (under E 1001) (relative (named axis.Attribute (codes "k") no_more no_steps)) mixed ≡ at_child 1001 NR ++ at_attribute 1001 (codes "k")
missing_attribute = refl

any_attribute : find_requests (under E 1001) (relative (step axis.Attribute test.Any no_more no_steps)) mixed ≡ at_child 1001 NR ++ at_attributes 1001
any_attribute = refl

-- texts have none, and nothing is asked for them
attribute_of_a_text : find_requests (under E 1005) (relative (step axis.Attribute test.Any no_more no_steps)) mixed ≡ at_child 1005 NR
attribute_of_a_text = refl

-- ---- each axis

-- preceding-sibling::*[1] from d: the siblings are the parent's children
nearest_sibling : find_requests (under E 1009) (relative (step axis.PrecedingSibling test.Any (one (paths.number (pos 1))) no_steps)) mixed ≡ at_child 1009 NR ++ at_element LR
nearest_sibling = refl

text_children : find_requests E (relative (step axis.Child test.Text no_more no_steps)) mixed ≡ at_element NR ++ at_element LR
text_children = refl

-- each ancestor by itself, from the parent up
ancestors_one_by_one : find_requests (under E 1009) (relative (step axis.Ancestor test.Node no_more no_steps)) mixed ≡ at_child 1009 NR ++ at_element NR ++ at_document NR
ancestors_one_by_one = refl

parent_of_an_attribute : find_requests (under E 1001) (relative (named axis.Attribute (codes "k") no_more (step axis.Parent test.Node no_more no_steps))) two ≡ at_child 1001 NR ++ at_attribute 1001 (codes "k")
parent_of_an_attribute = refl

-- what follows and what precedes may lie in all of the document
following_asks_for_the_document : find_requests (under E 1009) (relative (step axis.Following test.Node no_more no_steps)) mixed ≡ at_child 1009 NR ++ at_document SR
following_asks_for_the_document = refl

-- ---- predicates

abbrev priced : Label → List ℕ → Forest → Forest
priced l p behind = node l (Element (codes "i")) [] (node (under l 1001) (Element (codes "price")) [] (node (under (under l 1001) 1001) (Text p) [] none none) none) behind

-- ["c",["i",["price","9"]],["i",["price"," 11 "]],["i",["price","1.5"]],["i",["price","abc"]]]
abbrev prices : Tree
prices = document (node E (Element (codes "c")) [] (priced (under E 1001) (codes "9") (priced (under E 1003) (codes " 11 ") (priced (under E 1005) (codes "1.5") (priced (under E 1007) (codes "abc") none)))) none)

-- /c/i[price > 10]
abbrev dear : Path
dear = absolute (named axis.Child (codes "c") no_more (named axis.Child (codes "i") (one (binary Gt (path false (named axis.Child (codes "price") no_more no_steps)) (paths.number (pos 10)))) no_steps))

-- each i's prices are looked for, and each price is looked at with all below it, though one i alone is found
dropped_nodes_are_asked_for : find_requests D dear prices
    ≡ at_document NR ++ at_document LR ++ at_element LR ++ at_child 1001 LR ++ at_grandchild 1001 SR ++ at_child 1003 LR ++ at_grandchild 1003 SR
    ++ at_child 1005 LR ++ at_grandchild 1005 SR ++ at_child 1007 LR ++ at_grandchild 1007 SR
dropped_nodes_are_asked_for = refl
