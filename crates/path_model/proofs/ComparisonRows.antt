-- Worked rows: comparisons of node sets, which hold where they do of some node or pair and not of the first alone (XPath 1.0, section 3.4), and values in predicates.
use Rattle.std.proofs.Common.{◌≡◌, true, false, List, [], ◌∷◌, refl, Some}
use Rattle.std.specs.Prelude.{codes, pos}
use Rattle.dewey_labels.specs.Labels.{Label}
use Rattle.tree_model.specs.declared.record.Record.TheVariants.{Document, Element}
use Rattle.tree_model.specs.Tree.{none, node, Tree}
use Rattle.path_model.specs.declared.path.Axis.TheVariants.{Child, Attribute}
use Rattle.path_model.specs.declared.path.NodeTest.TheVariants as test
use Rattle.path_model.specs.declared.path.Op.TheVariants as op
use Rattle.path_model.specs.declared.path.Op.{Op}
use Rattle.path_model.specs.Evaluation.{value}
use Rattle.path_model.specs.Meaning.{value_in}
use Rattle.path_model.specs.Paths.{Expr, path, literal, apply, no_more, then_expr, no_steps, step, binary}
use Rattle.path_model.specs.Paths as paths
use Rattle.path_model.specs.Positions.{Position, a_node}
use Rattle.path_model.specs.Programs.{Look, at_row, at_attribute, looked}
use Rattle.path_model.specs.Functions.{Value}
use Rattle.path_model.specs.Values.{flag, text}
use Rattle.path_model.specs.Values as values

-- ---- ["a",["b",{"k":"1"}],["b",{"k":"2"}]], seen from a

abbrev D : Label
D = 1 ∷ 1001 ∷ []

abbrev A : Label
A = 1 ∷ 1001 ∷ 1001 ∷ []

abbrev B1 : Label
B1 = 1 ∷ 1001 ∷ 1001 ∷ 1001 ∷ []

abbrev B2 : Label
B2 = 1 ∷ 1001 ∷ 1001 ∷ 1003 ∷ []

abbrev tree : Tree
tree = record {
  catalogue = (codes "m", D) ∷ [];
  documents = node D Document [] (node A (Element (codes "a")) [] (node B1 (Element (codes "b")) ((codes "k", codes "1") ∷ []) none (node B2 (Element (codes "b")) ((codes "k", codes "2") ∷ []) none none)) none) none;
}

abbrev at_a : Position
at_a = a_node A (Element (codes "a"))

abbrev worth : Expr → Value
worth e = value_in tree e (record { at = at_a; proximity = 1; size = 1 })

-- b/@k, b[2]/@k, and c, which is empty
abbrev ks : Expr
ks = path false (step Child (test.Name (codes "b")) no_more (step Attribute (test.Name (codes "k")) no_more no_steps))

abbrev second_k : Expr
second_k = path false (step Child (test.Name (codes "b")) (then_expr (paths.number (pos 2)) no_more) (step Attribute (test.Name (codes "k")) no_more no_steps))

abbrev cs : Expr
cs = path false (step Child (test.Name (codes "c")) no_more no_steps)

abbrev call : Op → Expr → Expr
call o e = apply o (then_expr e no_more)

-- ---- of some node: each of these is false of the first k alone, which is 1

equal_to_some : worth (binary op.Eq ks (literal (codes "2"))) ≡ flag true
equal_to_some = refl

unlike_some : worth (binary op.Ne ks (literal (codes "1"))) ≡ flag true
unlike_some = refl

above_some : worth (binary op.Gt ks (paths.number (pos 1))) ≡ flag true
above_some = refl

some_below : worth (binary op.Lt (paths.number (pos 1)) ks) ≡ flag true
some_below = refl

-- of some pair: the first ones differ
some_pair : worth (binary op.Eq ks second_k) ≡ flag true
some_pair = refl

-- and so both of a test and its contrary hold
equal_too : worth (binary op.Eq ks (literal (codes "1"))) ≡ flag true
equal_too = refl

-- ---- of no node

equal_to_none : worth (binary op.Eq ks (literal (codes "3"))) ≡ flag false
equal_to_none = refl

none_equal : worth (binary op.Eq cs (literal [])) ≡ flag false
none_equal = refl

none_unlike : worth (binary op.Ne cs (literal [])) ≡ flag false
none_unlike = refl

no_pair : worth (binary op.Ne cs ks) ≡ flag false
no_pair = refl

-- ---- with a boolean a node set is one itself

filled_is_true : worth (binary op.Eq ks (apply op.TrueOf no_more)) ≡ flag true
filled_is_true = refl

empty_is_false : worth (binary op.Eq cs (apply op.FalseOf no_more)) ≡ flag true
empty_is_false = refl

-- ---- turned into a string or a number it is its first node alone

first_text : worth (call op.StringOf ks) ≡ text (codes "1")
first_text = refl

first_number : worth (binary op.Add ks (paths.number (pos 1))) ≡ values.number (Some (pos 2))
first_number = refl

all_added : worth (call op.Sum ks) ≡ values.number (Some (pos 3))
all_added = refl

no_text : worth (call op.StringOf cs) ≡ text []
no_text = refl

-- ---- what isn't needed isn't looked at

abbrev seen_for : Expr → List Look
seen_for e = looked tree (value e (record { at = at_a; proximity = 1; size = 1 }))

-- the left side decides
left_alone : seen_for (binary op.Or (binary op.Eq ks (literal (codes "2"))) cs) ≡ at_row A ∷ at_attribute B1 (codes "k") ∷ at_attribute B2 (codes "k") ∷ []
left_alone = refl

-- it doesn't
both_sides : seen_for (binary op.And (binary op.Eq ks (literal (codes "2"))) cs) ≡ at_row A ∷ at_attribute B1 (codes "k") ∷ at_attribute B2 (codes "k") ∷ at_row A ∷ []
both_sides = refl

-- a number of nodes needs no string-value
only_counted : seen_for (call op.Count (path false (step Child test.Any no_more no_steps))) ≡ at_row A ∷ []
only_counted = refl
