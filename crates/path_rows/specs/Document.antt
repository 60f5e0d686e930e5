-- The small document, the places of its positions, and what a path finds in it.
use Rattle.std.specs.Prelude.{◌≡◌, ℕ, Bool, not, List, [], ◌∷◌, map, codes}
use Rattle.std.specs.List.{prefix_len}
use Rattle.dewey_labels.specs.Labels.{Label}
use Rattle.tree_model.specs.declared.record.Record.TheVariants.{Document, Element, Text}
use Rattle.tree_model.specs.Tree.{Attributes, Forest, none, node, Tree}
use Rattle.path_model.specs.Evaluation.{find_from}
use Rattle.path_model.specs.Meaning.{found_from}
use Rattle.path_model.specs.Paths.{Steps}
use Rattle.path_model.specs.Positions.{Position, a_node, positions, is_same}
use Rattle.path_model.specs.Programs.{answer}

-- the document
abbrev pub d : Label
d = 1 ∷ 1001 ∷ []

-- its element
abbrev pub a : Label
a = 1 ∷ 1001 ∷ 1001 ∷ []

-- a label with one division more
abbrev pub under : Label → ℕ → Label
under [] n = n ∷ []
under (x ∷ l) n = x ∷ under l n

-- an attribute k
abbrev k : List ℕ → Attributes
k v = (codes "k", v) ∷ []

-- the c below a
abbrev pub c : Label
c = under a 1003

-- the last b below that
abbrev pub last_b : Label
last_b = under c 1007

-- ["a",{"k":"1"},["b",{"k":"1","m":"x"},"t"],["c",["b",{"k":"2"},"12"],["d"],"u",["b",{"k":"10"},["e","7"],"z"]],"v",["b",{"k":"3"}],["f",{"k":"b"}," 5 "]]
abbrev below_last_b : Forest
below_last_b =
    node (under last_b 1001) (Element (codes "e")) [] (node (under (under last_b 1001) 1001) (Text (codes "7")) [] none none)
    (node (under last_b 1003) (Text (codes "z")) [] none none)

abbrev below_c : Forest
below_c =
    node (under c 1001) (Element (codes "b")) (k (codes "2")) (node (under (under c 1001) 1001) (Text (codes "12")) [] none none)
    (node (under c 1003) (Element (codes "d")) [] none
    (node (under c 1005) (Text (codes "u")) [] none
    (node last_b (Element (codes "b")) (k (codes "10")) below_last_b none)))

abbrev below_a : Forest
below_a =
    node (under a 1001) (Element (codes "b")) ((codes "k", codes "1") ∷ (codes "m", codes "x") ∷ []) (node (under (under a 1001) 1001) (Text (codes "t")) [] none none)
    (node c (Element (codes "c")) [] below_c
    (node (under a 1005) (Text (codes "v")) [] none
    (node (under a 1007) (Element (codes "b")) (k (codes "3")) none
    (node (under a 1009) (Element (codes "f")) (k (codes "b")) (node (under (under a 1009) 1001) (Text (codes " 5 ")) [] none none) none))))

abbrev pub small : Tree
small = record { catalogue = (codes "small", d) ∷ []; documents = node d Document [] (node a (Element (codes "a")) (k (codes "1")) below_a none) none }

-- ---- rows

-- a path, and the places of what it finds, counted from 0 among all positions of the document, itself the first
pub record Row : Type 0 where
  pub is_absolute : Bool
  pub steps : Steps
  pub places : List ℕ

abbrev pub row : Bool → Steps → List ℕ → Row
row is_absolute ss ns = record { is_absolute = is_absolute; steps = ss; places = ns }

abbrev place_of : Position → ℕ
place_of n = prefix_len (λ m. not (is_same m n)) (positions small)

-- what its path means from the document, and what its program answers
abbrev pub meant : Row → List ℕ
meant r = map place_of (found_from small r.is_absolute r.steps (a_node d Document))

abbrev pub answered : Row → List ℕ
answered r = map place_of (answer small (find_from r.is_absolute r.steps (a_node d Document)))

-- each row's path finds the places that stand there, in document order
abbrev pub AllFind : (Row → List ℕ) → List Row → Type 0
AllFind found rows = map found rows ≡ map (λ r. r.places) rows
