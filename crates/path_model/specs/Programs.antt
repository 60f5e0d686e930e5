-- Looks at a tree, and programs that go on by what they see: by one of them a path is evaluated, in one order, whatever is asked for a look.
use Rattle.std.specs.Prelude.{ℕ, List, [], ◌∷◌, ◌++◌, Option, None, Some}
use Rattle.dewey_labels.specs.Labels.{Label}
use Rattle.tree_model.specs.Names.{Name}
use Rattle.tree_model.specs.Tree.{Forest, none, node, Tree, at, below, attributes_of, beside}
use Rattle.path_model.specs.Positions.{Position, a_node, an_attribute, attributes_at}

-- ---- looks

-- at a node, its children, all from it down, all its attributes, one of them
pub data Look : Type 0 where
  at_node at_row at_tree at_attributes : Label → Look
  at_attribute : Label → Name → Look

-- the node of the first tree
abbrev pub head_seen : Forest → List Position
head_seen none = []
head_seen (node l r ats ch nx) = a_node l r ∷ []

-- the nodes of a row
abbrev pub row_seen : Forest → List Position
row_seen none = []
row_seen (node l r ats ch nx) = a_node l r ∷ row_seen nx

-- all nodes of a forest, in document order
abbrev pub all_seen : Forest → List Position
all_seen none = []
all_seen (node l r ats ch nx) = (a_node l r ∷ all_seen ch) ++ all_seen nx

-- those of its first tree
abbrev pub tree_seen : Forest → List Position
tree_seen none = []
tree_seen (node l r ats ch nx) = a_node l r ∷ all_seen ch

-- an attribute that may be missing
abbrev pub value_seen : Label → Name → Option (List ℕ) → List Position
value_seen l n None = []
value_seen l n (Some v) = an_attribute l n v ∷ []

-- what is seen
abbrev pub seen : Tree → Look → List Position
seen t (at_node l) = head_seen (at l t.documents)
seen t (at_row l) = row_seen (below (at l t.documents))
seen t (at_tree l) = tree_seen (at l t.documents)
seen t (at_attributes l) = attributes_at l (attributes_of (at l t.documents))
seen t (at_attribute l n) = value_seen l n (beside n (attributes_of (at l t.documents)))

-- ---- programs

-- a program ends with an answer, or looks and goes on by what it sees
pub data Program (A : Type 0) : Type 0 where
  ends : A → Program A
  looks : Look → (List Position → Program A) → Program A

-- a program of one look, and what it answers of what is seen
abbrev pub by_look : {A : Type 0} → Look → (List Position → A) → Program A
by_look o shows = looks o (λ s. ends (shows s))

-- one program, and then one by its answer
abbrev pub and_then : {A B : Type 0} → Program A → (A → Program B) → Program B
and_then (ends a) f = f a
and_then (looks o k) f = looks o (λ s. and_then (k s) f)

-- its answer on a tree
abbrev pub answer : {A : Type 0} → Tree → Program A → A
answer t (ends a) = a
answer t (looks o k) = answer t (k (seen t o))

-- what it looks at on a tree, in order
abbrev pub looked : {A : Type 0} → Tree → Program A → List Look
looked t (ends a) = []
looked t (looks o k) = o ∷ looked t (k (seen t o))

-- a program for each item, one after another; their answers one behind another
abbrev pub gathered : {A B : Type 0} → (A → Program (List B)) → List A → Program (List B)
gathered f [] = ends []
gathered f (x ∷ xs) = and_then (f x) (λ ys. and_then (gathered f xs) (λ zs. ends (ys ++ zs)))
