-- Changes of a tree at one place (docs/PROFILE.md, "The tree").
use Rattle.dewey_labels.specs.Labels.{Label}
use Rattle.std.specs.Cmp.Lexicographic.{slice_cmp}
use Rattle.std.specs.Ordering.{is_eq, nat_cmp}
use Rattle.std.specs.Prelude.{List, [], if◌then◌else◌, ◌∷◌}
use Rattle.tree_model.specs.Names.{Name}
use Rattle.tree_model.specs.Orders.{by_order}
use Rattle.tree_model.specs.Tree.{Attributes, Forest, Tree, edit, node, none}
use Rattle.tree_model.specs.declared.record.Record.{Record}

-- ---- lists by name

-- the list with this value beside this name, by the bytes of names
abbrev pub with_entry : {A : Type 0} → Name → A → List (Name × A) → List (Name × A)
with_entry n x [] = (n, x) ∷ []
with_entry n x (a ∷ ats) = by_order (slice_cmp nat_cmp n a.0) ((n, x) ∷ a ∷ ats) ((n, x) ∷ ats) (a ∷ with_entry n x ats)

-- the list without a name
abbrev pub without_entry : {A : Type 0} → Name → List (Name × A) → List (Name × A)
without_entry n [] = []
without_entry n (a ∷ ats) = if is_eq (slice_cmp nat_cmp n a.0) then ats else a ∷ without_entry n ats

-- ---- one node

-- the tree with the node of a label, and the trees behind it, changed
abbrev pub edited : Label → (Forest → Forest) → Tree → Tree
edited l h t = record { catalogue = t.catalogue; documents = edit l h t.documents }

-- a node with another record
abbrev pub with_record : Record → Forest → Forest
with_record r none = none
with_record r (node l old ats ch nx) = node l r ats ch nx

-- a node with other attributes
abbrev pub with_attributes : Attributes → Forest → Forest
with_attributes ats none = none
with_attributes ats (node l r old ch nx) = node l r ats ch nx

-- a node with other children
abbrev pub with_children : Forest → Forest → Forest
with_children ch none = none
with_children ch (node l r ats old nx) = node l r ats ch nx
