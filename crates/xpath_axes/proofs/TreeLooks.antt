-- The looks at nodes below a node, of what was read of the node and of what its walk met.
use Rattle.std.proofs.Common.{◌≡◌, true, false, List, [], ◌∷◌, Option, None, Some, Result, Ok, Err, IfOk, refl, sym, ap, ◌∙◌}
use Rattle.dewey_labels.specs.Labels.{Label}
use Rattle.tree_model.specs.declared.record.Record.{Record}
use Rattle.tree_model.specs.Keys.{node_key}
use Rattle.tree_model.specs.Entries.{Entries, get}
use Rattle.tree_model.specs.Places.{is_root}
use Rattle.tree_model.specs.Tree.{Forest, none, node, Tree, map_of, at, found, below, head_label, record_of}
use Rattle.tree_model.specs.ValidTrees.{IsValidTree}
use Rattle.tree_model.proofs.Found.{some_is, at_label}
use Rattle.tree_model.proofs.PlaceLaws.{not_root}
use Rattle.tree_model.proofs.WholeTree.{get_node}
use Rattle.node_seq.specs.Trees.{OnTree, StandsFor}
use Rattle.path_model.specs.Positions.{Position, a_node}
use Rattle.path_model.specs.Programs.{all_seen, tree_seen}

-- ---- results

module _ {A E : Type 0} where
  pub on_tree : (P Q : Tree → A → Type 0) (was now : Option Entries) (r : Result A E) → ((t : Tree) (a : A) → StandsFor was t → (StandsFor now t → P t a) → Q t a) → OnTree now r P → OnTree was r Q
  on_tree P Q was now (Ok a) f h = λ t s. f t a s (h t)
  on_tree P Q was now (Err e) f h = tt

  pub if_ok : (P Q : A → Type 0) (r : Result A E) → ((a : A) → P a → Q a) → IfOk r P → IfOk r Q
  if_ok P Q (Ok a) f h = f a h
  if_ok P Q (Err e) f h = tt

-- a map that is unchanged stands for the same tree
pub later : (was now : Option Entries) (t : Tree) → now ≡ was → StandsFor was t → StandsFor now t
later was now t e s = record { valid = s.valid; map = e ∙ s.map }

-- ---- a tree by its node

-- what is seen of a tree, by the record that was read of its node
abbrev pub tree_from : Label → Option Record → Forest → List Position
tree_from l None f = []
tree_from l (Some r) f = a_node l r ∷ all_seen (below f)

pub tree_is : (l : Label) (t : Tree) (o : Option Record) → IsValidTree t → o ≡ get (node_key l) (map_of t) → tree_from l o (at l t.documents) ≡ tree_seen (at l t.documents)
tree_is l t o w h = ap (λ r. tree_from l r (at l t.documents)) (h ∙ get_node l t w) ∙ by (at l t.documents) (at_label l t.documents)
  where
    by : (f : Forest) → (found f ≡ true → head_label f ≡ Some l) → tree_from l (record_of f) f ≡ tree_seen f
    by none q = refl
    by (node m r ats ch nx) q = ap (λ (k : Label). a_node k r ∷ all_seen ch) (sym (some_is m l (q refl)))

-- a node whose record was read isn't the root
pub is_no_root : (l : Label) (t : Tree) (r : Record) → IsValidTree t → Some r ≡ get (node_key l) (map_of t) → is_root l ≡ false
is_no_root l t r w h = not_root l t w (by (at l t.documents) (h ∙ get_node l t w))
  where
    by : (f : Forest) → Some r ≡ record_of f → found f ≡ true
    by none q = cc
    by (node m s ats ch nx) q = refl
