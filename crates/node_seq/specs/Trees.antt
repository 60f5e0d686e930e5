-- Which tree a map stands for, where the map is known: by it calls over maps are measured by the calls on the tree.
use Rattle.std.specs.Prelude.{◌≡◌, Option, Some, Result, IfOk}
use Rattle.tree_model.specs.Entries.{Entries}
use Rattle.tree_model.specs.Tree.{Tree, map_of}
use Rattle.tree_model.specs.ValidTrees.{IsValidTree}

-- a known map is that of this valid tree
pub record StandsFor (contents : Option Entries) (t : Tree) : Type 0 where
  pub valid : IsValidTree t
  pub map : contents ≡ Some (map_of t)

-- whichever valid tree the known map stands for, the result is right of it
abbrev pub OnTree : {A E : Type 0} → Option Entries → Result A E → (Tree → A → Type 0) → Type 0
OnTree contents result P = IfOk result (λ r. (t : Tree) → StandsFor contents t → P t r)
