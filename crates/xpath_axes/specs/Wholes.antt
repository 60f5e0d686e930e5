-- Trees that were seen whole: a node and all that lie under it, in document order, as a step along `descendant-or-self` finds them.
use Rattle.std.specs.Prelude.{◌≡◌, List, ◌∷◌, ◌++◌}
use Rattle.tree_model.specs.Tree.{Tree}
use Rattle.tree_model.specs.ValidTrees.{IsValidTree}
use Rattle.path_model.specs.declared.path.Axis.TheVariants.{DescendantOrSelf}
use Rattle.path_model.specs.declared.path.NodeTest.TheVariants.{Node}
use Rattle.path_model.specs.AxisPrograms.{along}
use Rattle.path_model.specs.Positions.{Position}
use Rattle.path_model.specs.Programs.{answer}
use Rattle.xpath_axes.specs.declared.position.Position as found
use Rattle.xpath_axes.specs.Positions.{plain, all_plain}

-- the positions are all from some position down
abbrev pub IsWhole : Tree → List Position → Type 0
IsWhole t ns = (n : Position) × (ns ≡ answer t (along DescendantOrSelf Node n))

-- a position among them, and those that stand behind it
abbrev pub StandsBefore : Tree → Position → List Position → Type 0
StandsBefore t m ahead = (before : List Position) × IsWhole t (before ++ m ∷ ahead)

-- this holds on each valid tree that was seen whole, with this position before those ahead
abbrev pub OnWhole : found.Position → List found.Position → (Tree → Type 0) → Type 0
OnWhole m ahead holds = (t : Tree) → IsValidTree t → StandsBefore t (plain m) (all_plain ahead) → holds t
