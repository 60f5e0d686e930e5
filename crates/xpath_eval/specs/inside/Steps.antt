-- Steps, each from one node, and paths.
use Rattle.std.specs.Prelude.{◌≡◌, ℕ, Bool, IsTrue, List, Option, Result, length}
use Rattle.std.specs.List.{filter}
use Rattle.tree_model.specs.Entries.{Entries}
use Rattle.tree_model.specs.Tree.{Tree}
use Rattle.node_seq.specs.Trees.{OnTree}
use Rattle.path_model.specs.declared.path.Axis.TheVariants.{DescendantOrSelf}
use Rattle.path_model.specs.declared.path.NodeTest.TheVariants.{Node}
use Rattle.path_model.specs.declared.path.Expr.{Expr}
use Rattle.path_model.specs.declared.path.Step.{Step, out-Step}
use Rattle.path_model.specs.AxisPrograms.{along}
use Rattle.path_model.specs.Evaluation.{filtered, find_from, kept_by, value}
use Rattle.path_model.specs.Paths.{Path, no_more}
use Rattle.path_model.specs.PlainPaths.{plain, plain_row}
use Rattle.path_model.specs.Positions.{Position, passes}
use Rattle.path_model.specs.Programs.{Look, Program, and_then, gathered}
use Rattle.xpath_axes.specs.declared.position.Position as found
use Rattle.xpath_axes.specs.Positions.{all_plain}
use Rattle.xpath_axes.specs.Runs.{HasRun}
use Rattle.xpath_axes.specs.Wholes.{IsWhole}

-- a step from one node: what its predicates keep of its axis
abbrev pub from_node : Step → Position → Program (List Position)
from_node s n = and_then (along (out-Step s).axis (out-Step s).test n) (λ ms. filtered (plain_row (out-Step s).tests) (filter (passes (out-Step s).axis (out-Step s).test) ms))

-- the nodes of a row that are kept where a predicate holds
abbrev pub kept_where : Expr → List Position → Program (List Position)
kept_where test ns = kept_by (λ c. value (plain test) c) (length ns) 1 ns

-- a path from a position
abbrev pub from_path : Path → Position → Program (List Position)
from_path p n = find_from p.is_absolute p.steps n

-- a step without predicates from one position to all from it down
pub record LeadsDown (s : Step) (ns : List Position) : Type 0 where
  pub axis : (out-Step s).axis ≡ DescendantOrSelf
  pub test : (out-Step s).test ≡ Node
  pub tests : plain_row (out-Step s).tests ≡ no_more
  pub alone : length ns ≡ 1

-- a map is read, and the looks are noted
module _ {S W : Type 0} (reads : S → ℕ) (saw : Tree → W → List Look → W → Type 0) where
  -- a step from each position was run on each valid tree that the known map stands for; where it is said that the positions are
  -- all from one down, on each of which this is so
  abbrev pub StepsOver : {E : Type 0} → (S → Option Entries) → Bool → Step → List found.Position → S → W → Result (List found.Position) E → S → W → Type 0
  StepsOver contents is_whole step from s w result s' w' =
      OnTree (contents s) result (λ t all. (IsTrue is_whole → IsWhole t (all_plain from)) → HasRun reads saw t (gathered (from_node step) (all_plain from)) (all_plain all) s w s' w')
