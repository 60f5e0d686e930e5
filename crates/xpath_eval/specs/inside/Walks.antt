-- Paths that begin with `//`: what one walk finds.
use Rattle.std.specs.Prelude.{◌≡◌, ◌≤◌, ℕ, Bool, true, false}
use Rattle.dewey_labels.specs.Labels.{Label}
use Rattle.tree_model.specs.Tree.{Tree}
use Rattle.tree_model.specs.ValidTrees.{IsValidTree}
use Rattle.path_model.specs.declared.path.Axis.TheVariants.{Child, Descendant, DescendantOrSelf}
use Rattle.path_model.specs.declared.path.NodeTest.TheVariants.{Node}
use Rattle.path_model.specs.declared.path.Step.{Step, out-Step}
use Rattle.path_model.specs.declared.path.Op.{Op}
use Rattle.path_model.specs.declared.path.Op.TheVariants as op
use Rattle.path_model.specs.Evaluation.{value}
use Rattle.path_model.specs.Finds.{find}
use Rattle.path_model.specs.Functions.{Context, keeps}
use Rattle.path_model.specs.Paths.{Expr, Exprs, no_more, then_expr, Path}
use Rattle.path_model.specs.PlainPaths.{plain_row}
use Rattle.path_model.specs.Positions.{Position}
use Rattle.path_model.specs.Programs.{answer, looked}
use Rattle.path_model.specs.Values.{truth}
use Rattle.xpath_axes.specs.Runs.{reads_of}

-- a node by itself
abbrev pub alone : Position → Context
alone n = record { at = n; proximity = 1; size = 1 }

-- an expression that hangs on no position, and isn't a number: as a predicate it is true or false at a node
pub record IsFree (e : Expr) : Type 0 where
  pub same : (c : Context) → value e c ≡ value e (alone c.at)
  pub whole : (t : Tree) (c : Context) (p : ℕ) → keeps (answer t (value e c)) p ≡ truth (answer t (value e c))

-- an expression whose value hangs on no position
abbrev pub IsSimple : Expr → Type 0
IsSimple e = (c : Context) → value e c ≡ value e (alone c.at)

-- the operators that compare
abbrev pub is_comparison : Op → Bool
is_comparison op.Eq = true
is_comparison op.Ne = true
is_comparison op.Lt = true
is_comparison op.Le = true
is_comparison op.Gt = true
is_comparison op.Ge = true
is_comparison o = false

-- each of them
abbrev pub AreFree : Exprs → Type 0
AreFree no_more = Unit {0}
AreFree (then_expr e es) = IsFree e × AreFree es

-- a step without predicates to all from a node down
pub record LeadsToAll (s : Step) : Type 0 where
  pub axis : (out-Step s).axis ≡ DescendantOrSelf
  pub test : (out-Step s).test ≡ Node
  pub tests : plain_row (out-Step s).tests ≡ no_more

-- a step to children, whatever their positions are
pub record LeadsToChildren (s : Step) : Type 0 where
  pub axis : (out-Step s).axis ≡ Child
  pub tests : AreFree (plain_row (out-Step s).tests)

-- the step to the descendants with the same test and predicates
pub record IsWalkFor (child walk : Step) : Type 0 where
  pub axis : (out-Step walk).axis ≡ Descendant
  pub test : (out-Step walk).test ≡ (out-Step child).test
  pub tests : (out-Step walk).tests ≡ (out-Step child).tests

-- the second path finds what the first one finds, with no more reads
pub record FindsTheSame (p q : Path) : Type 0 where
  pub same : (t : Tree) (l : Label) → IsValidTree t → answer t (find l q) ≡ answer t (find l p)
  pub fewer : (t : Tree) (l : Label) → IsValidTree t → reads_of t (looked t (find l q)) ≤ reads_of t (looked t (find l p))
