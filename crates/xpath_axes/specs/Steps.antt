-- Steps without predicates, from a position or over a row of nodes: all that passes their tests, or as much as there is room for.
use Rattle.std.specs.Prelude.{ℕ, List, take}
use Rattle.std.specs.List.{filter}
use Rattle.dewey_labels.specs.Labels.{Label}
use Rattle.tree_model.specs.Tree.{Tree}
use Rattle.path_model.specs.declared.path.Axis.{Axis}
use Rattle.path_model.specs.declared.path.Axis.TheVariants.{FollowingSibling}
use Rattle.path_model.specs.declared.path.NodeTest.{NodeTest}
use Rattle.path_model.specs.AxisPrograms.{along, on_right}
use Rattle.path_model.specs.Positions.{Position, passes}
use Rattle.path_model.specs.Programs.{Program, ends, and_then, at_row, seen}

-- ---- positions

-- the first of positions that pass the test of a step along an axis, as many as there is room for
abbrev pub first_passing : Axis → NodeTest → ℕ → List Position → List Position
first_passing axis test room ns = take room (filter (passes axis test) ns)

-- of a row the first nodes that pass, of those on the right of a label
abbrev pub next_passing : Label → NodeTest → ℕ → List Position → List Position
next_passing l test room row = first_passing FollowingSibling test room (filter (on_right l) row)

-- the children of the node with a label that lie on the right of another label
abbrev pub row_behind : Tree → Label → Label → List Position
row_behind t l k = filter (on_right k) (seen t (at_row l))

-- ---- programs

-- the positions on an axis that pass the test, in its order
abbrev pub matches_along : Axis → NodeTest → Position → Program (List Position)
matches_along axis test n = and_then (along axis test n) (λ s. ends (filter (passes axis test) s))

-- the first of these
abbrev pub step_up_to : Axis → NodeTest → ℕ → Position → Program (List Position)
step_up_to axis test room n = and_then (along axis test n) (λ s. ends (first_passing axis test room s))
