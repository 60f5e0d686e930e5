-- The requests of a path: one for each look of its program, with its intentions before it, in the order of the looks (docs/PROFILE.md, "Requests of calls").
use Rattle.std.specs.Prelude.{List, [], ◌∷◌, ◌++◌}
use Rattle.lock_modes.specs.declared.ask.Ask.{Ask}
use Rattle.lock_modes.specs.declared.ask.Ask.TheVariants as ask
use Rattle.lock_modes.specs.declared.mode.Mode.TheVariants.{NR, LR, SR}
use Rattle.lock_resources.specs.declared.resource.Resource.{Resource}
use Rattle.lock_resources.specs.declared.resource.Resource.TheVariants.{Node, AttrRoot, Attr}
use Rattle.lock_resources.specs.declared.request.Request.{Request}
use Rattle.lock_resources.specs.Intentions.{with_intentions}
use Rattle.tree_model.specs.Tree.{Tree}
use Rattle.path_model.specs.declared.path.Axis.{Axis}
use Rattle.path_model.specs.declared.path.NodeTest.{NodeTest}
use Rattle.path_model.specs.Evaluation.{taken}
use Rattle.path_model.specs.Paths.{bare_step}
use Rattle.path_model.specs.Positions.{Position}
use Rattle.path_model.specs.Programs.{Look, at_node, at_row, at_tree, at_attributes, at_attribute, Program, looked}
use Rattle.xpath_plans.specs.OnceNoted.{once}

-- where a look asks: at the node, at its attributes, or at one of them
abbrev pub resource_of : Look → Resource
resource_of (at_node l) = Node l
resource_of (at_row l) = Node l
resource_of (at_tree l) = Node l
resource_of (at_attributes l) = AttrRoot l
resource_of (at_attribute l n) = Attr l n

-- what it asks for: to read a node, a level or a subtree; all attributes are a level, and one is like a node
abbrev pub mode_of : Look → Ask
mode_of (at_node l) = ask.Node NR
mode_of (at_row l) = ask.Node LR
mode_of (at_tree l) = ask.Node SR
mode_of (at_attributes l) = ask.Node LR
mode_of (at_attribute l n) = ask.Node NR

-- what looks ask for
abbrev pub requests_of : List Look → List Request
requests_of [] = []
requests_of (o ∷ os) = with_intentions (resource_of o) (mode_of o) ++ requests_of os

-- what a program asks for on a tree, with each look as often as it is made
abbrev pub requests : {A : Type 0} → Tree → Program A → List Request
requests t p = requests_of (looked t p)

-- what it asks for with each look once
abbrev pub requests_once : {A : Type 0} → Tree → Program A → List Request
requests_once t p = requests_of (once [] (looked t p))

-- what a step without predicates on an axis asks for, from each of these positions
abbrev pub requests_on : Tree → Axis → NodeTest → List Position → List Request
requests_on t axis test ns = requests t (taken (bare_step axis test) ns)
