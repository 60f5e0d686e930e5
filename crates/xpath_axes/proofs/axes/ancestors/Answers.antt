use Rattle.std.proofs.Common.{◌≡◌, ◌++◌, refl, ap, ◌∙◌}
use Rattle.path_model.specs.AxisPrograms.{nodes_at, ancestor_nodes}
use Rattle.path_model.specs.Positions.{Position, a_node, an_attribute}
use Rattle.path_model.specs.Programs.{ends, and_then}
use Rattle.xpath_axes.specs.Positions.{plain, all_plain}
use Rattle.xpath_axes.specs.inside.Beside.{labels_above}
use Rattle.xpath_axes.proofs.Running.{runs_as}
use Rattle.xpath_axes.proofs.axes.ancestors.Goals as goal

nodes_above : (n : Position) → nodes_at (labels_above n) ≡ ancestor_nodes n
nodes_above (a_node l r) = refl
nodes_above (an_attribute l n v) = refl

pub returns-clause-run : goal.returns-clause-run
returns-clause-run g c =
    runs_as g.S.NodeRead.reads g.W.Looks.saw g.S.NodeRead.contents all_plain c.args.seq.now c.args.looks.now c.nodes_at.result c.nodes_at.new.seq c.nodes_at.new.looks
    (ap (λ p. and_then p (λ s. ends (all_plain c.args.before ++ s)))
    (ap nodes_at (c.as_slice.ensures ∙ c.in_ok-labels.ensures) ∙ nodes_above (plain c.args.from.now))) c.nodes_at.ensures.run
