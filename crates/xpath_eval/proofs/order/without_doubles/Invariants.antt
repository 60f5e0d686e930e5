use Rattle.std.proofs.Common.{◌≡◌, ◌++◌, List, length, reverse}
use Rattle.xpath_axes.specs.declared.position.Position.{Position}
use Rattle.xpath_axes.specs.Positions.{all_plain}
use Rattle.xpath_eval.specs.inside.Orders.{thinned}
use Rattle.xpath_eval.proofs.order.without_doubles.Given as goal

abbrev pub invariant-loop-position : goal.invariant-loop-position
invariant-loop-position l = (done : List Position) × (l.fn.sorted ≡ l.left ++ done) × (reverse (all_plain l.kept) ≡ thinned (all_plain done))

abbrev pub decreases-loop-position : goal.decreases-loop-position
decreases-loop-position l = length l.left
