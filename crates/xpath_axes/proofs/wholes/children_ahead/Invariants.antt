use Rattle.std.proofs.Common.{◌≡◌, ◌++◌, drop}
use Rattle.std.specs.List.{filter}
use Rattle.path_model.specs.declared.path.Axis.TheVariants.{Child}
use Rattle.path_model.specs.Positions.{passes}
use Rattle.xpath_axes.specs.Positions.{all_plain}
use Rattle.xpath_axes.specs.inside.Ahead.{children_ahead}
use Rattle.xpath_axes.proofs.wholes.children_ahead.Given as goal

abbrev pub invariant-loop-position : goal.invariant-loop-position
invariant-loop-position l =
    all_plain l.found ++ filter (passes Child l.test) (children_ahead l.of (all_plain (drop l.position-index l.ahead))) ≡ filter (passes Child l.test) (children_ahead l.of (all_plain l.ahead))
