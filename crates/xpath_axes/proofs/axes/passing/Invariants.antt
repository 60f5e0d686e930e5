use Rattle.std.proofs.Common.{◌≡◌}
use Rattle.std.specs.List.{filter}
use Rattle.path_model.specs.Positions.{passes}
use Rattle.xpath_axes.specs.Positions.{all_plain}
use Rattle.xpath_axes.proofs.axes.passing.Given as goal

abbrev pub invariant-loop-position : goal.invariant-loop-position
invariant-loop-position l = all_plain l.kept ≡ filter (passes l.axis l.test) (all_plain l.yielded)
