use Rattle.std.proofs.Common.{◌≡◌}
use Rattle.std.specs.List.{filter}
use Rattle.xpath_axes.specs.Positions.{all_plain}
use Rattle.xpath_axes.specs.inside.Beside.{is_on}
use Rattle.xpath_axes.proofs.axes.on_side.Given as goal

abbrev pub invariant-loop-position : goal.invariant-loop-position
invariant-loop-position l = all_plain l.kept ≡ filter (is_on l.side l.of) (all_plain l.yielded)
