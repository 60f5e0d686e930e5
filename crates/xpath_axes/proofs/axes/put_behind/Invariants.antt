use Rattle.std.proofs.Common.{◌≡◌, ◌++◌}
use Rattle.xpath_axes.proofs.axes.put_behind.Given as goal

abbrev pub invariant-loop-position : goal.invariant-loop-position
invariant-loop-position l = l.found ≡ l.fn.found ++ l.yielded
