use Rattle.std.proofs.Common.{◌≡◌, length}
use Rattle.workers_text.specs.inside.Ordering.{OrderedSoFar}
use Rattle.workers_text.proofs.order.order_line.Given as goal

abbrev pub invariant-loop-noted : goal.invariant-loop-noted
invariant-loop-noted g l = OrderedSoFar l.fn.book l.noted-index l.live l.order × (length l.live ≡ 65)
