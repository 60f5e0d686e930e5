use Rattle.std.proofs.Common.{◌≡◌, length, nat_lt}
use Rattle.tx_core.specs.Queues.{times}
use Rattle.shared_store.proofs.desk.is_among.Given as goal

abbrev pub invariant-loop-other : goal.invariant-loop-other
invariant-loop-other l = nat_lt 0 (times l.session l.rest) ≡ nat_lt 0 (times l.session l.fn.waiting)

abbrev pub decreases-loop-other : goal.decreases-loop-other
decreases-loop-other l = length l.rest
