use Rattle.std.proofs.Common.{◌≡◌}
use Rattle.shared_store.specs.Sessions.{having_seen}
use Rattle.shared_cases.proofs.moves.sum_of.Given as goal

abbrev pub invariant-loop-index : goal.invariant-loop-index
invariant-loop-index g l = l.port ≡ having_seen l.port.seen l.initial.port
