use Rattle.std.proofs.Common.{◌≡◌}
use Rattle.shared_store.specs.Sessions.{having_seen}
use Rattle.shared_cases.proofs.moves.move_often.Given as goal

abbrev pub invariant-loop-time : goal.invariant-loop-time
invariant-loop-time g l = l.port ≡ having_seen l.port.seen l.initial.port
