use Rattle.std.proofs.Common.{◌≡◌}
use Rattle.turn_lock.proofs.lock.TurnLock.take_soon.Given as goal

abbrev pub invariant-loop-look : goal.invariant-loop-look
invariant-loop-look g l = l.pass ≡ l.initial.pass
