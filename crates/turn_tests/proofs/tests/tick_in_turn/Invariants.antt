use Rattle.std.proofs.Common.{◌≡◌, false}
use Rattle.turn_tests.proofs.tests.tick_in_turn.Given as goal

abbrev pub invariant-loop : goal.invariant-loop
invariant-loop g l = (l.pass.lock ≡ l.initial.pass.lock) × (l.pass.turn ≡ false)
