use Rattle.std.proofs.Common.{◌≡◌, false}
use Rattle.turn_tests.proofs.tally.take_often.Given as goal

abbrev pub invariant-loop : goal.invariant-loop
invariant-loop g l = (l.pass.lock ≡ l.initial.pass.lock) × (l.pass.turn ≡ false)
