use Rattle.std.proofs.Common.{◌≡◌, false}
use Rattle.turn_tests.proofs.tally.tick_when.Given as goal

abbrev pub invariant-loop : goal.invariant-loop
invariant-loop g l = (goal.iterator-loop g).can_next l.iterator' × (goal.iterator-loop g).is_finite l.iterator' × (l.pass.lock ≡ l.initial.pass.lock) × (l.pass.turn ≡ false) × (l.pass.has ≡ l.initial.pass.has)
