use Rattle.std.proofs.Common.{rules, ap}
use Rattle.turn_tests.proofs.Tallies.{ticked}
use Rattle.turn_tests.proofs.tally.take_and_tick.Goals as goal

pub give-requires-clause-grew : goal.give-requires-clause-grew
give-requires-clause-grew g c = ticked c.take-turn.new.pass.has _ _ _ (ap (λ p. p.seen) c.take-turn.ensures.pass) (search rules)
