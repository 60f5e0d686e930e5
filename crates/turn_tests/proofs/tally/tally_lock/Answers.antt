use Rattle.std.proofs.Common.{◌∙◌, ap}
use Rattle.turn_lock.specs.Turns.{has_number}
use Rattle.turn_lock.proofs.Numbers.{all_there}
use Rattle.turn_tests.proofs.tally.tally_lock.Goals as goal

pub returns-in-Ok-clause-numbers : goal.returns-in-Ok-clause-numbers
returns-in-Ok-clause-numbers c = λ n l. ap (λ p. has_number p.has n) c.in-Ok.ensures.ok ∙ all_there n l
