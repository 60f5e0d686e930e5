use Rattle.std.proofs.Common.{arith, ap}
use Rattle.turn_tests.proofs.Tallies.{below_stay, some_stays}
use Rattle.turn_tests.proofs.tally.cut.Goals as goal

pub split-requires-clause-number : goal.split-requires-clause-number
split-requires-clause-number c = let l = c.requires.above in c.requires.numbers _ (omega arith)

pub split-requires-clause-another : goal.split-requires-clause-another
split-requires-clause-another c = some_stays _ _ c.requires.above c.requires.numbers

pub returns-clause-numbers : goal.returns-clause-numbers
returns-clause-numbers c = below_stay _ _ _ (ap (λ p. p.has) c.split.ensures.kept) c.requires.numbers
