use Rattle.std.proofs.Common.{arith}
use Rattle.turn_tests.proofs.tally.ticks_after.Goals as goal

pub spread-requires-clause-numbers : goal.spread-requires-clause-numbers
spread-requires-clause-numbers g c κs within = λ n l. c.cut-reader.ensures.numbers n (let m = c.requires in omega arith)
