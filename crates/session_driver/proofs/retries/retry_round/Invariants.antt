use Rattle.std.proofs.Common.{length}
use Rattle.session_driver.specs.inside.Steps.{IsInRound}
use Rattle.session_driver.proofs.retries.retry_round.Given as goal

abbrev pub invariant-loop-rest : goal.invariant-loop-rest
invariant-loop-rest g l =
    IsInRound g.C.TreeCall.meaning g.B.NodeRead.contents g.B.NodeRead.unchanged g.B.NodeRead.count l.fn.core l.core l.fn.out.items l.out.items l.rest

abbrev pub decreases-loop-rest : goal.decreases-loop-rest
decreases-loop-rest g l = length l.rest
