use Rattle.std.proofs.Common.{[], length}
use Rattle.call_contract.specs.Sessions.{queue_after}
use Rattle.session_driver.specs.inside.Steps.{IsInRounds}
use Rattle.session_driver.proofs.retries.retry_all.Given as goal

abbrev pub invariant-loop : goal.invariant-loop
invariant-loop g l =
    IsInRounds g.C.TreeCall.meaning g.B.NodeRead.contents g.B.NodeRead.unchanged g.B.NodeRead.count l.fn.core l.core l.fn.out.items l.out.items

abbrev pub decreases-loop : goal.decreases-loop
decreases-loop g l = length (queue_after [] l.core.book)
