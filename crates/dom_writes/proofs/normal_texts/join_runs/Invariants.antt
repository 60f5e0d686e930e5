use Rattle.std.proofs.Common.{length}
use Rattle.dom_writes.proofs.NormalChanges.{IsJoining}
use Rattle.dom_writes.proofs.normal_texts.join_runs.Given as goal

abbrev pub invariant-loop-rest : goal.invariant-loop-rest
invariant-loop-rest l = IsJoining l.entries l.rest l.changes

abbrev pub decreases-loop-rest : goal.decreases-loop-rest
decreases-loop-rest l = length l.rest
