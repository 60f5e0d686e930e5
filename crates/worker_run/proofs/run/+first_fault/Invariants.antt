use Rattle.std.proofs.Common.{length}
use Rattle.worker_run.proofs.run.+first_fault.Given as goal

abbrev pub decreases-first_fault : goal.decreases-first_fault
decreases-first_fault g l = length l.workers.now
