use Rattle.std.proofs.Common.{length}
use Rattle.worker_run.proofs.run.+end_all.Given as goal

abbrev pub decreases-end_all : goal.decreases-end_all
decreases-end_all g l = length l.ports.now
