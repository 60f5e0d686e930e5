use Rattle.std.proofs.Common.{◌≡◌, ◌+◌, ◌≤◌, ◌++◌, length, vec_capacity}
use Rattle.std.specs.Prelude.{reverse}
use Rattle.worker_run.specs.inside.Merging.{ports_in}
use Rattle.worker_run.proofs.seats.unseat.Given as goal

abbrev pub invariant-loop-worker : goal.invariant-loop-worker
invariant-loop-worker g l = (ports_in l.workers.items ++ reverse l.ports.items ≡ ports_in l.fn.workers.items) × (length l.workers.items + length l.ports.items ≤ vec_capacity l.ports)

abbrev pub decreases-loop-worker : goal.decreases-loop-worker
decreases-loop-worker g l = length l.workers.items
