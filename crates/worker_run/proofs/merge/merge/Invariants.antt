use Rattle.std.proofs.Common.{◌≡◌, ◌+◌, ◌≤◌, length, vec_capacity}
use Rattle.worker_run.specs.inside.Merging.{AllMerging, ports_in, seats}
use Rattle.worker_run.proofs.merge.merge.Given as goal

abbrev pub invariant-loop-left : goal.invariant-loop-left
invariant-loop-left g l =
    AllMerging l.fn.lines l.left l.out.items (seats g.T.SessionPort.ports l.fn.workers) (seats g.T.SessionPort.ports l.workers)
    × (length l.out.items + l.left ≡ length l.fn.lines)
    × (length l.fn.lines ≤ vec_capacity l.out)
    × (ports_in l.workers ≡ ports_in l.fn.workers)

abbrev pub decreases-loop-left : goal.decreases-loop-left
decreases-loop-left g l = l.left
