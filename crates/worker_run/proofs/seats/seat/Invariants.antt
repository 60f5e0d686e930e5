use Rattle.std.proofs.Common.{◌≡◌, ◌+◌, ◌≤◌, ◌++◌, length, vec_capacity}
use Rattle.std.specs.Prelude.{reverse}
use Rattle.std.specs.List.{AllByRecursion, AllZip}
use Rattle.worker_run.specs.inside.Merging.{IsSeated, ports_in}
use Rattle.worker_run.specs.inside.Seating.{IsRoom}
use Rattle.worker_run.proofs.seats.seat.Given as goal

abbrev pub invariant-loop-port : goal.invariant-loop-port
invariant-loop-port g l = AllZip (IsRoom g.T.SessionPort.ports l.fn.lines) l.ports.items l.rooms.items
    × (l.ports.items ++ ports_in (reverse l.workers.items) ≡ l.fn.ports.items)
    × AllByRecursion (IsSeated g.T.SessionPort.ports l.fn.lines) (reverse l.workers.items)
    × (length l.ports.items + length l.workers.items ≤ vec_capacity l.workers)
    × (vec_capacity l.ports ≡ vec_capacity l.fn.ports)

abbrev pub decreases-loop-port : goal.decreases-loop-port
decreases-loop-port g l = length l.ports.items
