use Rattle.std.proofs.Common.{take}
use Rattle.std.specs.List.{AllZip}
use Rattle.worker_run.specs.inside.Seating.{IsRoom}
use Rattle.worker_run.proofs.seats.rooms_for.Given as goal

abbrev pub invariant-loop-port : goal.invariant-loop-port
invariant-loop-port g l = AllZip (IsRoom g.T.SessionPort.ports l.fn.lines) (take l.port-index l.fn.ports) l.rooms.items
