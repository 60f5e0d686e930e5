use Rattle.std.proofs.Common.{◌≡◌, ◌≤◌, length, take}
use Rattle.worker_run.specs.Workers.{ports_of}
use Rattle.worker_run.proofs.seats.count_ports.Given as goal

abbrev pub invariant-loop-port : goal.invariant-loop-port
invariant-loop-port g l = (l.count ≡ length (ports_of g.T.SessionPort.ports l.fn.session (take l.port-index l.fn.ports))) × (l.count ≤ l.port-index)
