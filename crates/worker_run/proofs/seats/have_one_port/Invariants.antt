use Rattle.std.proofs.Common.{take}
use Rattle.worker_run.specs.Workers.{HaveOnePort}
use Rattle.worker_run.proofs.seats.have_one_port.Given as goal

abbrev pub invariant-loop-line : goal.invariant-loop-line
invariant-loop-line g l = HaveOnePort g.T.SessionPort.ports l.fn.ports (take l.line-index l.fn.lines)
