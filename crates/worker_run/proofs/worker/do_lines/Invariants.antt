use Rattle.std.proofs.Common.{◌≡◌, vec_capacity}
use Rattle.worker_run.specs.inside.Working.{RoomFor, SoFar}
use Rattle.worker_run.proofs.worker.do_lines.Given as goal

abbrev pub invariant-loop-command : goal.invariant-loop-command
invariant-loop-command g l = SoFar g.T.SessionPort.ports l.fn.lines l.command-index l.fn.port l.port l.fn.replies.items l.replies.items
    × RoomFor l.fn.lines l.command-index (g.T.SessionPort.ports.told l.fn.port).session l.replies.items (vec_capacity l.replies)
    × (l.session ≡ (g.T.SessionPort.ports.told l.fn.port).session)
