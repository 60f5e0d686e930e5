-- Room for the replies of a port's lines.
use Rattle.std.specs.Prelude.{◌≡◌, ◌≤◌, List, [], length, vec_capacity}
use Rattle.std.specs.declared.vec.Vec.{Vec}
use Rattle.std.specs.declared.alloc.Global.{Global}
use Rattle.command_lines.specs.declared.command.Command.{Command}
use Rattle.command_lines.specs.declared.line_reply.LineReply.{LineReply}
use Rattle.worker_run.specs.Ports.{Ports}
use Rattle.worker_run.specs.Workers.{own_lines}

-- an empty vector, with room for the replies of the lines of the port's session
abbrev pub IsRoom : {P : Type 0} → Ports P → List Command → P → Vec LineReply Global → Type 0
IsRoom m lines p room = (room.items ≡ []) × (length (own_lines (m.told p).session lines) ≤ vec_capacity room)
