-- What a run of all workers leaves, and the memory that it takes before.
use Rattle.std.specs.Prelude.{◌≡◌, ◌≤◌, List, [], length, vec_capacity, Some, None, Result, Ok, Err}
use Rattle.std.specs.List.{AllZip}
use Rattle.std.specs.declared.vec.Vec.{Vec}
use Rattle.std.specs.declared.alloc.Global.{Global}
use Rattle.command_lines.specs.declared.command.Command.{Command}
use Rattle.command_lines.specs.declared.line_reply.LineReply.{LineReply}
use Rattle.worker_run.specs.declared.port.PortFault.{PortFault}
use Rattle.worker_run.specs.declared.worker.Worker.{Worker}
use Rattle.worker_run.specs.Ports.{Ports}
use Rattle.worker_run.specs.Workers.{AllHaveWorked, HasReplied, first_fault}
use Rattle.worker_run.specs.inside.Seating.{IsRoom}

-- the replies of all lines, each its own, where no port tells a fault, else the fault of the first that does
abbrev pub Gives : {P : Type 0} → Ports P → List Command → List P → List P → Result (List LineReply) PortFault → Type 0
Gives m lines old new (Ok replies) = (length replies ≡ length lines) × AllZip (HasReplied m lines replies) old new × (first_fault m new ≡ None)
Gives m lines old new (Err fault) = first_fault m new ≡ Some fault

pub record RunLeaves {P : Type 0} (m : Ports P) (lines : List Command) (old new : List P) (given : Result (List LineReply) PortFault) : Type 0 where
  pub worked : AllHaveWorked m lines old new
  pub gives : Gives m lines old new given

-- room for the replies of each port, for the workers, and for the replies of all lines
pub record HasRooms {P : Type 0} (m : Ports P) (lines : List Command) (ports : List P) (kept : Vec (Vec LineReply Global) Global) (seated : Vec (Worker P) Global) (merged : Vec LineReply Global) : Type 0 where
  pub rooms : AllZip (IsRoom m lines) ports kept.items
  pub no_workers : seated.items ≡ []
  pub workers : length ports ≤ vec_capacity seated
  pub no_replies : merged.items ≡ []
  pub replies : length lines ≤ vec_capacity merged
