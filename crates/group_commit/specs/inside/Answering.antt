-- The answers of a session's calls as lines of a worker have them, and what a line leaves of its session.
use Rattle.std.specs.Prelude.{◌≡◌, ℕ, false, [], ◌∷◌, Option, Some, None, Result, Ok, Err}
use Rattle.tree_model.specs.Entries.{Entries}
use Rattle.tree_model.specs.declared.reply.Reply.TheVariants as reply
use Rattle.call_contract.specs.Calls.{CallMeaning}
use Rattle.command_lines.specs.declared.line_reply.LineAnswer.{LineAnswer}
use Rattle.command_lines.specs.declared.line_reply.LineAnswer.TheVariants as line_answer
use Rattle.command_lines.specs.declared.line_reply.LineReply.{LineReply}
use Rattle.command_lines.specs.declared.line_reply.LineReply.TheVariants.{Said}
use Rattle.command_lines.specs.declared.line_reply.SessionRefusal.{SessionRefusal}
use Rattle.session_driver.specs.Driving.{shown_why}
use Rattle.session_driver.specs.declared.doing.Doing.{Doing}
use Rattle.group_commit.specs.Members.{MemberView}
use Rattle.shared_store.specs.Sessions.{SessionView, having_seen}
use Rattle.shared_store.specs.declared.ended.Ended.{Ended}
use Rattle.shared_store.specs.declared.ended.Ended.TheVariants as ended
use Rattle.shared_store.specs.declared.errors.StoreError.{StoreError}
use Rattle.shared_store.specs.declared.errors.StoreError.TheVariants as store_error
use Rattle.worker_run.specs.declared.port.PortFault.{PortFault}
use Rattle.worker_run.specs.declared.port.PortFault.TheVariants as fault
use Rattle.group_commit.specs.StorePorts.{HasBroken, HasPart, IsSamePass}

-- ---- answers

abbrev pub refused_by : Option SessionRefusal → Result LineAnswer PortFault
refused_by None = Err fault.NoMemory
refused_by (Some why) = Ok (line_answer.Session why)

-- a refusal is answered, and anything else ends the port's lines
abbrev pub as_error : StoreError → Result LineAnswer PortFault
as_error (store_error.Session why) = refused_by (shown_why why)
as_error store_error.DiskFault = Err fault.DiskFault
as_error store_error.NoMemory = Err fault.NoMemory
as_error (store_error.Halted faults) = Err (fault.Halted faults)

-- of a call that can't be refused
abbrev pub as_fault : StoreError → PortFault
as_fault (store_error.Session why) = fault.NoMemory
as_fault store_error.DiskFault = fault.DiskFault
as_fault store_error.NoMemory = fault.NoMemory
as_fault (store_error.Halted faults) = fault.Halted faults

abbrev pub as_number : Result ℕ StoreError → Result LineAnswer PortFault
as_number (Ok n) = Ok (line_answer.Reply (reply.Number n))
as_number (Err why) = as_error why

abbrev pub as_nothing : Result (Unit {0}) StoreError → Result LineAnswer PortFault
as_nothing (Ok x) = Ok (line_answer.Reply reply.Nothing)
as_nothing (Err why) = as_error why

abbrev pub ended_as : Ended → LineAnswer
ended_as (ended.Answered r) = line_answer.Reply r
ended_as (ended.Deadlock cycle) = line_answer.Deadlock cycle

abbrev pub as_ended : Result Ended StoreError → Result LineAnswer PortFault
as_ended (Ok e) = Ok (ended_as e)
as_ended (Err why) = as_error why

abbrev pub as_reply : ℕ → Result LineAnswer PortFault → Result LineReply PortFault
as_reply s (Ok a) = Ok (Said s false a)
as_reply s (Err why) = Err why

-- ---- lines

module _ {C B : Type 0} (told : B → Option Entries) (m : CallMeaning C) where
  -- a line was answered, and what was added to the list has it; or it met a fault, and what was added has of it what it came to
  abbrev pub Leaves : SessionView C B → Doing C → SessionView C B → Result LineAnswer PortFault → Type 0
  Leaves p d q (Ok a) = HasPart told m p.has p.under p.seen q.seen (record { doing = d; reply = Said p.under false a } ∷ [])
  Leaves p d q (Err why) = HasBroken p.has p.under d p.seen q.seen

  -- so it is of a member, whose pass of the journal's turn stays
  pub record LineLeaves (p : MemberView C B) (d : Doing C) (q : MemberView C B) (answer : Result LineAnswer PortFault) : Type 0 where
    pub same : q.session ≡ having_seen q.session.seen p.session
    pub pass : IsSamePass p.pass q.pass
    pub leaves : Leaves p.session d q.session answer
