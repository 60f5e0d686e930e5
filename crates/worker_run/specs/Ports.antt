-- Sessions as workers use them: what a port tells, and what its calls do (docs/PROFILE.md, "Workers").
use Rattle.std.specs.Prelude.{◌≡◌, ℕ, Bool, false, List, [], ◌∷◌, Option, Some, None, Result, Ok, Err}
use Rattle.command_lines.specs.declared.command.Command.{Command}
use Rattle.command_lines.specs.declared.line_reply.LineReply.{LineReply}
use Rattle.worker_run.specs.declared.port.PortFault.{PortFault}

-- a command with its reply
abbrev pub Exchange : Type 0
Exchange = Command × LineReply

-- what a port tells: its session, the fault that it met, and whether its transaction is live
pub record Told : Type 0 where
  pub session : ℕ
  pub fault : Option PortFault
  pub live : Bool

-- a kind of ports: what each tells; that one came from another by these commands with these replies; that it met this fault at this command;
-- and that it ended its transaction
pub record Ports (P : Type 0) : Type 1 where
  pub told : P → Told
  pub did : P → List Exchange → P → Type 0
  pub met : P → Command → PortFault → P → Type 0
  pub ended : P → P → Type 0

module _ {P : Type 0} (m : Ports P) where
  -- a line is done and answered, or met a fault that the port tells from then on; the session stays
  abbrev pub LineDone : P → Command → P → Result LineReply PortFault → Type 0
  LineDone old c new (Ok reply) = m.did old ((c, reply) ∷ []) new × ((m.told new).fault ≡ None) × ((m.told new).session ≡ (m.told old).session)
  LineDone old c new (Err fault) = m.met old c fault new × ((m.told new).fault ≡ Some fault) × ((m.told new).session ≡ (m.told old).session)

  -- no transaction is live, and the session and the fault stay
  pub record Ended (old new : P) : Type 0 where
    pub ended : m.ended old new
    pub session : (m.told new).session ≡ (m.told old).session
    pub fault : (m.told new).fault ≡ (m.told old).fault
    pub live : (m.told new).live ≡ false
