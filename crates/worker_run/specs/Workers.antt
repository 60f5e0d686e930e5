-- What the workers of a script do with its lines (docs/PROFILE.md, "Workers").
use Rattle.std.specs.Prelude.{◌≡◌, ◌==◌, ℕ, List, [], ◌∷◌, ◌++◌, length, map, filter, Option, Some, None, if◌then◌else◌}
use Rattle.std.specs.List.{AllByRecursion, AllZip}
use Rattle.command_lines.specs.declared.command.Command.{Command}
use Rattle.command_lines.specs.declared.line_reply.LineReply.{LineReply}
use Rattle.worker_run.specs.declared.port.PortFault.{PortFault}
use Rattle.worker_run.specs.Ports.{Ended, Exchange, Ports}

-- ---- lines

-- the lines of a session
abbrev pub own_lines : ℕ → List Command → List Command
own_lines s lines = filter (λ (c : Command). c.session == s) lines

-- the lines of a session, each with the reply that stands in its line's place
abbrev pub own_exchanges : ℕ → List Command → List LineReply → List Exchange
own_exchanges s [] rs = []
own_exchanges s (c ∷ cs) [] = []
own_exchanges s (c ∷ cs) (r ∷ rs) = if c.session == s then (c, r) ∷ own_exchanges s cs rs else own_exchanges s cs rs

abbrev pub commands_given : List Exchange → List Command
commands_given xs = map (λ x. x.0) xs

-- ---- faults

-- a fault, or one that is told behind
abbrev pub or_fault : Option PortFault → Option PortFault → Option PortFault
or_fault (Some fault) behind = Some fault
or_fault None behind = behind

module _ {P : Type 0} (m : Ports P) where
  -- ---- ports

  -- the ports of a session
  abbrev pub ports_of : ℕ → List P → List P
  ports_of s ports = filter (λ p. (m.told p).session == s) ports

  -- the session of each line has exactly one port
  abbrev pub HaveOnePort : List P → List Command → Type 0
  HaveOnePort ports lines = AllByRecursion (λ (c : Command). length (ports_of c.session ports) ≡ 1) lines

  -- the fault of the first port that tells one
  abbrev pub first_fault : List P → Option PortFault
  first_fault [] = None
  first_fault (p ∷ ps) = or_fault (m.told p).fault (first_fault ps)

  -- ---- workers

  -- the port did all of these commands
  pub record DidAll (own : List Command) (gave : List Exchange) (old new : P) : Type 0 where
    pub did : m.did old gave new
    pub all : commands_given gave ≡ own

  -- the port did the first of these commands, up to the one that met the fault
  pub record DidUpTo (own : List Command) (gave : List Exchange) (fault : PortFault) (old new : P) : Type 0 where
    pub before : P
    pub did : m.did old gave before
    pub at : Command
    pub met : m.met before at fault new
    pub rest : List Command
    pub prefix : commands_given gave ++ at ∷ rest ≡ own

  -- by the fault that it tells then
  abbrev pub Went : List Command → List Exchange → P → P → Option PortFault → Type 0
  Went own gave old new None = DidAll own gave old new
  Went own gave old new (Some fault) = DidUpTo own gave fault old new

  -- a port that tells a fault already does nothing
  abbrev pub DoesLines : List Command → List Exchange → P → P → Option PortFault → Type 0
  DoesLines lines gave old new None = Went (own_lines (m.told old).session lines) gave old new (m.told new).fault
  DoesLines lines gave old new (Some fault) = (gave ≡ []) × (new ≡ old)

  -- what a worker leaves of its port: it did its session's lines, as far as no fault was met, and then ended its transaction
  pub record HasWorked (lines : List Command) (old new : P) : Type 0 where
    pub gave : List Exchange
    pub last : P
    pub does : DoesLines lines gave old last (m.told old).fault
    pub session : (m.told last).session ≡ (m.told old).session
    pub ended : Ended m last new

  -- a worker of its own left each port so
  abbrev pub AllHaveWorked : List Command → List P → List P → Type 0
  AllHaveWorked lines old new = AllZip (HasWorked lines) old new

  -- of each port the transaction was ended
  abbrev pub AllEnded : List P → List P → Type 0
  AllEnded old new = AllZip (Ended m) old new

  -- it did its session's lines with the replies that stand in their places, and then ended its transaction
  pub record HasReplied (lines : List Command) (replies : List LineReply) (old new : P) : Type 0 where
    pub last : P
    pub did : m.did old (own_exchanges (m.told old).session lines replies) last
    pub ended : Ended m last new
