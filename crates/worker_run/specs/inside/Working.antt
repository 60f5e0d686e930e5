-- How far a worker has come.
use Rattle.std.specs.Prelude.{◌≡◌, ◌+◌, ◌≤◌, ℕ, List, ◌++◌, map, length, drop, None}
use Rattle.command_lines.specs.declared.command.Command.{Command}
use Rattle.command_lines.specs.declared.line_reply.LineReply.{LineReply}
use Rattle.worker_run.specs.Ports.{Exchange, Ports}
use Rattle.worker_run.specs.Workers.{HasWorked, Went, commands_given, own_lines}

-- the replies of these commands
abbrev pub replies_given : List Exchange → List LineReply
replies_given xs = map (λ x. x.1) xs

module _ {P : Type 0} (m : Ports P) where
  -- the lines before the one of this index are done
  pub record SoFar (lines : List Command) (i : ℕ) (old now : P) (before replies : List LineReply) : Type 0 where
    pub gave : List Exchange
    pub did : m.did old gave now
    pub kept : replies ≡ before ++ replies_given gave
    pub session : (m.told now).session ≡ (m.told old).session
    pub usable : (m.told now).fault ≡ None
    pub through : commands_given gave ++ own_lines (m.told old).session (drop i lines) ≡ own_lines (m.told old).session lines

  -- the lines were done up to a fault, and the reply of each is kept
  pub record HasAnswered (lines : List Command) (old new : P) (before now : List LineReply) : Type 0 where
    pub gave : List Exchange
    pub kept : now ≡ before ++ replies_given gave
    pub session : (m.told new).session ≡ (m.told old).session
    pub went : Went m (own_lines (m.told old).session lines) gave old new (m.told new).fault

  -- the lines were done up to a fault, and no transaction is live
  pub record HasServed (lines : List Command) (old new : P) (before now : List LineReply) : Type 0 where
    pub worked : HasWorked m lines old new
    pub kept : now ≡ before ++ replies_given worked.gave

-- there is room for the replies of the lines from this index on
abbrev pub RoomFor : List Command → ℕ → ℕ → List LineReply → ℕ → Type 0
RoomFor lines i s replies capacity = length replies + length (own_lines s (drop i lines)) ≤ capacity
