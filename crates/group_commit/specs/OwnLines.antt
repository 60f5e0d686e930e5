-- The lines of a session, what it is asked by them, and what it was answered.
use Rattle.std.specs.Prelude.{ℕ, List, map}
use Rattle.call_contract.specs.Books.{Book}
use Rattle.call_contract.specs.Calls.{CallMeaning}
use Rattle.call_contract.specs.States.{State}
use Rattle.command_lines.specs.declared.command.Command.{Command}
use Rattle.command_lines.specs.declared.command.StoreCall.{StoreCall}
use Rattle.command_lines.specs.declared.line_reply.LineReply.{LineReply}
use Rattle.session_driver.specs.declared.doing.Doing.{Doing}
use Rattle.session_driver.specs.declared.doing.Doing.TheVariants as doing
use Rattle.worker_run.specs.Ports.{Exchange}
use Rattle.worker_run.specs.Workers.{own_exchanges, own_lines}
use Rattle.session_driver.specs.Sessions.{Does, DoesSome, Printed}
use Rattle.session_driver.specs.Asking.{doing_of}

module _ {C : Type 0} (made : StoreCall → C) where
  -- a command with its reply, as its session has them
  abbrev pub printed : Exchange → Printed C
  printed x = record { doing = doing_of made x.0.what; reply = x.1 }

  -- the lines of a session, each with the reply that stands in its place
  abbrev pub own_printed : ℕ → List Command → List LineReply → List (Printed C)
  own_printed s lines replies = map printed (own_exchanges s lines replies)

  -- what a session is asked by these lines
  abbrev pub own_doings : ℕ → List Command → List (Doing C)
  own_doings s lines = map (λ (c : Command). doing_of made c.what) (own_lines s lines)

  -- from this state on the book has the lines of the session, answered by the replies that stand in their places
  abbrev pub DoesOwnLines : CallMeaning C → List Command → List LineReply → ℕ → State C → Book C → Type 0
  DoesOwnLines m lines replies s st book = Does m s st book (own_printed s lines replies)

  -- it has the first of them, the last of these as far as it came
  abbrev pub DoesSomeOwnLines : CallMeaning C → List Command → ℕ → State C → Book C → Type 0
  DoesSomeOwnLines m lines s st book = DoesSome m s st book (own_doings s lines)
