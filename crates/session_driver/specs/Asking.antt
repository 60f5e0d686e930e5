-- What a line asks of its session.
use Rattle.command_lines.specs.declared.command.StoreCall.{StoreCall}
use Rattle.command_lines.specs.declared.command.What.{What}
use Rattle.command_lines.specs.declared.command.What.TheVariants as what
use Rattle.session_driver.specs.declared.doing.Doing.{Doing}
use Rattle.session_driver.specs.declared.doing.Doing.TheVariants as doing

-- a call as books, states, lines and workers speak of it: the one that a line names, with nothing beside it
abbrev pub BookCall : Type 0
BookCall = StoreCall

module _ {C : Type 0} (made : StoreCall → C) where
  -- what a command asks of its session, where this call is made of one that it names
  abbrev pub doing_of : What → Doing C
  doing_of what.Begin = doing.Begin
  doing_of what.Commit = doing.Commit
  doing_of what.Abort = doing.Abort
  doing_of (what.Call call) = doing.Call (made call)
