-- What a line of a script asks of the store (docs/MANUAL.md, "Script lines").
use Rattle.std.specs.Prelude.{ℕ, List, Option, Some, None, Result, Ok, Err}
use Rattle.command_lines.specs.Lines.{line_of as command_of_line}
use Rattle.command_lines.specs.declared.bad_line.BadLine.{BadLine}
use Rattle.command_lines.specs.declared.bad_line.BadLine.TheVariants as bad_line
use Rattle.command_lines.specs.declared.command.Command.{Command}
use Rattle.session_driver.specs.Asking.{BookCall}
use Rattle.command_lines.specs.declared.command.What.{What}
use Rattle.command_lines.specs.declared.command.What.TheVariants as what
use Rattle.session_driver.specs.Lines.{Asked}
use Rattle.session_driver.specs.declared.doing.Doing.{Doing}
use Rattle.session_driver.specs.declared.doing.Doing.TheVariants as doing

-- a line: nothing, bad for a reason, or a session is asked something
pub data Line : Type 0 where
  nothing : Line
  bad : List ℕ → Line
  asked : Asked BookCall → Line

abbrev pub doing_of : What → Doing BookCall
doing_of what.Begin = doing.Begin
doing_of what.Commit = doing.Commit
doing_of what.Abort = doing.Abort
doing_of (what.Call call) = doing.Call call

abbrev pub asked_by : Result (Option Command) BadLine → Line
asked_by (Ok None) = nothing
asked_by (Ok (Some command)) = asked (record { session = command.session; doing = doing_of command.what })
asked_by (Err (bad_line.Why why)) = bad why
asked_by (Err bad_line.NoMemory) = nothing

-- what a line, without its end, asks
unfoldable pub line_of : List ℕ → Line
line_of line = asked_by (command_of_line line)
