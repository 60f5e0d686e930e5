-- What a whole script asks, line by line, where it is read before any line is done (docs/MANUAL.md, "Script lines"; docs/PROFILE.md, "Workers").
use Rattle.std.specs.Prelude.{◌<◌, ℕ, ◌+◌, List, [], ◌∷◌, ◌++◌, Option, Some, None, Result, Ok, Err}
use Rattle.script_runs.specs.Lines.{lines_of}
use Rattle.command_lines.specs.Lines.{line_of}
use Rattle.command_lines.specs.declared.bad_line.BadLine.{BadLine}
use Rattle.command_lines.specs.declared.bad_line.BadLine.TheVariants.{Why, NoMemory}
use Rattle.command_lines.specs.declared.command.Command.{Command}
use Rattle.command_lines.specs.declared.line_reply.LineReply.{LineReply}
use Rattle.command_lines.specs.declared.line_reply.LineReply.TheVariants as reply
use Rattle.workers_text.specs.declared.entry.Entry.{Entry}
use Rattle.workers_text.specs.declared.entry.Entry.TheVariants.{Asked, Bad}

-- a script that was read: its lines, but for the blank ones
pub record Script : Type 0 where
  pub entries : List Entry

-- what a line is, by its number and what it is read as: a blank one is left out
abbrev pub entry_by : ℕ → Result (Option Command) BadLine → List Entry
entry_by n (Ok None) = []
entry_by n (Ok (Some command)) = Asked command ∷ []
entry_by n (Err (Why why)) = Bad (reply.Bad why n) ∷ []
entry_by n (Err NoMemory) = []

-- what these lines are, with `n` lines before them; blank ones count
abbrev pub entries_from : ℕ → List (List ℕ) → List Entry
entries_from n [] = []
entries_from n (line ∷ lines) = entry_by (n + 1) (line_of line) ++ entries_from (n + 1) lines

-- what the lines of a whole script are
abbrev pub entries_of : List ℕ → List Entry
entries_of bytes = entries_from 0 (lines_of bytes)

-- the commands, in the order of their lines
abbrev pub commands_in : List Entry → List Command
commands_in [] = []
commands_in (Asked command ∷ entries) = command ∷ commands_in entries
commands_in (Bad reply ∷ entries) = commands_in entries

-- the replies of all lines, each in its line's place, where these are the commands'
abbrev pub in_places : List Entry → List LineReply → List LineReply
in_places [] replies = []
in_places (Bad reply ∷ entries) replies = reply ∷ in_places entries replies
in_places (Asked command ∷ entries) [] = []
in_places (Asked command ∷ entries) (reply ∷ replies) = reply ∷ in_places entries replies

-- its session is one of those that there are, from 1 to 64
abbrev pub HasSession : Command → Type 0
HasSession command = (0 < command.session) × (command.session < 65)
