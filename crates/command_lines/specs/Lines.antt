-- What a line of a script asks for (docs/MANUAL.md, "Script lines"); JSON is RFC 8259, as `serde_json` reads it, where the last of a repeated key counts.
use Rattle.std.specs.Prelude.{ℕ, ◌||◌, ◌&&◌, ◌==◌, nat_le, if◌then◌else◌, List, Bool, codes, Option, Some, None, option_and_then, Result, Ok, Err}
use Rattle.std.specs.List.{list_all}
use Rattle.serde_json.specs.Data.{Data, object, Members, no_members, member}
use Rattle.serde_json.specs.Find.{get_member}
use Rattle.jsonml_io.specs.JsonMl.{value_of}
use Rattle.command_lines.specs.declared.bad_line.BadLine.{BadLine}
use Rattle.command_lines.specs.declared.bad_line.BadLine.TheVariants.{Why}
use Rattle.command_lines.specs.declared.command.Command.{Command}
use Rattle.command_lines.specs.declared.calls.Word.{Word}
use Rattle.command_lines.specs.declared.command.What.{What}
use Rattle.command_lines.specs.Calls.{call_named}
use Rattle.command_lines.specs.KeyValues.{as_whole, string_at}
use Rattle.command_lines.specs.Reasons.{◌>>=◌, found_or}
use Rattle.command_lines.specs.Taking.{without}
use Rattle.command_lines.specs.Words.{what_in}

-- space, tab and CR
abbrev pub is_blank_byte : ℕ → Bool
is_blank_byte b = b == 32 || b == 9 || b == 13

-- a line of these alone
abbrev pub is_blank : List ℕ → Bool
is_blank line = list_all is_blank_byte line

-- the number of a session, from 1 to 64
abbrev pub if_session : ℕ → Option ℕ
if_session n = if nat_le 1 n && nat_le n 64 then Some n else None

-- the session of a line
abbrev pub session_at : Option Data → Result ℕ BadLine
session_at value = found_or (codes "s") (option_and_then if_session (option_and_then as_whole value))

-- the word that this is
abbrev pub word_of : List ℕ → Result Word BadLine
word_of name = found_or (codes "call") (call_named name)

-- the word that a line asks by
abbrev pub call_at : Option Data → Result Word BadLine
call_at value = string_at (codes "call") value >>= word_of

-- the command, unless a member is left that no key has taken
abbrev pub finished : ℕ → What × Members → Result Command BadLine
finished session (what, no_members) = Ok (record { session = session; what = what })
finished session (what, member k v ms) = Err (Why (codes "extra"))

-- the command that an object's members are: the session, the call, its keys, and no member besides
abbrev pub command_of : Members → Result Command BadLine
command_of ms = do
  session ← session_at (get_member (codes "s") ms)
  word ← call_at (get_member (codes "call") (without (codes "s") ms))
  taken ← what_in word (without (codes "call") (without (codes "s") ms))
  finished session taken

-- the command that a value is
abbrev pub command_in : Data → Result Command BadLine
command_in (object ms) = command_of ms
command_in value = Err (Why (codes "object"))

-- what a line, without its end, asks for: nothing where it is blank
unfoldable pub line_of : List ℕ → Result (Option Command) BadLine
line_of line =
    if is_blank line then Ok None else (do
      value ← found_or (codes "json") (value_of line)
      command ← command_in value
      Ok (Some command))
