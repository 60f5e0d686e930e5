-- What the lines of a script do, and the text of what they are answered (docs/MANUAL.md, "Transactions"; docs/PROFILE.md, "Lines of sessions").
use Rattle.std.specs.Prelude.{ℕ, ◌+◌, List, [], ◌∷◌, flat_map}
use Rattle.call_contract.specs.States.{State}
use Rattle.command_lines.specs.Replies.{reply_text}
use Rattle.session_driver.specs.Asking.{BookCall}
use Rattle.command_lines.specs.declared.line_reply.LineReply.{LineReply}
use Rattle.command_lines.specs.declared.line_reply.LineReply.TheVariants.{Bad}
use Rattle.session_driver.specs.Lines.{Asked, after_line, after_lines, IsValidDoing}
use Rattle.session_driver.specs.Progress.{Progress, stays, and_then}
use Rattle.store_calls.specs.StoreCalls.{store_meaning, IsValidStoreCall}
use Rattle.xtc.specs.ScriptLine.{Line, nothing, bad, asked, line_of}

-- a line's call, if it has one, is valid
abbrev pub IsValidLine : Line → Type 0
IsValidLine nothing = Unit {0}
IsValidLine (bad why) = Unit {0}
IsValidLine (asked a) = IsValidDoing IsValidStoreCall a.doing

-- ---- lines

-- what a line does from a state, by its number: the entries of the book, the replies, and the state after it
abbrev pub done_by : State BookCall → ℕ → Line → Progress BookCall
done_by st n nothing = stays st
done_by st n (bad why) = record { state = st; book = []; lines = Bad why n ∷ [] }
done_by st n (asked a) = after_line store_meaning st a

-- what these lines do from a state, with `n` lines before them
abbrev pub done_from : State BookCall → ℕ → List (List ℕ) → Progress BookCall
done_from st n [] = stays st
done_from st n (line ∷ lines) = and_then (done_by st (n + 1) (line_of line)) (done_from (done_by st (n + 1) (line_of line)).state (n + 1) lines)

-- what a script of these lines does
abbrev pub script_of : State BookCall → List (List ℕ) → Progress BookCall
script_of st lines = done_from st 0 lines

-- what sessions that are asked these in turn do from a state
abbrev pub after_asked : State BookCall → List (Asked BookCall) → Progress BookCall
after_asked st lines = after_lines store_meaning st lines

-- the text of replies, each in its line
abbrev pub replies_text : List LineReply → List ℕ
replies_text replies = flat_map reply_text replies
