-- What was done from a state on: the entries of the book, and the lines that were written (docs/PROFILE.md, "Lines of sessions").
use Rattle.std.specs.Prelude.{ℕ, Bool, List, [], ◌∷◌, ◌++◌}
use Rattle.call_contract.specs.Books.{Book}
use Rattle.call_contract.specs.States.{State}
use Rattle.call_contract.specs.declared.events.Answer.TheVariants as answer
use Rattle.call_contract.specs.declared.events.EventAnswer.{EventAnswer}
use Rattle.call_contract.specs.declared.events.EventAnswer.TheVariants as said
use Rattle.call_contract.specs.declared.events.Noted.{Noted}
use Rattle.command_lines.specs.declared.line_reply.LineAnswer.{LineAnswer}
use Rattle.command_lines.specs.declared.line_reply.LineAnswer.TheVariants as line_answer
use Rattle.command_lines.specs.declared.line_reply.LineReply.{LineReply}
use Rattle.command_lines.specs.declared.line_reply.LineReply.TheVariants.{Said}
use Rattle.tree_model.specs.declared.reply.Reply.TheVariants as reply

-- the state that was come to, with the entries and the lines on the way
pub record Progress (C : Type 0) : Type 0 where
  pub state : State C
  pub book : Book C
  pub lines : List LineReply

-- nothing was done
abbrev pub stays : {C : Type 0} → State C → Progress C
stays st = record { state = st; book = []; lines = [] }

-- an entry and lines before what was done then
abbrev pub noted : {C : Type 0} → Noted C → List LineReply → Progress C → Progress C
noted n lines then = record { state = then.state; book = n ∷ then.book; lines = lines ++ then.lines }

-- the one after the other
abbrev pub and_then : {C : Type 0} → Progress C → Progress C → Progress C
and_then first then = record { state = then.state; book = first.book ++ then.book; lines = first.lines ++ then.lines }

-- ---- lines

-- what the machine answers, as a line has it
abbrev pub shown : EventAnswer → LineAnswer
shown said.Nothing = line_answer.Reply reply.Nothing
shown (said.Number n) = line_answer.Reply (reply.Number n)
shown (said.Call (answer.Answered r)) = line_answer.Reply r
shown (said.Call (answer.Waits on asks by)) = line_answer.Wait on asks by
shown (said.Call (answer.Deadlock cycle)) = line_answer.Deadlock cycle

-- a session's line; the call had waited, or not
abbrev pub line_of : ℕ → Bool → EventAnswer → List LineReply
line_of s woke a = Said s woke (shown a) ∷ []
