-- The replies by which what is asked in turn ends before its end (docs/MANUAL.md, "Commands").
use Rattle.std.specs.Prelude.{List, [], ◌∷◌, Option, Some, None}
use Rattle.std.specs.Option.{option_or}
use Rattle.command_lines.specs.declared.line_reply.LineAnswer.{LineAnswer}
use Rattle.command_lines.specs.declared.line_reply.LineAnswer.TheVariants as answer
use Rattle.command_lines.specs.declared.line_reply.LineReply.{LineReply}
use Rattle.command_lines.specs.declared.line_reply.LineReply.TheVariants.{Said}
use Rattle.command_lines.specs.declared.line_reply.SessionRefusal.{SessionRefusal}
use Rattle.command_lines.specs.declared.line_reply.SessionRefusal.TheVariants.{TxLimit, CommitLimit}
use Rattle.tree_model.specs.declared.reply.Reply.TheVariants as reply
use Rattle.durable_sessions.specs.declared.reasons.Reason.{Reason}
use Rattle.durable_sessions.specs.declared.reasons.Reason.TheVariants as reason

-- a begin or a commit is refused by the numbers that are left
abbrev pub limit_of_session : SessionRefusal → Option Reason
limit_of_session TxLimit = Some reason.Limit
limit_of_session CommitLimit = Some reason.Limit
limit_of_session refusal = None

abbrev pub reason_of_answer : LineAnswer → Option Reason
reason_of_answer (answer.Reply (reply.Refused why)) = Some (reason.Call why)
reason_of_answer (answer.Session refusal) = limit_of_session refusal
reason_of_answer said = None

abbrev pub reason_of : LineReply → Option Reason
reason_of (Said session woke said) = reason_of_answer said
reason_of line = None

abbrev pub limit_of : LineReply → Option Reason
limit_of (Said session woke (answer.Session refusal)) = limit_of_session refusal
limit_of line = None

-- the first of the replies by which there is such a reason
abbrev pub first_reason : (LineReply → Option Reason) → List LineReply → Option Reason
first_reason by [] = None
first_reason by (line ∷ lines) = option_or (by line) (first_reason by lines)

-- the first refusal: of a call by the tree, or of a begin or commit by the numbers that are left
abbrev pub reason_in : List LineReply → Option Reason
reason_in lines = first_reason reason_of lines
