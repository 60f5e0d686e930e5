-- What is counted of the generator's run, and the line that tells it (docs/PROFILE.md, "The generator"): compact JSON (RFC 8259) with keys in the order of their bytes.
use Rattle.std.specs.Prelude.{◌+◌, ◌-◌, ◌^◌, ℕ, min, List, ◌++◌, length, codes, decimal, Bool, true, false, ◌&&◌, not}
use Rattle.std.specs.List.{fold}
use Rattle.tree_model.specs.declared.reply.Reply.{Reply}
use Rattle.tree_model.specs.declared.reply.Reply.TheVariants.{Found, Refused}
use Rattle.command_lines.specs.declared.line_reply.LineAnswer.{LineAnswer}
use Rattle.command_lines.specs.declared.line_reply.LineAnswer.TheVariants as answer
use Rattle.command_lines.specs.declared.line_reply.LineReply.{LineReply}
use Rattle.command_lines.specs.declared.line_reply.LineReply.TheVariants as reply
use Rattle.workload_gen.specs.declared.line.Step.{Step}
use Rattle.workload_gen.specs.declared.line.Step.TheVariants.{Commit}
use Rattle.workload_gen.specs.declared.summary.Summary.{Summary}

-- ---- counts

-- one more; a count stays at the greatest number
abbrev pub one_more : ℕ → ℕ
one_more n = min (n + 1) (2 ^ 64 - 1)

-- of a catalogue of so many books
abbrev pub nothing_yet : ℕ → Summary
nothing_yet books = record { books = books; commits = 0; deadlocks = 0; errors = 0; found = 0; lines = 0; ok = 0; waits = 0 }

-- one more line of the script
abbrev pub with_line : Summary → Summary
with_line s = record s { lines = one_more s.lines }

-- one more line that is an answer
abbrev pub with_ok : Summary → Summary
with_ok s = record s { ok = one_more s.ok }

-- one more line that is a refusal
abbrev pub with_error : Summary → Summary
with_error s = record s { errors = one_more s.errors }

-- ---- replies

abbrev pub is_commit : Step → Bool
is_commit Commit = true
is_commit step = false

-- the answer to a commit is counted as one
abbrev pub answered : Bool → Summary → Summary
answered false s = with_ok s
answered true s = record (with_ok s) { commits = one_more s.commits }

abbrev pub with_reply : Bool → Summary → Reply → Summary
with_reply commits s (Refused why) = with_error s
with_reply commits s (Found hits) = record (with_ok s) { found = length hits }
with_reply commits s reply = answered commits s

abbrev pub with_answer : Bool → Summary → LineAnswer → Summary
with_answer commits s (answer.Reply reply) = with_reply commits s reply
with_answer commits s (answer.Session why) = with_error s
with_answer commits s (answer.Wait on asks by) = record s { waits = one_more s.waits }
with_answer commits s (answer.Deadlock cycle) = record s { deadlocks = one_more s.deadlocks }

-- one of the replies that a line of the script brings; a call that had waited answers no commit
abbrev pub counted : Step → Summary → LineReply → Summary
counted step s (reply.Said session woke answer) = with_answer (is_commit step && not woke) s answer
counted step s (reply.Bad why line) = s
counted step s (reply.Order commits) = s

-- a line of the script and all the replies that it brings
abbrev pub after_line : Summary → Step → List LineReply → Summary
after_line s step replies = fold (counted step) (with_line s) replies

-- ---- text

abbrev pub summary_text : Summary → List ℕ
summary_text s =
    codes "{\"books\":" ++ decimal s.books ++ codes ",\"commits\":" ++ decimal s.commits ++ codes ",\"deadlocks\":" ++ decimal s.deadlocks
    ++ codes ",\"errors\":" ++ decimal s.errors ++ codes ",\"found\":" ++ decimal s.found ++ codes ",\"lines\":" ++ decimal s.lines
    ++ codes ",\"ok\":" ++ decimal s.ok ++ codes ",\"waits\":" ++ decimal s.waits ++ codes "}"
