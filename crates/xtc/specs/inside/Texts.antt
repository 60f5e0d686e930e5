-- The text of a whole script, put together.
use Rattle.std.specs.Prelude.{ℕ, List, [], ◌∷◌, ◌++◌, flat_map}
use Rattle.call_contract.specs.Books.{Book}
use Rattle.command_lines.specs.Replies.{reply_text}
use Rattle.command_lines.specs.declared.line_reply.LineReply.{LineReply}
use Rattle.workers_text.specs.Entries.{in_places}
use Rattle.workers_text.specs.declared.entry.Entry.{Entry}
use Rattle.workers_text.specs.WorkersText.{order_of}

-- the replies of all lines, each in its line's place, where these are the commands', and then the order line of the book
abbrev pub whole_text : {C : Type 0} → List Entry → List LineReply → Book C → List ℕ
whole_text entries replies book = flat_map reply_text (in_places entries replies ++ order_of book ∷ [])
