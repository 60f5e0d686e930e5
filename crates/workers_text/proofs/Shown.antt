-- What a book shows may be printed.
use Rattle.std.proofs.Common.{ℕ, List}
use Rattle.call_contract.specs.Books.{Book}
use Rattle.call_contract.specs.Calls.{CallMeaning}
use Rattle.command_lines.specs.declared.line_reply.LineReply.{LineReply}
use Rattle.tree_model.specs.Tree.{Tree}
use Rattle.workers_text.specs.WorkersText.{Line, WorkersText}
use Rattle.workers_text.specs.Shown.{IsShownBy}

pub may_be_printed : {C : Type 0} (m : CallMeaning C) (t : Tree) (number limit : ℕ) (book : Book C) (lines : List (Line C)) (text : List LineReply)
    → IsShownBy m t number limit book lines text → WorkersText m t number limit lines text
may_be_printed m t number limit book lines text s = record { book = book; legal = s.legal; replies = s.replies; text_is = s.text_is; each = s.each; does = s.does }
