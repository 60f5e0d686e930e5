-- What the workers of a whole script print, shown by the book that the store kept (docs/PROFILE.md, "Workers").
use Rattle.std.specs.Prelude.{◌≡◌, ℕ, List, [], ◌∷◌, ◌++◌, map, flat_map, Option}
use Rattle.call_contract.specs.Books.{Book, IsLegal}
use Rattle.call_contract.specs.Calls.{CallMeaning}
use Rattle.call_contract.specs.States.{start}
use Rattle.command_lines.specs.Replies.{reply_text}
use Rattle.command_lines.specs.declared.line_reply.LineReply.{LineReply}
use Rattle.tree_model.specs.Entries.{Entries}
use Rattle.tree_model.specs.Tree.{Tree}
use Rattle.node_seq.specs.Trees.{StandsFor}
use Rattle.tx_core.specs.Cores.{CoreView}
use Rattle.workers_text.specs.declared.entry.Entry.{Entry}
use Rattle.workers_text.specs.declared.entry.Entry.TheVariants as entry
use Rattle.session_driver.specs.Asking.{BookCall, doing_of}
use Rattle.session_driver.specs.Sessions.{Does}
use Rattle.workers_text.specs.WorkersText.{Line, asked, bad, HasReplies, order_of, printed_of}

-- a line, as texts of workers have it
abbrev pub line_in : Entry → Line BookCall
line_in (entry.Asked command) = asked (record { session = command.session; doing = doing_of (λ call. call) command.what })
line_in (entry.Bad reply) = bad reply

abbrev pub lines_in : List Entry → List (Line BookCall)
lines_in entries = map line_in entries

-- this book shows the text: it is a legal run from the opening, and has each session's lines; the replies stand in the lines' order, and the order line is last
pub record IsShownBy {C : Type 0} (m : CallMeaning C) (tree : Tree) (number limit : ℕ) (book : Book C) (lines : List (Line C)) (text : List LineReply) : Type 0 where
  pub legal : IsLegal m tree number limit book
  pub replies : List LineReply
  pub text_is : text ≡ replies ++ order_of book ∷ []
  pub each : HasReplies lines replies
  pub does : (s : ℕ) → Does m s (start tree number limit) book (printed_of s lines replies)

-- the text is of replies that the book of one core shows, over each tree that the other was opened over, with that one's number and limit
abbrev pub ShowsText : {B : Type 0} → CallMeaning BookCall → (B → Option Entries) → CoreView BookCall B → CoreView BookCall B → List Entry → List ℕ → Type 0
ShowsText m told first core entries text =
    (lines : List LineReply) × (text ≡ flat_map reply_text lines)
    × ((t : Tree) → StandsFor (told first.opening) t → IsShownBy m t first.number first.limit core.book (lines_in entries) lines)

-- each text of the one kind is one of the other too
abbrev pub EachTextIs : (List LineReply → Type 0) → (List LineReply → Type 0) → Type 0
EachTextIs one other = (text : List LineReply) → one text → other text
