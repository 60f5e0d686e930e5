-- What a command that shows something of a document comes to.
use Rattle.std.specs.Prelude.{◌≡◌, ◌++◌, ◌∷◌, ℕ, Bool, List, [], false, Option, Some, Ok, IsTrue}
use Rattle.outside_traits.specs.DiskPairs.{Pair}
use Rattle.outside_traits.specs.Moments.{History}
use Rattle.path_model.specs.Lawful.{is_lawful}
use Rattle.dewey_labels.specs.Labels.{Label}
use Rattle.tree_model.specs.Entries.{Entries}
use Rattle.tree_model.specs.Names.{Name}
use Rattle.tree_model.specs.Tree.{Tree}
use Rattle.node_seq.specs.Trees.{StandsFor}
use Rattle.call_contract.specs.States.{State, start}
use Rattle.tree_model.specs.declared.reply.Reply.{Reply}
use Rattle.tree_model.specs.declared.reply.Reply.TheVariants as reply
use Rattle.session_driver.specs.Asking.{BookCall}
use Rattle.command_lines.specs.declared.line_reply.LineAnswer.TheVariants as answer
use Rattle.command_lines.specs.declared.line_reply.LineReply.{LineReply}
use Rattle.command_lines.specs.declared.line_reply.LineReply.TheVariants.{Said}
use Rattle.session_driver.specs.Lines.{Asked}
use Rattle.command_words.specs.Commands.{Command}
use Rattle.xtc.specs.Book.{after_asked}
use Rattle.xtc.specs.Checkpoints.{tries}
use Rattle.xtc.specs.Commands.{may_commit, reads_input}
use Rattle.durable_sessions.specs.Reasons.{reason_of}
use Rattle.durable_sessions.specs.declared.in_turn.Stop.{Stop}
use Rattle.durable_sessions.specs.declared.in_turn.Stop.TheVariants.{Refused, DiskFault, NoMemory}
use Rattle.store_calls.specs.StoreCalls.{IsValidStoreCall, store_meaning}
use Rattle.xtc.specs.Documents.{answer_line, asks_of, call_of, show_asks, stops_at, text_of}
use Rattle.xtc.specs.TopCall.{CommandRan, DocumentRan, Outcome, tx_limit}
use Rattle.xtc.specs.declared.question.Question.{Question}
use Rattle.xtc.specs.declared.question.Question.TheVariants.{Whole, FoundBy}
use Rattle.xtc.specs.declared.status.Status.{Status}
use Rattle.xtc.specs.inside.Asking.{AreValidAsks, DocumentDone, ToWrite, said}

-- a path is lawful, as one that was read is
abbrev pub IsLawful : Question → Type 0
IsLawful Whole = Unit {0}
IsLawful (FoundBy path) = IsTrue (is_lawful path)

-- nothing was refused: a disk failed, or memory was wanting
abbrev pub IsHalt : Stop → Type 0
IsHalt (Refused why) = ⊥
IsHalt DiskFault = Unit {0}
IsHalt NoMemory = Unit {0}

-- session 1 is answered at once
abbrev pub said_line : Reply → LineReply
said_line r = Said 1 false (answer.Reply r)

-- what is asked of the document with a name is valid, and these are its lines
pub record AreLinesOf (s : State BookCall) (name : Name) (q : Question) (lines : List LineReply) : Type 0 where
  pub valid : AreValidAsks (show_asks s name q)
  pub same : lines ≡ said s (show_asks s name q)

-- the answer to this at a label stands behind these lines, and that to the abort
pub record AddsAnswer (q : Question) (at : Label) (t : Tree) (before now : List LineReply) : Type 0 where
  pub valid : IsValidStoreCall (call_of q at)
  pub lines : now ≡ before ++ said_line (store_meaning.reply (call_of q at) t) ∷ said_line reply.Nothing ∷ []

-- from a state on the command asks this of the document with a name, and writes the answer
pub record Shows (c : Command) (s : State BookCall) (name : Name) (q : Question) : Type 0 where
  pub asks : asks_of c s [] ≡ Ok (show_asks s name q)
  pub stops : stops_at c ≡ reason_of
  pub text : (asked : List (Asked BookCall)) → text_of c s asked ≡ answer_line q (after_asked s asked).lines
  pub uncommitted : may_commit (Some c) ≡ false

-- a command of a document that reads no input
pub record IsOfShown (c : Command) : Type 0 where
  pub unread : reads_input (Some c) ≡ false
  pub untried : (every : ℕ) → tries (Some c) every ≡ false
  pub ran : (t : Tree) (n limit : ℕ) (status : Status) (opening : Pair) (o : Outcome) → DocumentRan t n limit c status opening o → CommandRan t n limit (Some c) status opening o

-- such a command was done over this map, with this number: no input is read, and any journal stays
abbrev pub ShowsBy : Option Entries → ℕ → Command → ToWrite → Type 0
ShowsBy map number c result = (is_known : Bool) (journal : History) (t : Tree) → StandsFor map t → DocumentDone is_known (start t number tx_limit) c [] journal journal (λ text. text.items) result

-- so was each command that asks this of the document with a name
abbrev pub ShowsAsked : Option Entries → ℕ → Name → Question → ToWrite → Type 0
ShowsAsked map number name q result = (is_known : Bool) (journal : History) (c : Command) (t : Tree) → StandsFor map t → Shows c (start t number tx_limit) name q
    → DocumentDone is_known (start t number tx_limit) c [] journal journal (λ text. text.items) result
