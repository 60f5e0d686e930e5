-- What driving lines over a core does to it and to the lines written, by what the lines are to do (docs/PROFILE.md, "Lines of sessions").
use Rattle.std.specs.Prelude.{◌≡◌, ◌<◌, ℕ, Bool, true, false, List, [], ◌∷◌, ◌++◌, length, Option, Some, None, is_some, IsTrue, Result, IfOk, IfSome}
use Rattle.tree_model.specs.Entries.{Entries}
use Rattle.tree_model.specs.declared.reply.Reply.TheVariants as reply
use Rattle.call_contract.specs.Books.{Book, entry}
use Rattle.call_contract.specs.Calls.{CallMeaning}
use Rattle.call_contract.specs.Sessions.{commits_in}
use Rattle.call_contract.specs.States.{State}
use Rattle.call_contract.specs.declared.events.Event.{Event}
use Rattle.call_contract.specs.declared.events.Event.TheVariants as event
use Rattle.call_contract.specs.declared.events.Event.TheVariants.{Fail}
use Rattle.call_contract.specs.declared.events.EventAnswer.TheVariants.{Number}
use Rattle.command_lines.specs.declared.line_reply.LineAnswer.TheVariants as line_answer
use Rattle.command_lines.specs.declared.line_reply.LineReply.{LineReply}
use Rattle.command_lines.specs.declared.line_reply.LineReply.TheVariants.{Said}
use Rattle.command_lines.specs.declared.line_reply.SessionRefusal.{SessionRefusal}
use Rattle.command_lines.specs.declared.line_reply.SessionRefusal.TheVariants as refusal
use Rattle.tx_core.specs.Commits.{HasChangesOf, IsPrepared}
use Rattle.tx_core.specs.Cores.{CoreView, InState, next_number, with_entry}
use Rattle.tx_core.specs.Refusals.{begin_refused, call_refused, abort_refused}
use Rattle.tx_core.specs.declared.commits.Prepared.{Prepared}
use Rattle.tx_core.specs.declared.errors.SessionError.{SessionError}
use Rattle.tx_core.specs.declared.errors.SessionError.TheVariants.{IsWaiting, InTransaction, NoTransaction, TxLimit, CommitLimit, NoMemory}
use Rattle.session_driver.specs.Lines.{Asked, after_line}
use Rattle.session_driver.specs.Progress.{Progress}
use Rattle.session_driver.specs.Refusals as refusals
use Rattle.session_driver.specs.declared.doing.Doing.{Doing}
use Rattle.session_driver.specs.declared.doing.Doing.TheVariants.{Begin, Commit, Abort, Call}

-- ---- refusals by the book

-- a refusal of the core, as a line has it
abbrev pub shown_why : SessionError → Option SessionRefusal
shown_why IsWaiting = Some refusal.IsWaiting
shown_why InTransaction = Some refusal.InTransaction
shown_why NoTransaction = Some refusal.NoTransaction
shown_why TxLimit = Some refusal.TxLimit
shown_why CommitLimit = Some refusal.CommitLimit
shown_why NoMemory = None

abbrev pub shown_of : Option SessionError → Option SessionRefusal
shown_of None = None
shown_of (Some e) = shown_why e

-- why the book refuses a line; of a commit, before it is looked at what it has changed
abbrev pub refused_by_book : {C B : Type 0} → CoreView C B → ℕ → Doing C → Option SessionRefusal
refused_by_book v s Begin = shown_of (begin_refused v s)
refused_by_book v s Commit = shown_of (call_refused v s)
refused_by_book v s Abort = shown_of (abort_refused v s)
refused_by_book v s (Call c) = shown_of (call_refused v s)

-- where the book refuses a line that is answered, this holds of why, and of the answer
abbrev pub IfRefused : {A C B E : Type 0} → CoreView C B → ℕ → Doing C → Result A E → (SessionRefusal → A → Type 0) → Type 0
IfRefused v s doing result Q = IfSome (refused_by_book v s doing) (λ why. IfOk result (λ a. Q why a))

-- one line more was written: why the session is refused
abbrev pub SaysWhy : ℕ → SessionRefusal → List LineReply → List LineReply → Type 0
SaysWhy s why before after = after ≡ before ++ Said s false (line_answer.Session why) ∷ []

-- ---- what was done

-- the core that was opened so, with further entries; of what is left to be made durable nothing is said
abbrev pub with_entries : {C B : Type 0} → CoreView C B → Book C → CoreView C B → CoreView C B
with_entries v b w = record v { book = v.book ++ b; base = w.base; committed = w.committed; prepared = w.prepared; undrained = w.undrained }

-- with the core that was opened so, and lines written: entries that commit nothing, and lines, were added at the end at most
pub record HasGrown {C B : Type 0} (old new : CoreView C B) (before after : List LineReply) : Type 0 where
  pub entries : Book C
  pub said : List LineReply
  pub core : new ≡ with_entries old entries new
  pub commits : commits_in entries ≡ 0
  pub out : after ≡ before ++ said

-- the session's commit is made: it is an entry, with the next number, and its line is written; what else was added stands behind them
abbrev pub HasMadeCommit : {C B : Type 0} → ℕ → CoreView C B → CoreView C B → List LineReply → List LineReply → Type 0
HasMadeCommit s old new before after = HasGrown (with_entry old (entry s event.Commit (Number (next_number old)))) new
    (before ++ Said s false (line_answer.Reply (reply.Number (next_number old))) ∷ []) after

-- all that was to be done is done: the entries stand in the book, and the lines are written
pub record HasDone {C B : Type 0} (old new : CoreView C B) (before after : List LineReply) (p : Progress C) : Type 0 where
  pub core : new ≡ with_entries old p.book new
  pub lines : after ≡ before ++ p.lines

-- an attempt that failed, or none
abbrev pub is_failure : {C : Type 0} → Event C → Bool
is_failure (Fail c k f) = true
is_failure e = false

abbrev pub IsFailureAtMost : {C : Type 0} → Book C → Type 0
IsFailureAtMost [] = Unit {0}
IsFailureAtMost (n ∷ []) = IsTrue (is_failure n.event)
IsFailureAtMost (n ∷ k ∷ b) = ⊥

-- the first entries of what was to be done stand in the book, with one of a failed attempt behind them at most, and its first lines are written
pub record HasBegun {C B : Type 0} (old new : CoreView C B) (before after : List LineReply) (p : Progress C) : Type 0 where
  pub entries : Book C
  pub rest : Book C
  pub failed : Book C
  pub said : List LineReply
  pub unsaid : List LineReply
  pub book : p.book ≡ entries ++ rest
  pub lines : p.lines ≡ said ++ unsaid
  pub failure : IsFailureAtMost failed
  pub core : new ≡ with_entries old (entries ++ failed) new
  pub out : after ≡ before ++ said

-- ---- a line

-- it is done; or it is a commit that isn't refused, of which is answered what is to be made durable before
abbrev pub IsDriven : {C B : Type 0} → CallMeaning C → State C → Asked C → CoreView C B → CoreView C B → List LineReply → List LineReply → Option Prepared → Type 0
IsDriven m st line old new before after None = HasDone old new before after (after_line m st line) × (line.doing ≡ Commit → IsTrue (is_some (refusals.refusal m st line.session Commit)))
IsDriven m st line old new before after (Some p) = (line.doing ≡ Commit) × (refusals.refusal m st line.session Commit ≡ None) × HasChangesOf m st line.session p

-- ---- a line over a core, from the state that the core's book has led to

-- it is driven so
abbrev pub DrivesLine : {C B : Type 0} → CallMeaning C → (B → Option Entries) → Asked C → CoreView C B → CoreView C B → List LineReply → List LineReply → Option Prepared → Type 0
DrivesLine m contents line old new before after p = InState m contents old (λ st. IsDriven m st line old new before after p)

-- a first part of all that it leads to is done
abbrev pub BeginsLine : {C B : Type 0} → CallMeaning C → (B → Option Entries) → Asked C → CoreView C B → CoreView C B → List LineReply → List LineReply → Type 0
BeginsLine m contents line old new before after = InState m contents old (λ st. HasBegun old new before after (after_line m st line))

-- where it isn't refused, all of that is, or a first part
abbrev pub DoesUnrefused : {C B : Type 0} → CallMeaning C → (B → Option Entries) → Asked C → CoreView C B → CoreView C B → List LineReply → List LineReply → Type 0
DoesUnrefused m contents line old new before after = InState m contents old (λ st. refusals.refusal m st line.session line.doing ≡ None
    → HasDone old new before after (after_line m st line))

abbrev pub BeginsUnrefused : {C B : Type 0} → CallMeaning C → (B → Option Entries) → Asked C → CoreView C B → CoreView C B → List LineReply → List LineReply → Type 0
BeginsUnrefused m contents line old new before after = InState m contents old (λ st. refusals.refusal m st line.session line.doing ≡ None
    → HasBegun old new before after (after_line m st line))

-- ---- a commit between its preparing and its making

-- the line is a commit that was prepared, and this it is: of it nothing is done yet, and there is room for its line
pub record IsReadyToCommit {C B : Type 0} (old new : CoreView C B) (session : ℕ) (doing : Doing C) (before after : List LineReply) (capacity : ℕ) (p : Prepared) : Type 0 where
  pub asked : doing ≡ Commit
  pub core : new ≡ record old { prepared = Some session }
  pub commit : IsPrepared old p
  pub unsaid : after ≡ before
  pub room : length after < capacity

-- this is the session's commit, which was prepared in this core, and there is room for its line
pub record MayFinishCommit {C B : Type 0} (core : CoreView C B) (session : ℕ) (p : Prepared) (lines : List LineReply) (capacity : ℕ) : Type 0 where
  pub prepared : core.prepared ≡ Some session
  pub commit : IsPrepared core p
  pub room : length lines < capacity
