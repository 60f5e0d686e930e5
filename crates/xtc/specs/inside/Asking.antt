-- What the commands that ask in turn leave of the journal of a store, by their statuses, and what they write.
use Rattle.std.specs.Prelude.{◌≡◌, ◌≤◌, ◌+◌, ℕ, Bool, false, List, ◌++◌, length, Option, Some, Result, Ok, Err}
use Rattle.std.specs.declared.alloc.Global.{Global}
use Rattle.std.specs.declared.vec.Vec.{Vec}
use Rattle.outside_traits.specs.Bytes.{Gave}
use Rattle.outside_traits.specs.Moments.{History}
use Rattle.outside_traits.specs.declared.disk.Disk.{Ghosts as DiskOf}
use Rattle.tree_model.specs.Entries.{Entries}
use Rattle.tree_model.specs.Names.{Name}
use Rattle.tree_model.specs.Tree.{Tree}
use Rattle.tree_model.specs.declared.fragment.Fragment.{Fragment}
use Rattle.node_seq.specs.Trees.{StandsFor}
use Rattle.journal.specs.Views.{JournalView}
use Rattle.call_contract.specs.States.{State, start}
use Rattle.session_driver.specs.Asking.{BookCall}
use Rattle.command_lines.specs.declared.line_reply.LineReply.{LineReply}
use Rattle.session_driver.specs.Lines.{Asked, AreValid}
use Rattle.session_driver.specs.Progress.{Progress}
use Rattle.session_driver.specs.declared.doing.Doing.{Doing}
use Rattle.script_runs.specs.Counts.{Counts, DisksCountedWhere}
use Rattle.script_runs.specs.Whole.{IsPast, piece}
use Rattle.tx_core.specs.Cores.{CoreView}
use Rattle.store_calls.specs.StoreCalls.{IsValidStoreCall, store_meaning}
use Rattle.durable_sessions.specs.Asked.{LeadsTo, asked_from}
use Rattle.durable_sessions.specs.InTurn as turn
use Rattle.durable_sessions.specs.Standing as standing
use Rattle.durable_sessions.specs.declared.in_turn.Stop.{Stop}
use Rattle.durable_sessions.specs.declared.reasons.Reason.{Reason}
use Rattle.command_words.specs.Commands.{Command, put}
use Rattle.xtc.specs.Commands.{may_commit}
use Rattle.xtc.specs.Documents.{asks_of, element_in, stops_at, text_of}
use Rattle.xtc.specs.Outside.{Input, Through}
use Rattle.xtc.specs.TopCall.{AreFirst, IsDocumentEnd, IsWhole, IsWithin, NeedsWhole, StopsAtRefusal, slack, tx_limit, whole_limit}
use Rattle.xtc.specs.declared.status.Status.{Status}
use Rattle.xtc.specs.declared.status.Status.TheVariants.{Done, Usage, LineTooLong, Damaged, ReadFault, WriteFault, DiskFault, NoMemory, NotJsonMl, DocumentRefused}

-- ---- the states of the store's sessions

-- a fact of each state that a core stands in
abbrev pub EachState : {B : Type 0} → (B → Option Entries) → CoreView BookCall B → (State BookCall → Type 0) → Type 0
EachState contents core Q = standing.FromEach store_meaning contents core Q

-- a fact of each state that a store may be opened in, over this map and with this number
abbrev pub FromOpening : Option Entries → ℕ → (State BookCall → Type 0) → Type 0
FromOpening map number Q = (t : Tree) → StandsFor map t → Q (start t number tx_limit)

-- what a session that is asked this does from a state
abbrev pub done_for : State BookCall → ℕ → Doing BookCall → Progress BookCall
done_for s session doing = asked_from store_meaning s session doing

-- each state that the core stood in has led to this one
abbrev pub LeadsEach : {B J : Type 0} → (B → Option Entries) → DiskOf J → (core core_now : CoreView BookCall B) (journal journal_now : JournalView) → (State BookCall → State BookCall) → Type 0
LeadsEach contents j core core_now journal journal_now next =
    EachState contents core (λ s. LeadsTo store_meaning contents j.is_known journal.history core_now journal_now.history s (next s))

-- ---- asking in turn, of the store's calls

-- session 1 is asked these
abbrev pub all_asks : List (Doing BookCall) → List (Asked BookCall)
all_asks doings = turn.all_asks 1 doings

abbrev pub AreValidAsks : List (Asked BookCall) → Type 0
AreValidAsks asked = AreValid IsValidStoreCall asked

-- the state after these, and what was answered to them
abbrev pub after : State BookCall → List (Asked BookCall) → State BookCall
after s asked = turn.after store_meaning s asked

abbrev pub said : State BookCall → List (Asked BookCall) → List LineReply
said s asked = turn.said store_meaning s asked

-- beside these pages the journal stands for what is committed after the first of these, and so on the way
abbrev pub HoldsFirst : State BookCall → List (Asked BookCall) → List ℕ → List ℕ → Type 0
HoldsFirst s asked pages journal = turn.HoldsFirst store_meaning s asked pages journal

abbrev pub LeavesFirst : Bool → State BookCall → List (Asked BookCall) → History → History → Type 0
LeavesFirst is_known s asked old new = turn.LeavesFirst store_meaning is_known s asked old new

-- a crash now leaves what is committed after these, or after these and more
abbrev pub LeftEither : Bool → State BookCall → List (Asked BookCall) → List (Asked BookCall) → History → History → Type 0
LeftEither is_known s answered more old new = turn.LeftEither store_meaning is_known s answered more old new

-- the first were answered, and it stopped behind them or within the next one
abbrev pub Stopped : (LineReply → Option Reason) → Bool → State BookCall → List (Asked BookCall) → History → History → Stop → Type 0
Stopped by is_known s all old new stop = turn.Stopped IsValidStoreCall store_meaning by is_known s all old new stop

-- a status with which it stops
abbrev pub IsStop : Status → Type 0
IsStop (DocumentRefused why) = Unit {0}
IsStop DiskFault = Unit {0}
IsStop NoMemory = Unit {0}
IsStop status = ⊥

-- ---- what was written

-- the text that is to be written, or the status without one
abbrev pub ToWrite : Type 0
ToWrite = Result (Vec ℕ Global) Status

-- a status at which there was nothing to write
abbrev pub IsUnwritten : Status → Type 0
IsUnwritten Done = ⊥
IsUnwritten WriteFault = ⊥
IsUnwritten Usage = ⊥
IsUnwritten (Damaged place) = ⊥
IsUnwritten status = Unit {0}

-- a status without a text, of a store that was opened; damage among them, as a checkpoint may find it
abbrev pub IsQuiet : Status → Type 0
IsQuiet Done = ⊥
IsQuiet WriteFault = ⊥
IsQuiet Usage = ⊥
IsQuiet status = Unit {0}

-- a status with which writing ends
abbrev pub IsWriteEnd : Status → Type 0
IsWriteEnd Done = Unit {0}
IsWriteEnd WriteFault = Unit {0}
IsWriteEnd status = ⊥

-- the faults that a journal's disk has counted, with so many of the pages'
abbrev pub counts_with : JournalView → ℕ → Counts
counts_with journal pages = record { journal = journal.faults; pages = pages }

-- a disk's fault is counted where that is the status, and none where it isn't
abbrev pub CountsDiskFault : {T : Type 0} → Result T Status → Counts → Counts → Type 0
CountsDiskFault result before now = DisksCountedWhere (result ≡ Err DiskFault) before now

-- ---- a command of one document, from a state on and with this input

-- what it did to the journal, by its status
pub record DocumentWent (is_known : Bool) (s : State BookCall) (c : Command) (read : List ℕ) (old new : History) (status : Status) : Type 0 where
  pub answered : List (Asked BookCall)
  pub more : List (Asked BookCall)
  pub first : AreFirst (answered ++ more) (asks_of c s read)
  pub few : length more ≤ slack status
  pub valid : AreValidAsks (answered ++ more)
  pub stops : StopsAtRefusal (stops_at c) s (answered ++ more)
  pub end : IsDocumentEnd c s read status (answered ++ more)
  pub short : IsWithin status (length read)
  pub moments : LeavesFirst is_known s (answered ++ more) old new
  pub left : LeftEither is_known s answered more old new
  pub still : may_commit (Some c) ≡ false → new ≡ old

-- it went to its end, and this text is to be written; or it stopped
pub record HasText (is_known : Bool) (s : State BookCall) (c : Command) (read : List ℕ) (old new : History) (text : List ℕ) : Type 0 where
  pub went : DocumentWent is_known s c read old new Done
  pub shown : text ≡ text_of c s (went.answered ++ went.more)

abbrev pub DocumentDone : {T : Type 0} → Bool → State BookCall → Command → List ℕ → History → History → (T → List ℕ) → Result T Status → Type 0
DocumentDone is_known s c read old new bytes (Ok text) = HasText is_known s c read old new (bytes text)
DocumentDone is_known s c read old new bytes (Err status) = DocumentWent is_known s c read old new status

-- the same, and what needs the whole input; `whole` says that it was read to its end
pub record WentAndJudged (is_known : Bool) (s : State BookCall) (c : Command) (read : List ℕ) (whole : Type 0) (old new : History) (status : Status) : Type 0 where
  pub went : DocumentWent is_known s c read old new status
  pub judged : NeedsWhole status (went.answered ++ went.more) whole

abbrev pub InputDone : {T : Type 0} → Bool → State BookCall → Command → List ℕ → Type 0 → History → History → (T → List ℕ) → Result T Status → Type 0
InputDone is_known s c read whole old new bytes (Ok text) = HasText is_known s c read old new (bytes text) × whole
InputDone is_known s c read whole old new bytes (Err status) = WentAndJudged is_known s c read whole old new status

-- some bytes were read of an input that is read as a whole, a piece more than it may have at most, and of these this holds
abbrev pub HasReadWhole : Through Input → (List ℕ → Type 0) → Type 0
HasReadWhole input Q = (read : List ℕ) × Gave input.before.left input.now.left read × (input.now.given ≡ input.before.given + length read) × (length read ≤ whole_limit + piece) × Q read

-- the input was read as a whole and put as a document, from each state of the store that `From` speaks of
abbrev pub PutsInput : {J : Type 0} → ((State BookCall → Type 0) → Type 0) → DiskOf J → Name → Through Input → (journal journal_now : JournalView) → ToWrite → Type 0
PutsInput From j name input journal journal_now result =
    HasReadWhole input (λ read. From (λ s. InputDone j.is_known s (put name) read (IsWhole input.now.left read) journal.history journal_now.history (λ text. text.items) result))

-- so it is where an input was judged
abbrev pub IfJudged : {T : Type 0} → Result T Status → Type 0 → Type 0
IfJudged (Ok element) P = P
IfJudged (Err (NotJsonMl why)) P = P
IfJudged (Err status) P = Unit {0}

-- the whole input is this element, or why it isn't had
abbrev pub IsReadElement : List ℕ → Result Fragment Status → Type 0
IsReadElement read (Ok element) = (element_in read ≡ Ok element) × (length read ≤ whole_limit)
IsReadElement read (Err (NotJsonMl why)) = (element_in read ≡ Err why) × (length read ≤ whole_limit)
IsReadElement read (Err (LineTooLong line)) = (line ≡ 0) × IsPast whole_limit (length read)
IsReadElement read (Err ReadFault) = length read ≤ whole_limit
IsReadElement read (Err NoMemory) = length read ≤ whole_limit + piece
IsReadElement read (Err status) = ⊥

-- an element that was read so was put as a document, from each state that the core stood in
abbrev pub PutsElement : {B J : Type 0} → (B → Option Entries) → DiskOf J → Name → Fragment → CoreView BookCall B → (journal journal_now : JournalView) → ToWrite → Type 0
PutsElement contents j name element core journal journal_now result = EachState contents core (λ s. (read : List ℕ) → element_in read ≡ Ok element → length read ≤ whole_limit
    → DocumentDone j.is_known s (put name) read journal.history journal_now.history (λ text. text.items) result)
