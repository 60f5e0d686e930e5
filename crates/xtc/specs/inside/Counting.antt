-- What running lines of the generator's script leaves of the core, the files and the summary of a store.
use Rattle.std.specs.Prelude.{◌≡◌, ◌≤◌, ℕ, Bool, false, IsTrue, List, [], ◌++◌, length, Option, None, Result, Ok, Err}
use Rattle.outside_traits.specs.DiskPairs.{Pair, PairsHave, PairsLeave}
use Rattle.outside_traits.specs.Moments.{History}
use Rattle.outside_traits.specs.declared.disk.Disk.{Ghosts as DiskOf}
use Rattle.tree_model.specs.Entries.{Entries}
use Rattle.journal.specs.Views.{JournalView}
use Rattle.call_contract.specs.States.{State}
use Rattle.session_driver.specs.Asking.{BookCall}
use Rattle.command_lines.specs.declared.line_reply.LineReply.{LineReply}
use Rattle.session_driver.specs.Lines.{Asked}
use Rattle.tx_core.specs.Cores.{CoreView}
use Rattle.checkpoint.specs.declared.base.Base.{Base}
use Rattle.store_calls.specs.StoreCalls.{IsValidStoreCall, store_meaning}
use Rattle.workload_gen.specs.declared.line.Line.{Line}
use Rattle.workload_gen.specs.declared.summary.Summary.{Summary}
use Rattle.durable_sessions.specs.Asked.{LeadsTo}
use Rattle.durable_sessions.specs.Durable.{HoldsEither}
use Rattle.durable_sessions.specs.InTurn.{AskNoCommit, AskedInTurn, StopsBy, stop_of}
use Rattle.durable_sessions.specs.Reasons.{first_reason, limit_of}
use Rattle.durable_sessions.specs.declared.halt.Halt.{Halt}
use Rattle.durable_sessions.specs.declared.in_turn.Stop.{Stop}
use Rattle.xtc.specs.Book.{after_asked}
use Rattle.xtc.specs.Checkpoints.{is_positive}
use Rattle.xtc.specs.Generated.{counted, generated}
use Rattle.xtc.specs.Statuses.{status_of_stop}
use Rattle.xtc.specs.StoreMachine.{HasPages, HasRested, KeptStore, Stands, file_in, file_of}
use Rattle.xtc.specs.TopCall.{StopsAtRefusal}
use Rattle.xtc.specs.declared.checkpoints.Checkpoints.{Checkpoints}
use Rattle.xtc.specs.declared.status.Status.{Status}
use Rattle.xtc.specs.declared.status.Status.TheVariants.{DocumentRefused, DiskFault, NoMemory, Damaged}
use Rattle.xtc.specs.inside.Asking.{AreValidAsks, EachState, HoldsFirst, LeavesFirst, Stopped, after, said}
use Rattle.xtc.specs.inside.Renewing.{FromState, StandFor, files_of, kept}

-- ---- one line

-- what a line asks was answered so
pub record Made {B : Type 0} (contents : B → Option Entries) (is_known : Bool) (s : State BookCall) (asked : List (Asked BookCall)) (old : History) (core : CoreView BookCall B) (new : History) (said_now : List LineReply) : Type 0 where
  pub few : length asked ≤ 1
  pub valid : AreValidAsks asked
  pub leads : LeadsTo store_meaning contents is_known old core new s (after s asked)
  pub moments : LeavesFirst is_known s asked old new
  pub still : AskNoCommit asked → new ≡ old
  pub replies : said_now ≡ said s asked

-- or it stopped
abbrev pub AskedLine : {B T : Type 0} → (B → Option Entries) → Bool → State BookCall → List (Asked BookCall) → History → CoreView BookCall B → History → List LineReply → Result T Halt → Type 0
AskedLine contents is_known s asked old core new said_now (Ok done) = Made contents is_known s asked old core new said_now
AskedLine contents is_known s asked old core new said_now (Err halt) = Stopped limit_of is_known s asked old new (stop_of halt)

-- so it is from each state that the core stood in
abbrev pub AsksLine : {B J T : Type 0} → (B → Option Entries) → DiskOf J → List (Asked BookCall) → (core core_now : CoreView BookCall B) → (journal journal_now : JournalView) → List LineReply → Result T Halt → Type 0
AsksLine contents j asked core core_now journal journal_now said_now result =
    EachState contents core (λ s. AskedLine contents j.is_known s asked journal.history core_now journal_now.history said_now result)

-- what a line asks was asked in turn from each state that the core stood in, up to a begin or commit that the numbers refuse, and was said this
abbrev pub DoesInTurn : {B J T : Type 0} → (B → Option Entries) → DiskOf J → List (Asked BookCall) → (core core_now : CoreView BookCall B) → (journal journal_now : JournalView) → List LineReply → Result T Stop → Type 0
DoesInTurn contents j asked core core_now journal journal_now said_now result =
    EachState contents core (λ s. AskedInTurn IsValidStoreCall store_meaning contents limit_of j.is_known s asked journal.history core_now journal_now.history [] said_now result)

-- ---- lines, over both files

-- two files stand for what is committed after the first of these
abbrev pub HoldFirstAsked : State BookCall → List (Asked BookCall) → List ℕ → List ℕ → Type 0
HoldFirstAsked s asked journal pages = HoldsFirst s asked pages journal

-- or for what is committed in the one state or in the other
abbrev pub HoldOneOf : State BookCall → State BookCall → List ℕ → List ℕ → Type 0
HoldOneOf s t journal pages = HoldsEither s t pages journal

-- these were asked and answered: the core stands behind them, with their entries in its book, and so do the files; on the way a crash leaves what the first of them have committed
pub record AnsweredOver {P : Type 0} (is_known : Bool) (history : P → History) (s : State BookCall) (asked : List (Asked BookCall)) (old new : KeptStore P) : Type 0 where
  pub valid : AreValidAsks asked
  pub unrefused : first_reason limit_of (said s asked) ≡ None
  pub stands : Stands is_known history new.core (after s asked)
  pub book : new.core.book ≡ old.core.book ++ (after_asked s asked).book
  pub moments : PairsLeave (HoldFirstAsked s asked) (files_of history old) (files_of history new)
  pub files : StandFor (after s asked) (files_of history new)

-- these lines were done to their end, and what they were answered is counted
pub record AllCounted {P : Type 0} (is_known : Bool) (history : P → History) (s : State BookCall) (lines : List Line) (old new : KeptStore P) (before now : Summary) : Type 0 where
  pub answered : AnsweredOver is_known history s (generated lines) old new
  pub counts : now ≡ counted s before lines

-- the first were answered, and it stopped behind them or within the next one, with this status
pub record StoppedOver (s : State BookCall) (all : List (Asked BookCall)) (old new : Pair) (status : Status) : Type 0 where
  pub stop : Stop
  pub named : status ≡ status_of_stop stop
  pub answered : List (Asked BookCall)
  pub more : List (Asked BookCall)
  pub rest : List (Asked BookCall)
  pub parts : answered ++ (more ++ rest) ≡ all
  pub one : length more ≤ 1
  pub valid : AreValidAsks (answered ++ more)
  pub stops : StopsAtRefusal limit_of s (answered ++ more)
  pub cause : StopsBy limit_of stop (said s answered) more
  pub moments : PairsLeave (HoldFirstAsked s (answered ++ more)) old new
  pub left : PairsHave (HoldOneOf (after s answered) (after s (answered ++ more))) new

-- the one or the other
abbrev pub RanLines : {P T : Type 0} → Bool → (P → History) → State BookCall → List Line → KeptStore P → KeptStore P → Summary → Summary → Result T Status → Type 0
RanLines is_known history s lines old new before now (Ok done) = AllCounted is_known history s lines old new before now
RanLines is_known history s lines old new before now (Err status) = StoppedOver s (generated lines) (files_of history old) (files_of history new) status

-- the first of them were done, and these are left
pub record HasRun {P : Type 0} (is_known : Bool) (history : P → History) (s : State BookCall) (lines rest : List Line) (old new : KeptStore P) (before now : Summary) : Type 0 where
  pub front : List Line
  pub parts : front ++ rest ≡ lines
  pub done : AllCounted is_known history s front old new before now

-- these lines were run by a core, a journal and checkpoints, from a state that the core stood in
abbrev pub RunsLines : {J P T : Type 0} → DiskOf J → DiskOf P → List Line → (core core_now : CoreView BookCall (Base P)) → (journal journal_now : JournalView)
    → (k k_now : Checkpoints P) → (before now : Summary) → Result T Status → Type 0
RunsLines j p lines core core_now journal journal_now k k_now before now result = FromState j.is_known p.is_known p.history (kept core journal k)
    (λ s. RanLines p.is_known p.history s lines (kept core journal k) (kept core_now journal_now k_now) before now result)

-- ---- what stays

-- a line may be asked next, of a store that was opened as before
pub record GoesOn {P : Type 0} (is_known : Bool) (history : P → History) (old new : KeptStore P) : Type 0 where
  pub rested : HasRested is_known history new
  pub opening : new.core.opening ≡ old.core.opening
  pub number : new.core.number ≡ old.core.number
  pub every : new.checkpoints.every ≡ old.checkpoints.every

-- the pages are in the base, or were handed out; where no checkpoints are made a known file of them is as it was
pub record LeftPages {P : Type 0} (is_known : Bool) (history : P → History) (every : ℕ) (old : History) (base : Base P) (pages : Option P) : Type 0 where
  pub has : HasPages base pages
  pub still : IsTrue is_known → is_positive every ≡ false → file_of history base pages ≡ old

-- so it is of the pages of a store, by what it was and what it is now
abbrev pub HasLeftPages : {P : Type 0} → DiskOf P → KeptStore P → KeptStore P → Type 0
HasLeftPages p old new = LeftPages p.is_known p.history old.checkpoints.every (file_in p.history old) new.core.base new.checkpoints.pages

-- a status with which lines stop; `lost`: it may be damage
abbrev pub IsStopIf : Bool → Status → Type 0
IsStopIf lost (DocumentRefused why) = Unit {0}
IsStopIf lost DiskFault = Unit {0}
IsStopIf lost NoMemory = Unit {0}
IsStopIf lost (Damaged place) = IsTrue lost
IsStopIf lost status = ⊥
