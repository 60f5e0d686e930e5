-- What asking sessions in turn leaves of the core and the journal, up to the first reply by which there is a reason to stop.
use Rattle.std.specs.Prelude.{◌≡◌, ◌≢◌, ◌≤◌, ℕ, Bool, List, [], ◌++◌, length, map, Option, None, Some, Result, Ok, Err, IsTrue}
use Rattle.std.specs.List.{AllByRecursion}
use Rattle.std.specs.declared.vec.Vec.{Vec}
use Rattle.outside_traits.specs.CrashImages.{IsImage}
use Rattle.outside_traits.specs.Moments.{History, LeavesOnly}
use Rattle.tree_model.specs.Entries.{Entries}
use Rattle.journal.specs.Views.{JournalView}
use Rattle.call_contract.specs.Calls.{CallMeaning}
use Rattle.call_contract.specs.States.{State}
use Rattle.command_lines.specs.declared.line_reply.LineReply.{LineReply}
use Rattle.session_driver.specs.Lines.{Asked, AreValid, after_lines, asking}
use Rattle.session_driver.specs.declared.doing.Doing.{Doing}
use Rattle.session_driver.specs.declared.doing.Doing.TheVariants.{Commit}
use Rattle.tx_core.specs.Cores.{CoreView}
use Rattle.durable_sessions.specs.Asked.{LeadsTo}
use Rattle.durable_sessions.specs.Durable.{HoldState, HoldsAll, HoldsEither}
use Rattle.durable_sessions.specs.Reasons.{first_reason, reason_of}
use Rattle.durable_sessions.specs.Standing.{FromEach}
use Rattle.durable_sessions.specs.declared.halt.Halt.{Halt}
use Rattle.durable_sessions.specs.declared.halt.Halt.TheVariants as halt
use Rattle.durable_sessions.specs.declared.in_turn.Stop.{Stop}
use Rattle.durable_sessions.specs.declared.in_turn.Stop.TheVariants.{Refused, DiskFault, NoMemory}
use Rattle.durable_sessions.specs.declared.reasons.Reason.{Reason}

-- ---- what is asked

-- a session is asked these
abbrev pub all_asks : {C : Type 0} → ℕ → List (Doing C) → List (Asked C)
all_asks session doings = map (λ doing. asking session doing) doings

-- no commit is asked for
abbrev pub AskNoCommit : {C : Type 0} → List (Asked C) → Type 0
AskNoCommit asked = AllByRecursion (λ a. a.doing ≢ Commit) asked

-- the state after these, and what was answered to them
abbrev pub after : {C : Type 0} → CallMeaning C → State C → List (Asked C) → State C
after m s asked = (after_lines m s asked).state

abbrev pub said : {C : Type 0} → CallMeaning C → State C → List (Asked C) → List LineReply
said m s asked = (after_lines m s asked).lines

-- nothing was asked behind a reply by which there is a reason to stop: all of these but the last one at most were answered, and there was none
pub record StopsAtRefusal {C : Type 0} (m : CallMeaning C) (by : LineReply → Option Reason) (st : State C) (asked : List (Asked C)) : Type 0 where
  pub front : List (Asked C)
  pub last : List (Asked C)
  pub parts : front ++ last ≡ asked
  pub one : length last ≤ 1
  pub unrefused : first_reason by (said m st front) ≡ None

-- ---- the journal

-- beside these pages it stands for what is committed after the first of these
pub record HoldsFirst {C : Type 0} (m : CallMeaning C) (s : State C) (asked : List (Asked C)) (pages journal : List ℕ) : Type 0 where
  pub first : List (Asked C)
  pub rest : List (Asked C)
  pub parts : first ++ rest ≡ asked
  pub holds : HoldState (after m s first) journal pages

-- a crash on the way leaves that
abbrev pub LeavesFirst : {C : Type 0} → CallMeaning C → Bool → State C → List (Asked C) → History → History → Type 0
LeavesFirst m is_known s asked old new = IsTrue is_known → (pages : List ℕ) → HoldsAll s pages old → LeavesOnly (HoldsFirst m s asked pages) old new

-- a crash now leaves what is committed after these, or after these and more
abbrev pub LeftEither : {C : Type 0} → CallMeaning C → Bool → State C → List (Asked C) → List (Asked C) → History → History → Type 0
LeftEither m is_known s answered more old new = IsTrue is_known → (pages : List ℕ) → HoldsAll s pages old → (image : List ℕ) → IsImage new.now image
    → HoldsEither (after m s answered) (after m s (answered ++ more)) pages image

-- ---- how it ends

-- why no more is asked where sessions can't go on
abbrev pub stop_of : Halt → Stop
stop_of halt.DiskFault = DiskFault
stop_of halt.NoMemory = NoMemory

-- why it stops: the last answer is a reason to, or there was none
abbrev pub StopsBy : {C : Type 0} → (LineReply → Option Reason) → Stop → List LineReply → List (Asked C) → Type 0
StopsBy by (Refused why) lines more = (first_reason by lines ≡ Some why) × (more ≡ [])
StopsBy by DiskFault lines more = Unit {0}
StopsBy by NoMemory lines more = Unit {0}

-- the first were answered, and it stopped behind them or within the next one
pub record Stopped {C : Type 0} (is_valid : C → Type 0) (m : CallMeaning C) (by : LineReply → Option Reason) (is_known : Bool) (s : State C) (all : List (Asked C)) (old new : History) (stop : Stop) : Type 0 where
  pub answered : List (Asked C)
  pub more : List (Asked C)
  pub rest : List (Asked C)
  pub parts : answered ++ (more ++ rest) ≡ all
  pub one : length more ≤ 1
  pub valid : AreValid is_valid (answered ++ more)
  pub moments : LeavesFirst m is_known s (answered ++ more) old new
  pub left : LeftEither m is_known s answered more old new
  pub still : AskNoCommit all → new ≡ old
  pub stops : StopsAtRefusal m by s (answered ++ more)
  pub cause : StopsBy by stop (said m s answered) more

-- all were answered, and by no reply there was a reason to stop
pub record AllAnswered {C B : Type 0} (is_valid : C → Type 0) (m : CallMeaning C) (contents : B → Option Entries) (by : LineReply → Option Reason) (is_known : Bool) (s : State C) (all : List (Asked C))
    (old : History) (core : CoreView C B) (new : History) (before now : List LineReply) : Type 0 where
  pub valid : AreValid is_valid all
  pub leads : LeadsTo m contents is_known old core new s (after m s all)
  pub moments : LeavesFirst m is_known s all old new
  pub still : AskNoCommit all → new ≡ old
  pub replies : now ≡ before ++ said m s all
  pub unrefused : first_reason by (said m s all) ≡ None

abbrev pub AskedInTurn : {C B T : Type 0} → (C → Type 0) → CallMeaning C → (B → Option Entries) → (LineReply → Option Reason) → Bool → State C → List (Asked C)
    → History → CoreView C B → History → List LineReply → List LineReply → Result T Stop → Type 0
AskedInTurn is_valid m contents by is_known s all old core new before now (Ok done) = AllAnswered is_valid m contents by is_known s all old core new before now
AskedInTurn is_valid m contents by is_known s all old core new before now (Err stop) = Stopped is_valid m by is_known s all old new stop

-- a session is asked these from each state that the core stands in, and a refusal is a reason to stop
abbrev pub AsksInTurn : {C B T Z Y : Type 0} → (C → Type 0) → CallMeaning C → (B → Option Entries) → Bool → ℕ → Vec (Doing C) Z
    → CoreView C B → CoreView C B → JournalView → JournalView → Vec LineReply Y → Vec LineReply Y → Result T Stop → Type 0
AsksInTurn is_valid m contents is_known session doings old new journal journal_now before now result =
    FromEach m contents old (λ s. AskedInTurn is_valid m contents reason_of is_known s (all_asks session doings.items)
    journal.history new journal_now.history before.items now.items result)
