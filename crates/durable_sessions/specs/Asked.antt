-- What one thing that a session is asked leaves of the core and the journal.
use Rattle.std.specs.Prelude.{◌≡◌, ◌≢◌, ◌≤◌, ◌++◌, ℕ, Bool, List, Option, IsTrue}
use Rattle.std.specs.declared.alloc.Global.{Global}
use Rattle.std.specs.declared.vec.Vec.{Vec}
use Rattle.outside_traits.specs.Moments.{History, LeavesOnly}
use Rattle.tree_model.specs.Entries.{Entries}
use Rattle.journal.specs.Groups.{is_next}
use Rattle.journal.specs.Views.{JournalView, TakesGroups}
use Rattle.script_runs.specs.Counts.{Counts}
use Rattle.call_contract.specs.Calls.{CallMeaning}
use Rattle.call_contract.specs.Books.{Book}
use Rattle.call_contract.specs.Sessions.{commits_in}
use Rattle.call_contract.specs.States.{State}
use Rattle.command_lines.specs.declared.line_reply.LineReply.{LineReply}
use Rattle.tx_core.specs.Cores.{CoreView, next_number}
use Rattle.session_driver.specs.Lines.{after_line, asking}
use Rattle.session_driver.specs.Progress.{Progress}
use Rattle.session_driver.specs.declared.doing.Doing.{Doing}
use Rattle.session_driver.specs.declared.doing.Doing.TheVariants.{Commit}
use Rattle.durable_sessions.specs.Durable.{HoldsAll, HoldsEither}
use Rattle.durable_sessions.specs.Standing.{FromEach, Stands}

-- ---- before it

-- the journal takes the core's next commit
pub record TakesNext {C B : Type 0} (core : CoreView C B) (journal : JournalView) : Type 0 where
  pub usable : TakesGroups journal
  pub next : IsTrue (is_next journal.last (next_number core))

-- ---- what it leaves

-- what a session that is asked this does from a state
abbrev pub asked_from : {C : Type 0} → CallMeaning C → State C → ℕ → Doing C → Progress C
asked_from m s session doing = after_line m s (asking session doing)

-- a fact of each state that the core stands in, and of what a session that is asked this does from it
abbrev pub OfAsked : {C B : Type 0} → CallMeaning C → (B → Option Entries) → CoreView C B → ℕ → Doing C → (State C → Progress C → Type 0) → Type 0
OfAsked m contents core session doing Q = FromEach m contents core (λ s. Q s (asked_from m s session doing))

-- from the one state it has led to the other, in which the core is then; beside the pages beside which the journal held the one it holds the other
pub record LeadsTo {C B : Type 0} (m : CallMeaning C) (contents : B → Option Entries) (is_known : Bool) (old : History) (core : CoreView C B) (new : History) (s t : State C) : Type 0 where
  pub stands : Stands m contents core t
  pub settled : IsTrue is_known → (pages : List ℕ) → HoldsAll s pages old → HoldsAll t pages new

-- on the way from the one to the other a crash leaves what was committed in the one or is in the other
abbrev pub LeavesEither : {C : Type 0} → Bool → History → History → State C → State C → Type 0
LeavesEither is_known old new s t = IsTrue is_known → (pages : List ℕ) → HoldsAll s pages old → LeavesOnly (HoldsEither s t pages) old new

-- it was opened so, and its book tells more of which one at most is a commit
pub record GrowsByOne {C B : Type 0} (old new : CoreView C B) : Type 0 where
  pub opening : new.opening ≡ old.opening
  pub number : new.number ≡ old.number
  pub limit : new.limit ≡ old.limit
  pub more : Book C
  pub book : new.book ≡ old.book ++ more
  pub one : commits_in more ≤ 1

-- what a session is asked in a state is done: it has led to the state after it, its replies stand behind those before, and its entries in the book
pub record DoesAsked {C B : Type 0} (m : CallMeaning C) (contents : B → Option Entries) (is_known : Bool) (session : ℕ) (doing : Doing C)
    (old new : CoreView C B) (journal journal_now : JournalView) (before after : List LineReply) (s : State C) : Type 0 where
  pub state : LeadsTo m contents is_known journal.history new journal_now.history s (asked_from m s session doing).state
  pub replies : after ≡ before ++ (asked_from m s session doing).lines
  pub book : new.book ≡ old.book ++ (asked_from m s session doing).book

-- and so it is from each state that the core stands in
abbrev pub DoesAsAsked : {C B : Type 0} → CallMeaning C → (B → Option Entries) → Bool → ℕ → Doing C
    → CoreView C B → CoreView C B → JournalView → JournalView → Vec LineReply Global → Vec LineReply Global → Type 0
DoesAsAsked m contents is_known session doing old new journal journal_now before after =
    FromEach m contents old (λ s. DoesAsked m contents is_known session doing old new journal journal_now before.items after.items s)

-- the core has gone on by one commit at most, and the journal takes the next one
pub record GoesOnByOne {C B : Type 0} (old new : CoreView C B) (journal : JournalView) : Type 0 where
  pub takes : TakesNext new journal
  pub grown : GrowsByOne old new

-- a commit alone touches the journal, and where the journal's disk failed nothing comes to the book
pub record IsDurableFirst {C B : Type 0} (doing : Doing C) (old new : CoreView C B) (journal journal_now : JournalView) : Type 0 where
  pub still : doing ≢ Commit → journal_now ≡ journal
  pub unmade : journal_now.faults ≢ journal.faults → new.book ≡ old.book

-- the faults that the journal's disk and the base have counted
abbrev pub counts_of : {C B : Type 0} → (B → ℕ) → CoreView C B → JournalView → Counts
counts_of count core journal = record { journal = journal.faults; pages = count core.base }
