-- What is promised of a journal when its group commit is closed.
use Rattle.std.specs.Prelude.{◌≡◌, ◌≢◌, ℕ, ◌+◌, ◌-◌, ◌≤◌, Bool, true, [], ◌∷◌, ◌++◌, Option, Some, None, IfSome}
use Rattle.outside_traits.specs.Faults.{FaultCounted}
use Rattle.tree_model.specs.Entries.{Entries}
use Rattle.tree_model.specs.Tree.{Tree}
use Rattle.call_contract.specs.Books.{Book}
use Rattle.call_contract.specs.Calls.{CallMeaning}
use Rattle.call_contract.specs.Sessions.{commits_in}
use Rattle.journal.specs.Views.{JournalView, TakesGroups}
use Rattle.shared_store.specs.Lists.{book_of, OpensFrom}
use Rattle.shared_store.specs.Sessions.{SessionView}
use Rattle.tx_core.specs.Cores.{CoreView}
use Rattle.group_commit.specs.Marks.{durable_in, failure_in, last_commit, opening_in}
use Rattle.group_commit.specs.Members.{Marks}
use Rattle.group_commit.specs.Written.{HasWritten, HaveBodies}

-- no entry of the book is of this session
abbrev pub AreOthers : {C : Type 0} → ℕ → Book C → Type 0
AreOthers s [] = Unit {0}
AreOthers s (n ∷ ns) = (n.session ≢ s) × AreOthers s ns

-- no call of the journal failed since the first one: it takes groups, and its last number lies between these
pub record IsUnfailed (first : JournalView) (least most : ℕ) (journal : JournalView) : Type 0 where
  pub takes : TakesGroups journal
  pub faults : journal.faults ≡ first.faults
  pub last : IfSome journal.last (λ number. (least ≤ number) × (number ≤ most))

-- a call of the journal failed since, at this count of its disk's faults, and it takes no more
pub record IsFailed (first : JournalView) (faults : ℕ) (journal : JournalView) : Type 0 where
  pub above : FaultCounted first.faults faults
  pub below : faults ≤ journal.faults
  pub unusable : journal.failed ≡ true

-- What a list behind the journal's turn tells of the journal that is handed out with this core. Its commits are the core's, each under its number with its body.
pub record IsAsTold {C B : Type 0} (m : CallMeaning C) (told : B → Option Entries) (is_known : Bool) (marks : Marks C B) (core : CoreView C B) (journal : JournalView) : Type 0 where
  pub session : SessionView C B
  pub first : JournalView
  pub opening : opening_in marks ≡ Some (session, first)
  pub written : HasWritten is_known first (last_commit session.seen) (durable_in marks - last_commit session.seen) (core.number + commits_in core.book) journal
  pub bodies : (t : Tree) → OpensFrom told session.seen t → HaveBodies m t (book_of session.seen) core.book written.commits
  -- and nothing was noted under the number 0 since
  pub idle : (added : Book C) × (core.book ≡ book_of session.seen ++ added) × AreOthers 0 added
  pub unfailed : failure_in marks ≡ None → IsUnfailed first (last_commit session.seen + (durable_in marks - last_commit session.seen)) (core.number + commits_in core.book) journal
  pub failed : IfSome (failure_in marks) (λ faults. IsFailed first faults journal)
