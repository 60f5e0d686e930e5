-- The value behind the journal's turn, and what its type keeps.
use Rattle.std.specs.Prelude.{◌≡◌, ℕ, zero, suc, ◌+◌, ◌<◌, ◌≤◌, Bool, true, false, List, ◌∷◌, ◌++◌, length, map, Option, Some, None, Ok, IsTrue}
use Rattle.outside_traits.specs.Moments.{IsAllSynced}
use Rattle.outside_traits.specs.Faults.{FaultCounted}
use Rattle.node_records.specs.Pending.{FollowOn}
use Rattle.node_records.specs.declared.pending.Pending.{Pending}
use Rattle.tree_model.specs.Entries.{Entries}
use Rattle.tree_model.specs.Tree.{Tree}
use Rattle.call_contract.specs.Books.{Book, commits}
use Rattle.call_contract.specs.Calls.{CallMeaning}
use Rattle.call_contract.specs.Sessions.{commits_in, live_in}
use Rattle.journal.specs.Appends.{groups_in}
use Rattle.journal.specs.Batches.{HasAddedSince, pairs_of}
use Rattle.journal.specs.Groups.{is_next, only_commits}
use Rattle.journal.specs.Journals.{read}
use Rattle.journal.specs.Views.{JournalView, TakesGroups}
use Rattle.turn_lock.specs.Turns.{has_number, only_number}
use Rattle.shared_store.specs.Bodies.{bodies_of}
use Rattle.shared_store.specs.Lists.{book_of, drained_in, is_opened, OpensFrom}
use Rattle.shared_store.specs.Sessions.{SessionView}
use Rattle.shared_store.specs.declared.desk.Entry.{Entry}
use Rattle.group_commit.specs.Closings.{AreOthers}
use Rattle.group_commit.specs.Marks.{durable_in, durables, failures, last_commit}
use Rattle.group_commit.specs.Members.{Marks, MemberView}
use Rattle.group_commit.specs.Written.{HasWritten, LeavesWritten}
use Rattle.group_commit.specs.declared.mark.Failed.{Failed}
use Rattle.group_commit.specs.declared.mark.Mark.TheVariants as mark

-- the journal and the session that drains; the session and the journal with which all began; how many commits were written since, the last number, and the failure
pub record ScribeView (C B : Type 0) : Type 0 where
  pub journal : JournalView
  pub drainer : SessionView C B
  pub session : SessionView C B
  pub opening : JournalView
  pub written : ℕ
  pub durable : ℕ
  pub failure : Option Failed

abbrev pub scribe_of : {C B : Type 0} → JournalView → SessionView C B → SessionView C B → JournalView → ℕ → ℕ → Option Failed → ScribeView C B
scribe_of journal drainer session opening written durable failure =
    record { journal = journal; drainer = drainer; session = session; opening = opening; written = written; durable = durable; failure = failure }

-- the number of the last of so many commits behind this one, and 0 where there is none
abbrev pub reached : ℕ → ℕ → ℕ
reached after zero = 0
reached after (suc n) = after + suc n

-- each commit of the book ends a transaction
abbrev pub IsCounted : {C : Type 0} → Book C → Type 0
IsCounted book = length (commits book) ≡ commits_in book

-- all of the journal was synced at first, and it held commits alone
pub record IsSettled (first : JournalView) : Type 0 where
  pub synced : IsAllSynced first.history
  pub commits : read first.history.now.reads ≡ Ok (only_commits (groups_in first.history).commits)

module _ {C B : Type 0} where
  -- the list went on, and nothing of the session 0 is in what was added
  abbrev pub GoesOnWithout : List (Entry C B) → List (Entry C B) → Type 0
  GoesOnWithout before after = (added : List (Entry C B)) × (after ≡ before ++ added) × AreOthers 0 (book_of added)

  -- the last commit before the first that was written
  abbrev pub began_after : ScribeView C B → ℕ
  began_after v = last_commit v.session.seen

  -- within a call a crash leaves what was written before it at least, of the commits that are drained now
  abbrev pub KeepsWritten : ScribeView C B → ScribeView C B → Type 0
  KeepsWritten old new = LeavesWritten old.opening (began_after old) old.written (last_commit new.drainer.seen) old.journal.history new.journal.history

  -- its list
  abbrev pub marks_in : ScribeView C B → Marks C B
  marks_in v = mark.Opening v.session v.opening ∷ (durables (began_after v) v.written ++ failures v.failure)

  -- the one session with the number 0 drains; it has no transaction
  pub record IsDrainer (first drainer : SessionView C B) : Type 0 where
    pub lock : drainer.lock ≡ first.lock
    pub has : drainer.has ≡ only_number 0
    pub under : drainer.under ≡ 0
    pub opened : is_opened first.seen ≡ true
    pub idle : live_in (book_of first.seen) 0 ≡ None
    pub grown : GoesOnWithout first.seen drainer.seen

  -- ---- members

  -- what it has seen of both lists goes on from the opening
  pub record HasSeenOpening (v : MemberView C B) : Type 0 where
    pub first : SessionView C B
    pub journal : JournalView
    pub marks : Marks C B
    pub seen : v.pass.seen ≡ mark.Opening first journal ∷ marks
    pub lock : first.lock ≡ v.session.lock
    pub opened : is_opened first.seen ≡ true
    pub more : List (Entry C B)
    pub grown : v.session.seen ≡ first.seen ++ more

  -- it holds no turn, its pass has each number that its session has and the one that it works under, and it knows the last durable number that it has seen
  pub record IsMember (v : MemberView C B) (durable : ℕ) : Type 0 where
    pub turn : v.pass.turn ≡ false
    pub own : has_number v.pass.has v.session.under ≡ true
    pub numbers : (n : ℕ) → n < 65 → has_number v.session.has n ≡ true → has_number v.pass.has n ≡ true
    pub opening : HasSeenOpening v
    pub known : durable ≡ durable_in v.pass.seen

module _ {C B : Type 0} (m : CallMeaning C) (told : B → Option Entries) where
  -- these commits have the bodies of those that the session which drains has seen since, where each commit of its book ends a transaction
  abbrev pub AreMade : ScribeView C B → List Pending → Type 0
  AreMade v commits = (t : Tree) → OpensFrom told v.session.seen t → IsCounted (book_of v.drainer.seen)
      → bodies_of m t (book_of v.drainer.seen) ≡ bodies_of m t (book_of v.session.seen) ++ map (λ (p : Pending). p.body) commits

  -- no journal call failed: all that was drained is durable, and the journal takes the next commit
  pub record IsGoing (is_known : Bool) (v : ScribeView C B) : Type 0 where
    pub takes : TakesGroups v.journal
    pub next : IsTrue (is_next v.journal.last (began_after v + v.written + 1))
    pub last : last_commit v.drainer.seen ≡ began_after v + v.written
    pub drained : drained_in v.drainer.seen ≡ began_after v + v.written
    pub faults : v.journal.faults ≡ v.opening.faults
    pub start : IsTrue is_known → IsSettled v.opening
    pub commits : List Pending
    pub numbers : FollowOn (began_after v) commits
    pub all : length commits ≡ v.written
    pub bodies : AreMade v commits
    pub since : IsTrue is_known → HasAddedSince (groups_in v.opening.history) (pairs_of commits) v.opening.history v.journal.history

  -- a journal call failed
  pub record IsHalted (is_known : Bool) (v : ScribeView C B) (failed : Failed) : Type 0 where
    pub by : failed.by < 65
    pub above : FaultCounted v.opening.faults failed.faults
    pub below : failed.faults ≤ v.journal.faults
    pub unusable : v.journal.failed ≡ true
    pub holds : HasWritten is_known v.opening (began_after v) v.written (last_commit v.drainer.seen) v.journal
    pub bodies : AreMade v holds.commits

  abbrev pub StandsBy : Bool → ScribeView C B → Option Failed → Type 0
  StandsBy is_known v None = IsGoing is_known v
  StandsBy is_known v (Some failed) = IsHalted is_known v failed

  pub record IsScribe (is_known : Bool) (v : ScribeView C B) : Type 0 where
    pub drainer : IsDrainer v.session v.drainer
    pub durable : v.durable ≡ reached (began_after v) v.written
    pub made : began_after v + v.written ≤ last_commit v.drainer.seen
    pub stands : StandsBy is_known v v.failure
