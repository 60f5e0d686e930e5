-- What members of a group commit are after their calls, and after one was split off and joined again.
use Rattle.std.specs.Prelude.{◌≡◌, ◌≤◌, ℕ, false, slice_set, Some, None, Result, IfOk}
use Rattle.journal.specs.Views.{JournalView}
use Rattle.call_contract.specs.Sessions.{live_in}
use Rattle.turn_lock.specs.Turns.{having_seen as having_marks, merged, only_number}
use Rattle.shared_store.specs.Lists.{book_of}
use Rattle.shared_store.specs.Sessions.{having_seen, SessionView}
use Rattle.shared_store.specs.declared.errors.StoreError.{StoreError}
use Rattle.group_commit.specs.Marks.{durable_in, last_commit, opening_in}
use Rattle.group_commit.specs.Members.{GoesOnIn, Marks, MemberView}

module _ {C B : Type 0} where
  -- the group commit was made of a store without commits
  pub record OpensEmpty (marks : Marks C B) : Type 0 where
    pub session : SessionView C B
    pub journal : JournalView
    pub opening : opening_in marks ≡ Some (session, journal)
    pub none : last_commit session.seen ≡ 0

  -- it may have seen more of both lists, and else is the same
  pub record HasSeenMore (v w : MemberView C B) : Type 0 where
    pub session : w.session ≡ having_seen w.session.seen v.session
    pub pass : w.pass ≡ having_marks w.pass.seen v.pass

  -- a commit that was answered is among those that it has seen durable
  abbrev pub HasSeenDurable : MemberView C B → Result ℕ StoreError → Type 0
  HasSeenDurable v answer = IfOk answer (λ number. number ≤ durable_in v.pass.seen)

  -- it has seen more, its commit too where that was answered, and has no transaction any more
  pub record IsDone (v w : MemberView C B) (answer : Result ℕ StoreError) : Type 0 where
    pub more : HasSeenMore v w
    pub durable : HasSeenDurable w answer
    pub ended : live_in (book_of w.session.seen) w.session.under ≡ None

  -- it gave a number to another, which works under it
  pub record HasGiven (number : ℕ) (v w given : MemberView C B) : Type 0 where
    pub store : (w.session.lock ≡ v.session.lock) × (given.session.lock ≡ v.session.lock)
    pub lock : (w.pass.lock ≡ v.pass.lock) × (given.pass.lock ≡ v.pass.lock)
    pub under : (w.session.under ≡ v.session.under) × (given.session.under ≡ number)
    pub session : (w.session.has ≡ slice_set v.session.has number false) × (given.session.has ≡ only_number number)
    pub pass : (w.pass.has ≡ slice_set v.pass.has number false) × (given.pass.has ≡ only_number number)
    pub seen : w.pass.seen ≡ v.pass.seen

  -- it has the numbers of another too, and has seen what either had
  pub record HasTaken (v other w : MemberView C B) : Type 0 where
    pub store : w.session.lock ≡ v.session.lock
    pub lock : w.pass.lock ≡ v.pass.lock
    pub under : w.session.under ≡ v.session.under
    pub session : w.session.has ≡ merged v.session.has other.session.has
    pub pass : w.pass.has ≡ merged v.pass.has other.pass.has
    pub own : GoesOnIn v w
    pub others : GoesOnIn other w
