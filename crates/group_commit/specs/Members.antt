-- A member and a group commit as contracts see them, and how a commit is answered.
use Rattle.std.specs.Prelude.{◌≡◌, ℕ, ◌-◌, ◌<◌, ◌≤◌, false, slice_set, List, [], ◌∷◌, ◌++◌, Option, Some, None, Result, Ok, Err, IfOk, IfSome, OnErr, OnOk}
use Rattle.atomic_table.specs.Seated.{TableId}
use Rattle.outside_traits.specs.Faults.{FaultCounted}
use Rattle.tree_model.specs.Entries.{Entries}
use Rattle.call_contract.specs.Calls.{CallMeaning}
use Rattle.call_contract.specs.Sessions.{live_in}
use Rattle.journal.specs.Views.{JournalView}
use Rattle.turn_lock.specs.Turns.{GoesOn, having_numbers, having_seen as having_marks, longer, merged, only_number, PassView}
use Rattle.shared_store.specs.Calls.{HasCommitted}
use Rattle.shared_store.specs.Lists.{book_of, number_of}
use Rattle.shared_store.specs.Sessions.{HasDone, having_seen, joined_session, session_without, SessionView}
use Rattle.shared_store.specs.declared.desk.Entry.{Entry}
use Rattle.shared_store.specs.declared.errors.StoreError.{StoreError}
use Rattle.shared_store.specs.declared.errors.StoreError.TheVariants.{DiskFault, Halted}
use Rattle.group_commit.specs.Marks.{AreDurable, durable_in, failure_in, last_commit, marked_by, opening_in}
use Rattle.group_commit.specs.declared.mark.Mark.{Mark}
use Rattle.group_commit.specs.declared.mark.Mark.TheVariants as mark

-- the list behind the journal's turn
abbrev pub Marks : Type 0 → Type 0 → Type 0
Marks C B = List (Mark (SessionView C B) JournalView)

-- a pass of the journal's turn
abbrev pub MarksPass : Type 0 → Type 0 → Type 0
MarksPass C B = PassView (Mark (SessionView C B) JournalView)

-- its session of the store, and its pass of the journal's turn
pub record MemberView (C B : Type 0) : Type 0 where
  pub session : SessionView C B
  pub pass : MarksPass C B

-- its store, and its journal's turn
pub record GroupView : Type 0 where
  pub store : TableId
  pub lock : TableId

module _ {C B : Type 0} where
  -- the member is one of this group commit
  abbrev pub IsOf : GroupView → MemberView C B → Type 0
  IsOf group member = (member.session.lock ≡ group.store) × (member.pass.lock ≡ group.lock)

  -- ---- what split, meet and join leave

  -- a number was given away
  abbrev pub without_number : ℕ → MemberView C B → MemberView C B
  without_number n v = record {
    session = session_without n v.session;
    pass = having_numbers (slice_set v.pass.has n false) v.pass;
  }

  -- another that has seen the same, with one number alone, under which it works
  abbrev pub only_with : ℕ → MemberView C B → MemberView C B
  only_with n v = record {
    session = record { lock = v.session.lock; seen = v.session.seen; has = only_number n; under = n };
    pass = having_numbers (only_number n) v.pass;
  }

  -- it has seen what either has
  abbrev pub met : MemberView C B → MemberView C B → MemberView C B
  met v w = record {
    session = having_seen (longer v.session.seen w.session.seen) v.session;
    pass = having_marks (longer v.pass.seen w.pass.seen) v.pass;
  }

  -- and has the numbers of both
  abbrev pub joined : MemberView C B → MemberView C B → MemberView C B
  joined v w = record {
    session = joined_session v.session w.session;
    pass = having_numbers (merged v.pass.has w.pass.has) (having_marks (longer v.pass.seen w.pass.seen) v.pass);
  }

  -- what it has seen of both lists goes on in another, with no entry of its numbers
  pub record GoesOnIn (v w : MemberView C B) : Type 0 where
    pub session : GoesOn number_of v.session.has v.session.seen w.session.seen
    pub pass : GoesOn marked_by v.pass.has v.pass.seen w.pass.seen

  -- ---- commits

  -- The member's session found some list, did this to it under its number, and has seen what came of it.
  abbrev pub HasActed : MemberView C B → MemberView C B → (List (Entry C B) → ℕ → List (Entry C B) → Type 0) → Type 0
  HasActed v w does = HasDone v.session w.session (λ before after. does before v.session.under after)

  -- a fault was counted since the group commit was made
  abbrev pub IsLater : Marks C B → ℕ → Type 0
  IsLater marks faults = IfSome (opening_in marks) (λ o. FaultCounted o.1.faults faults)

  -- How a commit is answered that is visible under its number, by a member that works under another, where the journal's list was found so.
  -- It is durable, by this call or another's; or this call failed at the journal; or a call had failed before it was durable.
  abbrev pub IsAnswered : Marks C B → ℕ → ℕ → Result ℕ StoreError → Marks C B → Type 0
  IsAnswered found under number (Ok k) after =
      (k ≡ number) × (number ≤ durable_in after) × (durable_in found < number → failure_in found ≡ None)
      × (added : Marks C B) × (after ≡ found ++ added) × AreDurable added
  IsAnswered found under number (Err DiskFault) after =
      (durable_in found < number) × (failure_in found ≡ None) × (faults : ℕ) × (after ≡ found ++ mark.Failure under faults ∷ []) × IsLater found faults
  IsAnswered found under number (Err (Halted faults)) after = (durable_in found < number) × (failure_in found ≡ Some faults) × (after ≡ found)
  IsAnswered found under number (Err e) after = ⊥

  -- the journal's turn was taken, the commit was answered so, and the turn was given
  pub record HasTurned (p q : MarksPass C B) (under number : ℕ) (result : Result ℕ StoreError) : Type 0 where
    pub same : q ≡ having_marks q.seen p
    pub found : Marks C B
    pub goes_on : GoesOn marked_by p.has p.seen found
    pub answered : IsAnswered found under number result q.seen

  -- The session committed, with this answer. Where the commit is visible the journal's turn tells how it is answered; where it isn't, all else is as it was.
  pub record HasCommittedAll (told : B → Option Entries) (m : CallMeaning C) (p q : MemberView C B) (result : Result ℕ StoreError) : Type 0 where
    pub visible : Result ℕ StoreError
    pub session : HasDone p.session q.session (λ before after. HasCommitted told m before p.session.under visible after)
    pub journal : IfOk visible (λ number. HasTurned p.pass q.pass p.session.under number result)
    pub refused : OnErr visible ((result ≡ visible) × (q.pass ≡ p.pass))
    pub ended : OnOk visible (live_in (book_of q.session.seen) q.session.under ≡ None)

  -- ---- all that a member has seen

  -- the commits up to this number are durable: those that were made since the group commit was
  abbrev pub AreReached : Marks C B → ℕ → Type 0
  AreReached marks number = IfSome (opening_in marks) (λ o. number - last_commit o.0.seen ≤ durable_in marks - last_commit o.0.seen)

  -- How a member that works under a number is answered that asks for all commits up to one to be durable, where the journal's list was found so.
  -- They are, and no call has failed; or this call failed at the journal; or one had failed before.
  abbrev pub IsMadeDurable : Marks C B → ℕ → ℕ → Result (Unit {0}) StoreError → Marks C B → Type 0
  IsMadeDurable found under number (Ok x) after =
      AreReached after number × (failure_in after ≡ None) × (added : Marks C B) × (after ≡ found ++ added) × AreDurable added
  IsMadeDurable found under number (Err DiskFault) after =
      (failure_in found ≡ None) × (faults : ℕ) × (after ≡ found ++ mark.Failure under faults ∷ []) × IsLater found faults
  IsMadeDurable found under number (Err (Halted faults)) after = (failure_in found ≡ Some faults) × (after ≡ found)
  IsMadeDurable found under number (Err e) after = ⊥

  -- the journal's turn was taken, all commits that the session has seen were asked to be durable, with this answer, and the turn was given
  pub record HasMadeDurable (p q : MemberView C B) (result : Result (Unit {0}) StoreError) : Type 0 where
    pub session : q.session ≡ p.session
    pub same : q.pass ≡ having_marks q.pass.seen p.pass
    pub found : Marks C B
    pub goes_on : GoesOn marked_by p.pass.has p.pass.seen found
    pub answered : IsMadeDurable found p.session.under (last_commit p.session.seen) result q.pass.seen
