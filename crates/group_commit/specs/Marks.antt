-- The list behind the journal's turn: the opening, then the numbers of the commits that were made durable since, then the failure if there was one.
use Rattle.std.specs.Prelude.{ℕ, zero, suc, ◌+◌, max, List, [], ◌∷◌, Option, Some, None}
use Rattle.call_contract.specs.Sessions.{commits_in}
use Rattle.shared_store.specs.Lists.{book_of, number_in}
use Rattle.shared_store.specs.declared.desk.Entry.{Entry}
use Rattle.group_commit.specs.declared.mark.Failed.{Failed}
use Rattle.group_commit.specs.declared.mark.Mark.{Mark}
use Rattle.group_commit.specs.declared.mark.Mark.TheVariants as mark

-- the number of the last commit that a store's list tells
abbrev pub last_commit : {C B : Type 0} → List (Entry C B) → ℕ
last_commit es = number_in es + commits_in (book_of es)

module _ {S J : Type 0} where
  -- whose mark it is: a failure is the member's that met it, and no other mark has a number
  abbrev pub marked_by : Mark S J → Option ℕ
  marked_by (mark.Opening session journal) = None
  marked_by (mark.Durable number) = None
  marked_by (mark.Failure by faults) = Some by

  -- the marks of so many commits behind the one of this number
  abbrev pub durables : ℕ → ℕ → List (Mark S J)
  durables after zero = []
  durables after (suc n) = mark.Durable (after + 1) ∷ durables (after + 1) n

  -- the mark of a failure, if there was one
  abbrev pub failures : Option Failed → List (Mark S J)
  failures None = []
  failures (Some failed) = mark.Failure failed.by failed.faults ∷ []

  -- ---- what a list tells

  -- the session and the journal with which the group commit was made
  abbrev pub opening_in : List (Mark S J) → Option (S × J)
  opening_in (mark.Opening session journal ∷ marks) = Some (session, journal)
  opening_in marks = None

  -- the greatest number of a durable commit, 0 where there is none
  abbrev pub durable_in : List (Mark S J) → ℕ
  durable_in [] = 0
  durable_in (mark.Opening session journal ∷ marks) = durable_in marks
  durable_in (mark.Durable number ∷ marks) = max number (durable_in marks)
  durable_in (mark.Failure by faults ∷ marks) = durable_in marks

  -- the count of the disk's faults at the failure, if there was one
  abbrev pub failure_in : List (Mark S J) → Option ℕ
  failure_in [] = None
  failure_in (mark.Opening session journal ∷ marks) = failure_in marks
  failure_in (mark.Durable number ∷ marks) = failure_in marks
  failure_in (mark.Failure by faults ∷ marks) = Some faults

  -- each mark is that of a durable commit
  abbrev pub AreDurable : List (Mark S J) → Type 0
  AreDurable [] = Unit {0}
  AreDurable (mark.Opening session journal ∷ marks) = ⊥
  AreDurable (mark.Durable number ∷ marks) = AreDurable marks
  AreDurable (mark.Failure by faults ∷ marks) = ⊥
