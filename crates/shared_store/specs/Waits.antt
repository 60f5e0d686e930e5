-- A call that is tried until it needn't wait: what it does to the list, and how its answer shows that.
use Rattle.std.specs.Prelude.{◌≡◌, ◌⊎◌, ℕ, zero, suc, Bool, true, false, List, ◌++◌, Option, Some, Result, Ok, Err, IfOk}
use Rattle.tree_model.specs.Entries.{Entries}
use Rattle.call_contract.specs.Books.{entry}
use Rattle.call_contract.specs.Calls.{CallMeaning}
use Rattle.call_contract.specs.Sessions.{live_in}
use Rattle.call_contract.specs.declared.events.Answer.{Answer}
use Rattle.call_contract.specs.declared.events.Answer.TheVariants as answer
use Rattle.call_contract.specs.declared.events.Event.{Event}
use Rattle.call_contract.specs.declared.events.Event.TheVariants as event
use Rattle.call_contract.specs.declared.events.EventAnswer.TheVariants as said
use Rattle.tx_core.specs.Refusals.{refused_call}
use Rattle.turn_lock.specs.Turns.{GoesOn}
use Rattle.shared_store.specs.Calls.{HasTried, HasTriedAgain, shown_refusal, with_noted}
use Rattle.shared_store.specs.Lists.{book_of, number_of}
use Rattle.shared_store.specs.declared.desk.Entry.{Entry}
use Rattle.shared_store.specs.declared.ended.Ended.{Ended}
use Rattle.shared_store.specs.declared.ended.Ended.TheVariants as ended
use Rattle.shared_store.specs.declared.errors.StoreError.{StoreError}

-- ---- answers

abbrev pub is_wait : Answer → Bool
is_wait (answer.Waits r a holders) = true
is_wait a = false

-- the answer of an attempt that ends its call so
abbrev pub answer_of : Ended → Answer
answer_of (ended.Answered r) = answer.Answered r
answer_of (ended.Deadlock cycle) = answer.Deadlock cycle

-- what the first attempt answers that ends its call so, and what a retry does
abbrev pub as_first : Result Ended StoreError → Result Answer StoreError
as_first (Ok e) = Ok (answer_of e)
as_first (Err why) = Err why

abbrev pub as_later : Result Ended StoreError → Result (Option Answer) StoreError
as_later (Ok e) = Ok (Some (answer_of e))
as_later (Err why) = Err why

-- an attempt of the call, its first one or a retry
abbrev pub IsAttemptOf : {C : Type 0} → C → Event C → Type 0
IsAttemptOf call e = (e ≡ event.Call call) ⊎ (e ≡ event.Retry)

module _ {C B : Type 0} where
  -- the last entry is an attempt of the call by the session, with this answer
  pub record EndsWith (s : ℕ) (call : C) (a : Answer) (after : List (Entry C B)) : Type 0 where
    pub front : List (Entry C B)
    pub attempt : Event C
    pub of_call : IsAttemptOf call attempt
    pub list : after ≡ with_noted front (entry s attempt (said.Call a))

module _ {C B : Type 0} (count : B → ℕ) (told : B → Option Entries) (m : CallMeaning C) (has : List Bool) where
  -- so many retries had to wait, one after another; before each of them other sessions may have added entries
  abbrev pub HaveWaited : List (Entry C B) → ℕ → ℕ → List (Entry C B) → Type 0
  HaveWaited from s zero after = after ≡ from
  HaveWaited from s (suc n) after =
      (mid found : List (Entry C B)) × (a : Answer) × HaveWaited from s n mid × GoesOn number_of has mid found × (is_wait a ≡ true) × HasTriedAgain count told m found s (Ok (Some a)) after

  -- a call that waits was tried again till a retry had another answer, or failed
  pub record HasCalledAgain (from : List (Entry C B)) (s : ℕ) (result : Result Ended StoreError) (after : List (Entry C B)) : Type 0 where
    pub waits : ℕ
    pub mid : List (Entry C B)
    pub waited : HaveWaited from s waits mid
    pub found : List (Entry C B)
    pub goes_on : GoesOn number_of has mid found
    pub last : HasTriedAgain count told m found s (as_later result) after

  -- the first attempt had to wait
  pub record HasWaited (before : List (Entry C B)) (s : ℕ) (call : C) (result : Result Ended StoreError) (after : List (Entry C B)) : Type 0 where
    pub given : Answer
    pub waits : is_wait given ≡ true
    pub waiting : List (Entry C B)
    pub tried : HasTried count before s call (Ok given) waiting
    pub again : HasCalledAgain waiting s result after

  -- a call that was tried until it needn't wait. Where it is answered its answer is that of the last entry, and it is refused by the list that its first attempt found.
  pub record HasCalled (before : List (Entry C B)) (s : ℕ) (call : C) (result : Result Ended StoreError) (after : List (Entry C B)) : Type 0 where
    pub steps : HasTried count before s call (as_first result) after ⊎ HasWaited before s call result after
    pub answered : IfOk result (λ e. EndsWith s call (answer_of e) after)
    pub refused : shown_refusal result ≡ refused_call (live_in (book_of before) s)
    pub grown : (added : List (Entry C B)) × (after ≡ before ++ added)
