-- What the answer Deadlock shows: a cycle that its caller's waiting would close, and that wasn't there before; and what it leaves.
use Rattle.std.specs.Prelude.{◌≡◌, ℕ, List, Option, Some, None}
use Rattle.lock_resources.specs.declared.request.Request.{Request}
use Rattle.wait_cycles.specs.Cycles.{IsFirst}
use Rattle.call_contract.specs.declared.events.Event.{Event}
use Rattle.call_contract.specs.declared.events.Event.TheVariants.{Call, Retry}
use Rattle.call_contract.specs.declared.events.Answer.TheVariants.{Deadlock}
use Rattle.call_contract.specs.declared.events.EventAnswer.TheVariants as said
use Rattle.call_contract.specs.declared.events.Noted.{Noted}
use Rattle.call_contract.specs.Calls.{CallMeaning}
use Rattle.call_contract.specs.States.{Waiting, Live, State, of_session}
use Rattle.call_contract.specs.Attempts.{stopped_at, waits_with}
use Rattle.call_contract.specs.Waits.{waits_for, NoCycle}
use Rattle.call_contract.specs.Ends.{LeavesAllElse}
use Rattle.call_contract.specs.Steps.{step}
use Rattle.call_contract.specs.Books.{next, IsAnswer}

-- the call that an event attempts: its own, or for a retry the one that waits
abbrev pub attempted : {C : Type 0} → Event C → Option (Waiting C) → Option C
attempted (Call c) w = Some c
attempted Retry (Some w) = Some w.call
attempted e w = None

-- an event of session s in the state `old` was answered with this cycle, and left the state `new`
pub record ClosesCycle {C : Type 0} (m : CallMeaning C) (old new : State C) (s : ℕ) (e : Event C) (cycle : List ℕ) : Type 0 where
  -- the session's transaction attempts a call ..
  pub transaction : Live C
  pub live : of_session s old.live ≡ Some transaction
  pub call : C
  pub attempts : attempted e transaction.waits ≡ Some call
  -- .. and is stopped at this request
  pub request : Request
  pub stopped : stopped_at m old transaction call ≡ Some request
  -- if it waited there, this would be the first cycle through it; before, there was none
  pub first : IsFirst (waits_for (waits_with m old transaction call request).live) s cycle
  pub before : NoCycle old.live
  -- the transaction is ended, and nothing else changed
  pub ended : LeavesAllElse old new s

-- where an entry's answer is the step's, and is a cycle, it is shown rightly
abbrev pub DeadlockIsTrue : {C : Type 0} → CallMeaning C → State C → Noted C → Type 0
DeadlockIsTrue m st e = (cycle : List ℕ) → e.answer ≡ said.Call (Deadlock cycle) → IsAnswer e.answer (step m st e.session e.event)
    → ClosesCycle m st (next m st e) e.session e.event cycle
