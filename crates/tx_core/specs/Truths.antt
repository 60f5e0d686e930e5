-- What holds of the states that a core's book comes to.
use Rattle.std.specs.Prelude.{◌≡◌, ℕ, List, Result, Ok}
use Rattle.call_contract.specs.Calls.{CallMeaning}
use Rattle.call_contract.specs.Deadlocks.{ClosesCycle}
use Rattle.call_contract.specs.Lives.{RepliesStand, WritesAreCovered}
use Rattle.call_contract.specs.States.{State}
use Rattle.call_contract.specs.Waits.{NoCycle}
use Rattle.call_contract.specs.declared.events.Answer.{Answer}
use Rattle.call_contract.specs.declared.events.Answer.TheVariants.{Deadlock}
use Rattle.call_contract.specs.declared.events.Event.{Event}

-- the live transactions were answered what they would be answered on the committed tree, and nobody waits for himself by way of others
pub record LiveStand {C : Type 0} (m : CallMeaning C) (st : State C) : Type 0 where
  pub replies : RepliesStand m st
  pub writes : WritesAreCovered m st
  pub no_cycle : NoCycle st.live

-- where an event of the session was answered with a cycle, this is one that its waiting would close, and its transaction alone is ended
abbrev pub ShowsCycle : {C E : Type 0} → CallMeaning C → State C → State C → ℕ → Event C → Result Answer E → Type 0
ShowsCycle m old new s e result = (cycle : List ℕ) → result ≡ Ok (Deadlock cycle) → ClosesCycle m old new s e cycle
