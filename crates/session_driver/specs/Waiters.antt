-- Who waits, and whether it must (docs/PROFILE.md, "Lines of sessions").
use Rattle.std.specs.Prelude.{◌≡◌, ◌⊎◌, ℕ, true, List, Some, is_some}
use Rattle.wait_cycles.specs.Walks.{has}
use Rattle.call_contract.specs.Attempts.{stopped_at}
use Rattle.call_contract.specs.Calls.{CallMeaning}
use Rattle.call_contract.specs.States.{Live, Waiting, State, of_session}

-- a call that waits would be stopped again
abbrev pub IsStopped : {C : Type 0} → CallMeaning C → State C → Live C → Waiting C → Type 0
IsStopped m st t w = is_some (stopped_at m st t w.call) ≡ true

-- and so would all that wait, but for those of these sessions
abbrev pub StoppedBut : {C : Type 0} → CallMeaning C → State C → List ℕ → Type 0
StoppedBut {C = C} m st ss = (s : ℕ) (t : Live C) (w : Waiting C) → of_session s st.live ≡ Some t → t.waits ≡ Some w → (has s ss ≡ true) ⊎ IsStopped m st t w

-- no session waits whose call would be answered
abbrev pub AllStopped : {C : Type 0} → CallMeaning C → State C → Type 0
AllStopped {C = C} m st = (s : ℕ) (t : Live C) (w : Waiting C) → of_session s st.live ≡ Some t → t.waits ≡ Some w → IsStopped m st t w

-- every session that waits is in the list of those that do
abbrev pub AllListed : {C : Type 0} → State C → Type 0
AllListed {C = C} st = (s : ℕ) (t : Live C) (w : Waiting C) → of_session s st.live ≡ Some t → t.waits ≡ Some w → has s st.waiting ≡ true
