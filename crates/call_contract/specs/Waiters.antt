-- What becomes of a call that waits when it is attempted again while its request is still barred.
use Rattle.std.specs.Prelude.{◌≡◌, ℕ, Bool, true, false, List, Some}
use Rattle.std.specs.List.{list_any}
use Rattle.lock_resources.specs.declared.request.Request.{Request}
use Rattle.call_contract.specs.declared.events.Answer.TheVariants.{Waits}
use Rattle.call_contract.specs.declared.events.Event.TheVariants.{Retry}
use Rattle.call_contract.specs.declared.events.EventAnswer.TheVariants as said
use Rattle.call_contract.specs.Calls.{CallMeaning}
use Rattle.call_contract.specs.States.{Waiting, Live, State, of_session, others}
use Rattle.call_contract.specs.Attempts.{is_barred, holders, granted, waits_with}
use Rattle.call_contract.specs.Steps.{step}

-- these are among those: a test that none of those passes none of these passes
abbrev pub AreAmong : List Request → List Request → Type 0
AreAmong qs gs = (test : Request → Bool) → list_any test gs ≡ false → list_any test qs ≡ false

-- attempted again, a transaction's call waits with the request with which it waited, is told who bars that now, and is granted nothing that it wasn't granted before
pub record WaitsOn {C : Type 0} (m : CallMeaning C) (st : State C) (s : ℕ) (t : Live C) (w : Waiting C) : Type 0 where
  pub step : step m st s Retry ≡ Some (record {
    state = waits_with m st t w.call w.request;
    answer = said.Call (Waits w.request.resource w.request.ask (holders w.request (others s st.live)));
  })
  pub granted : AreAmong (granted m st t w.call) t.grants

-- so it is of each one that waits and whose request is still barred
abbrev pub WaitersStand : {C : Type 0} → CallMeaning C → State C → Type 0
WaitersStand {C = C} m st = (s : ℕ) (t : Live C) (w : Waiting C) → of_session s st.live ≡ Some t → t.waits ≡ Some w
    → is_barred w.request (others s st.live) ≡ true → WaitsOn m st s t w
