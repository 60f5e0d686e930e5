-- Retries: after a transaction has ended, the calls that wait are attempted again, in the order in which their sessions began to wait (docs/PROFILE.md, "Lines of sessions").
use Rattle.std.specs.Prelude.{ℕ, suc, zero, true, cond, length, List, [], ◌∷◌, Option, None, Some}
use Rattle.call_contract.specs.Books.{entry}
use Rattle.call_contract.specs.Calls.{CallMeaning}
use Rattle.call_contract.specs.States.{State, of_session}
use Rattle.call_contract.specs.Steps.{Outcome, step}
use Rattle.call_contract.specs.declared.events.Answer.TheVariants as answer
use Rattle.call_contract.specs.declared.events.EventAnswer.{EventAnswer}
use Rattle.call_contract.specs.declared.events.EventAnswer.TheVariants as said
use Rattle.call_contract.specs.declared.events.Event.TheVariants.{Retry}
use Rattle.tx_core.specs.Retries.{has_changed}
use Rattle.session_driver.specs.Progress.{Progress, stays, noted, line_of}

-- ---- retries

-- a retry that was answered so, and what comes then: after a deadlock all who wait are retried from the first, else those behind it.
-- One that waits again writes no line, and is no entry where it changed nothing.
abbrev pub retried : {C : Type 0} → State C → ℕ → Outcome C → EventAnswer → Progress C → Progress C → Progress C → Progress C
retried st s o (said.Call (answer.Deadlock cycle)) from_first behind as_before = noted (entry s Retry o.answer) (line_of s true o.answer) from_first
retried st s o (said.Call (answer.Waits on asks by)) from_first behind as_before =
    cond (has_changed (of_session s st.live) (of_session s o.state.live)) (noted (entry s Retry o.answer) [] behind) as_before
retried st s o a from_first behind as_before = noted (entry s Retry o.answer) (line_of s true o.answer) behind

-- of a session that doesn't wait there is no retry
abbrev pub if_retried : {C : Type 0} → State C → ℕ → Option (Outcome C) → (State C → Progress C) → (State C → Progress C) → Progress C
if_retried st s None from_first behind = behind st
if_retried st s (Some o) from_first behind = retried st s o o.answer (from_first o.state) (behind o.state) (behind st)

-- these sessions in turn
abbrev pub round : {C : Type 0} → CallMeaning C → (State C → Progress C) → List ℕ → State C → Progress C
round m from_first [] st = stays st
round m from_first (s ∷ ss) st = if_retried st s (step m st s Retry) from_first (round m from_first ss)

-- all who wait, from the first, with at most so many deadlocks
abbrev pub rounds : {C : Type 0} → CallMeaning C → ℕ → State C → Progress C
rounds m zero st = stays st
rounds m (suc n) st = round m (rounds m n) st.waiting st

-- each deadlock ends one that waits, so there are no more than these
abbrev pub retries : {C : Type 0} → CallMeaning C → State C → Progress C
retries m st = rounds m (suc (length st.waiting)) st
