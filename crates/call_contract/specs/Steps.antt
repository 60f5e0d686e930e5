-- The steps of the lock machine: the state after an event, and its answer (docs/PROFILE.md, "The lock machine").
use Rattle.std.specs.Prelude.{ℕ, ◌+◌, ◌&&◌, ◌||◌, List, [], ◌++◌, take, length, Option, Some, None, is_some, if◌then◌else◌, ◌==◌, nat_lt, nat_le}
use Rattle.lock_resources.specs.declared.request.Request.{Request}
use Rattle.call_contract.specs.declared.events.Event.{Event}
use Rattle.call_contract.specs.declared.events.Event.TheVariants.{Begin, Call, Retry, Fail, Commit, Abort}
use Rattle.call_contract.specs.declared.events.Answer.TheVariants as answer
use Rattle.call_contract.specs.declared.events.EventAnswer.{EventAnswer}
use Rattle.call_contract.specs.declared.events.EventAnswer.TheVariants as said
use Rattle.call_contract.specs.Calls.{CallMeaning}
use Rattle.call_contract.specs.States.{Waiting, Live, State, view, of_session, put, others, with_live, ended, without}
use Rattle.call_contract.specs.Attempts.{holders, granted, stopped_at, answered, waits_with}
use Rattle.call_contract.specs.Waits.{cycle_through}

-- a state, and what was answered on the way to it
pub record Outcome (C : Type 0) : Type 0 where
  pub state : State C
  pub answer : EventAnswer

-- ---- calls

-- the transaction waits, unless this closes a cycle: then it is ended
abbrev pub unless_cycle : {C : Type 0} → State C → State C → ℕ → Request → Option (List ℕ) → Outcome C
unless_cycle st waits s g None = record { state = waits; answer = said.Call (answer.Waits g.resource g.ask (holders g (others s st.live))) }
unless_cycle st waits s g (Some cycle) = record { state = ended st s; answer = said.Call (answer.Deadlock cycle) }

-- all requests were granted, or all before this one
abbrev pub settled : {C : Type 0} → CallMeaning C → State C → Live C → C → Option Request → Outcome C
settled m st t c None = record { state = answered m st t c; answer = said.Call (answer.Answered (m.reply c (view m t.calls st.tree))) }
settled m st t c (Some g) = unless_cycle st (waits_with m st t c g) t.session g (cycle_through (waits_with m st t c g).live t.session)

-- an attempt of a call
abbrev pub attempt : {C : Type 0} → CallMeaning C → State C → Live C → C → Outcome C
attempt m st t c = settled m st t c (stopped_at m st t c)

-- an attempt of the call that waits
abbrev pub retried : {C : Type 0} → CallMeaning C → State C → Live C → Option (Waiting C) → Option (Outcome C)
retried m st t None = None
retried m st t (Some w) = Some (attempt m st t w.call)

-- ---- attempts that failed

-- after k grants the attempt ended by running out of memory or by a fault
abbrev pub failed : {C : Type 0} → CallMeaning C → State C → Live C → C → ℕ → Outcome C
failed m st t c k = record {
  state = with_live st (record t { grants = t.grants ++ take k (granted m st t c); waits = None }) (without t.session st.waiting);
  answer = said.Nothing;
}

-- of a call where none waits, or a retry of the one that waits; out of memory with no grant changed nothing, and is no event of a call
abbrev pub given_up : {C : Type 0} → CallMeaning C → State C → Live C → Option C → Option (Waiting C) → ℕ → Option ℕ → Option (Outcome C)
given_up m st t (Some c) None k f = if (is_some f || nat_lt 0 k) && nat_le k (length (granted m st t c)) then Some (failed m st t c k) else None
given_up m st t None (Some w) k f = if nat_le k (length (granted m st t w.call)) then Some (failed m st t w.call k) else None
given_up m st t (Some c) (Some w) k f = None
given_up m st t None None k f = None

-- ---- ends and beginnings

-- what the transaction sees is the committed tree
abbrev pub committed : {C : Type 0} → CallMeaning C → State C → Live C → State C
committed m st t = record st { tree = view m t.calls st.tree; number = st.number + 1; live = others t.session st.live; waiting = without t.session st.waiting }

-- a transaction that was begun
abbrev pub new_live : {C : Type 0} → ℕ → ℕ → Live C
new_live s ordinal = record { session = s; ordinal = ordinal; calls = []; grants = []; waits = None }

abbrev pub begun_by : {C : Type 0} → State C → ℕ → State C
begun_by st s = record st {
  begun = st.begun + 1;
  ordinals = λ u. if u == s then st.ordinals s + 1 else st.ordinals u;
  live = put (new_live s (st.ordinals s + 1)) st.live;
}

-- ---- events

-- an event of a session whose live transaction this is, if it has one; None where it may not come
abbrev pub step_of : {C : Type 0} → CallMeaning C → State C → ℕ → Option (Live C) → Event C → Option (Outcome C)
step_of m st s None Begin = if st.opening + st.begun == st.limit then None else Some (record { state = begun_by st s; answer = said.Number (st.ordinals s + 1) })
step_of m st s None (Call c) = None
step_of m st s None Retry = None
step_of m st s None (Fail c k f) = None
step_of m st s None Commit = None
step_of m st s None Abort = None
step_of m st s (Some t) Begin = None
step_of m st s (Some t) (Call c) = if is_some t.waits then None else Some (attempt m st t c)
step_of m st s (Some t) Retry = retried m st t t.waits
step_of m st s (Some t) (Fail c k f) = given_up m st t c t.waits k f
step_of m st s (Some t) Commit = if is_some t.waits then None else Some (record { state = committed m st t; answer = said.Number (st.number + 1) })
step_of m st s (Some t) Abort = Some (record { state = ended st s; answer = said.Nothing })

abbrev pub step : {C : Type 0} → CallMeaning C → State C → ℕ → Event C → Option (Outcome C)
step m st s e = step_of m st s (of_session s st.live) e
