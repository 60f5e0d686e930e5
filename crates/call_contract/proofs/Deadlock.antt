-- What the end of a transaction leaves, and that a deadlock's answer is the first cycle that its caller would close.
use Rattle.std.proofs.Common.{◌≡◌, ℕ, ◌+◌, Bool, true, false, ◌&&◌, ◌||◌, List, ◌++◌, length, Option, Some, None, is_some, nat_lt, nat_le, ◌==◌, refl, sym, subst, if◌then◌else◌}
use Rattle.lock_resources.specs.declared.request.Request.{Request}
use Rattle.wait_cycles.specs.Walks.{Rises}
use Rattle.wait_cycles.specs.Cycles.{IsFirst}
use Rattle.wait_cycles.proofs.Shown.{cycle_shown}
use Rattle.call_contract.specs.declared.events.Event.{Event}
use Rattle.call_contract.specs.declared.events.Event.TheVariants.{Begin, Call, Retry, Fail, Commit, Abort}
use Rattle.call_contract.specs.declared.events.Answer.TheVariants as answer
use Rattle.call_contract.specs.declared.events.EventAnswer.{EventAnswer}
use Rattle.call_contract.specs.declared.events.EventAnswer.TheVariants as said
use Rattle.call_contract.specs.Calls.{CallMeaning}
use Rattle.call_contract.specs.States.{Waiting, Live, State, of_session, sessions, ended}
use Rattle.call_contract.specs.Attempts.{granted, stopped_at, waits_with}
use Rattle.call_contract.specs.Waits.{waits_for, NoCycle, cycle_through}
use Rattle.call_contract.specs.Steps.{Outcome, unless_cycle, settled, attempt, retried, failed, given_up, committed, begun_by, step_of}
use Rattle.call_contract.specs.Books.{state_of, IsAnswer}
use Rattle.call_contract.specs.Ends.{LeavesAllElse}
use Rattle.call_contract.specs.Deadlocks.{attempted, ClosesCycle}
use Rattle.call_contract.proofs.Lists.{found_named, found_others, found_ended}
use Rattle.call_contract.proofs.NoCycles.{nobody_for_himself, waiters_live}
use Rattle.call_contract.proofs.Rising.{rises_put}

-- ---- an end

pub ended_leaves : {C : Type 0} (st : State C) (s : ℕ) → LeavesAllElse st (ended st s) s
ended_leaves st s = record { gone = found_ended s st.live; others = λ u off. found_others s u st.live off; tree = refl; number = refl; begun = refl; ordinals = refl; waiting = refl }

pub abort_leaves : {C : Type 0} (m : CallMeaning C) (st : State C) (s : ℕ) (o : Option (Live C)) (a : EventAnswer) → IsAnswer a (step_of m st s o Abort) → LeavesAllElse st (state_of st (step_of m st s o Abort)) s
abort_leaves m st s None a is = absurd is
abort_leaves m st s (Some t) a is = ended_leaves st s

-- ---- a deadlock

abbrev pub deadlock : List ℕ → EventAnswer
deadlock cycle = said.Call (answer.Deadlock cycle)

is_number : {A : Type 0} {cycle : List ℕ} {k : ℕ} → deadlock cycle ≡ said.Number k → A
is_number e = cc

is_nothing : {A : Type 0} {cycle : List ℕ} → deadlock cycle ≡ said.Nothing → A
is_nothing e = cc

same_cycle : {xs ys : List ℕ} → deadlock xs ≡ deadlock ys → xs ≡ ys
same_cycle e = cc

module _ {C : Type 0} (m : CallMeaning C) where
  closes : (st : State C) (s : ℕ) (t : Live C) (e : Event C) (c : C) (cycle : List ℕ) → NoCycle st.live → Rises (sessions st.live) → of_session s st.live ≡ Some t
      → attempted e t.waits ≡ Some c → deadlock cycle ≡ (attempt m st t c).answer → ClosesCycle m st (attempt m st t c).state s e cycle
  closes st s t e c cycle none rise live is answered = go (stopped_at m st t c) refl answered
    where
      first : (g : Request) (members : List ℕ) → cycle_through (waits_with m st t c g).live t.session ≡ Some members → IsFirst (waits_for (waits_with m st t c g).live) s members
      first g members found = subst (λ x. IsFirst (waits_for (waits_with m st t c g).live) x members) (found_named s st.live t live)
          (cycle_shown (waits_for (waits_with m st t c g).live) (sessions (waits_with m st t c g).live) t.session members
          (rises_put (record t { grants = t.grants ++ granted m st t c; waits = Some (record { call = c; request = g }) }) st.live rise)
          (nobody_for_himself (waits_with m st t c g).live) (waiters_live (waits_with m st t c g).live) found)

      cycled : (g : Request) → stopped_at m st t c ≡ Some g → (r : Option (List ℕ)) → cycle_through (waits_with m st t c g).live t.session ≡ r
          → deadlock cycle ≡ (unless_cycle st (waits_with m st t c g) t.session g r).answer → ClosesCycle m st (unless_cycle st (waits_with m st t c g) t.session g r).state s e cycle
      cycled g at None found a = not_waits a
        where
          not_waits : {A : Type 0} {hs : List ℕ} → deadlock cycle ≡ said.Call (answer.Waits g.resource g.ask hs) → A
          not_waits a = cc
      cycled g at (Some members) found a = record {
        transaction = t;
        live = live;
        call = c;
        attempts = is;
        request = g;
        stopped = at;
        first = subst (λ (x : List ℕ). IsFirst (waits_for (waits_with m st t c g).live) s x) (sym (same_cycle a)) (first g members found);
        before = none;
        ended = subst (LeavesAllElse st (ended st t.session)) (found_named s st.live t live) (ended_leaves st t.session);
      }

      go : (o : Option Request) → stopped_at m st t c ≡ o → deadlock cycle ≡ (settled m st t c o).answer → ClosesCycle m st (settled m st t c o).state s e cycle
      go None at a = not_answered a
        where
          not_answered : {A : Type 0} {r : _} → deadlock cycle ≡ said.Call (answer.Answered r) → A
          not_answered a = cc
      go (Some g) at a = cycled g at (cycle_through (waits_with m st t c g).live t.session) refl a

  -- an attempt where a test before it holds
  if_closes : (st : State C) (s : ℕ) (e : Event C) (cycle : List ℕ) (b : Bool) (o : Outcome C) → (deadlock cycle ≡ o.answer → ClosesCycle m st o.state s e cycle)
      → IsAnswer (deadlock cycle) (if b then None else Some o) → ClosesCycle m st (state_of st (if b then None else Some o)) s e cycle
  if_closes st s e cycle true o h a = absurd a
  if_closes st s e cycle false o h a = h a

  -- a step that isn't an attempt answers otherwise
  if_other : {A : Type 0} (cycle : List ℕ) (b : Bool) (o : Outcome C) → (deadlock cycle ≡ o.answer → ⊥) → IsAnswer (deadlock cycle) (if b then None else Some o) → A
  if_other cycle true o h a = absurd a
  if_other cycle false o h a = absurd (h a)

  where_other : {A : Type 0} (cycle : List ℕ) (b : Bool) (o : Outcome C) → (deadlock cycle ≡ o.answer → ⊥) → IsAnswer (deadlock cycle) (if b then Some o else None) → A
  where_other cycle true o h a = absurd (h a)
  where_other cycle false o h a = absurd a

  retry_closes : (st : State C) (s : ℕ) (t : Live C) (w : Option (Waiting C)) (cycle : List ℕ) → t.waits ≡ w → NoCycle st.live → Rises (sessions st.live) → of_session s st.live ≡ Some t
      → IsAnswer (deadlock cycle) (retried m st t w) → ClosesCycle m st (state_of st (retried m st t w)) s Retry cycle
  retry_closes st s t None cycle is none rise live a = absurd a
  retry_closes st s t (Some w) cycle is none rise live a = closes st s t Retry w.call cycle none rise live (subst (λ (x : Option (Waiting C)). attempted Retry x ≡ Some w.call) (sym is) refl) a

  given_up_other : {A : Type 0} (st : State C) (t : Live C) (c : Option C) (w : Option (Waiting C)) (k : ℕ) (f : Option ℕ) (cycle : List ℕ) → IsAnswer (deadlock cycle) (given_up m st t c w k f) → A
  given_up_other st t (Some c) None k f cycle a = where_other cycle ((is_some f || nat_lt 0 k) && nat_le k (length (granted m st t c))) (failed m st t c k) (λ e. is_nothing e) a
  given_up_other st t None (Some w) k f cycle a = where_other cycle (nat_le k (length (granted m st t w.call))) (failed m st t w.call k) (λ e. is_nothing e) a
  given_up_other st t (Some c) (Some w) k f cycle a = absurd a
  given_up_other st t None None k f cycle a = absurd a

  pub deadlock_closes : (st : State C) (s : ℕ) (o : Option (Live C)) (e : Event C) (cycle : List ℕ) → NoCycle st.live → Rises (sessions st.live) → of_session s st.live ≡ o
      → IsAnswer (deadlock cycle) (step_of m st s o e) → ClosesCycle m st (state_of st (step_of m st s o e)) s e cycle
  deadlock_closes st s None Begin cycle none rise live a = if_other cycle (st.opening + st.begun == st.limit) (record { state = begun_by st s; answer = said.Number (st.ordinals s + 1) }) (λ e. is_number e) a
  deadlock_closes st s None (Call c) cycle none rise live a = absurd a
  deadlock_closes st s None Retry cycle none rise live a = absurd a
  deadlock_closes st s None (Fail c k f) cycle none rise live a = absurd a
  deadlock_closes st s None Commit cycle none rise live a = absurd a
  deadlock_closes st s None Abort cycle none rise live a = absurd a
  deadlock_closes st s (Some t) Begin cycle none rise live a = absurd a
  deadlock_closes st s (Some t) (Call c) cycle none rise live a = if_closes st s (Call c) cycle (is_some t.waits) (attempt m st t c) (λ e. closes st s t (Call c) c cycle none rise live refl e) a
  deadlock_closes st s (Some t) Retry cycle none rise live a = retry_closes st s t t.waits cycle refl none rise live a
  deadlock_closes st s (Some t) (Fail c k f) cycle none rise live a = given_up_other st t c t.waits k f cycle a
  deadlock_closes st s (Some t) Commit cycle none rise live a = if_other cycle (is_some t.waits) (record { state = committed m st t; answer = said.Number (st.number + 1) }) (λ e. is_number e) a
  deadlock_closes st s (Some t) Abort cycle none rise live a = is_nothing a
