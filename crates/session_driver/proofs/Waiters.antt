-- Between two lines nobody waits whose call would be answered.
use Rattle.std.proofs.Common.{◌≡◌, ◌≢◌, inl, inr, ◌≤◌, ◌<◌, ℕ, suc, zero, ◌+◌, true, false, cond, ◌==◌, List, [], ◌∷◌, ◌++◌, length, Option, Some, None, is_some, refl, sym, ap, subst, ⊎_elim, ◌∙◌, arith, if◌then◌else◌}
use Rattle.std.proofs.lemmas.Bool.Decides.{nat_tests}
use Rattle.lock_resources.specs.declared.request.Request.{Request}
use Rattle.lock_resources.specs.Intentions.{request}
use Rattle.tree_cells.specs.Clashes.{bars, clash}
use Rattle.tree_cells.proofs.Coverage.{some_left}
use Rattle.tree_model.specs.Tree.{Tree}
use Rattle.wait_cycles.specs.Walks.{has}
use Rattle.wait_cycles.proofs.Turned.{same_or_not}
use Rattle.call_contract.specs.Books.{entry}
use Rattle.call_contract.specs.Calls.{CallMeaning}
use Rattle.call_contract.specs.States.{Live, Waiting, State, start, of_session, put, others, without, ended, view}
use Rattle.call_contract.specs.Attempts.{granted, stopped_at, answered, waits_with, queued, barred}
use Rattle.call_contract.specs.Waits.{cycle_through}
use Rattle.call_contract.specs.Steps as steps
use Rattle.call_contract.specs.Steps.{Outcome, unless_cycle, settled, attempt, step, step_of, committed, begun_by, new_live}
use Rattle.call_contract.specs.declared.events.Event.TheVariants as event
use Rattle.call_contract.specs.declared.events.EventAnswer.TheVariants as said
use Rattle.call_contract.proofs.Lists.{found_named, found_put, found_put_other, found_others, found_ended}
use Rattle.command_lines.specs.declared.line_reply.SessionRefusal.{SessionRefusal}
use Rattle.session_driver.specs.Progress.{Progress, noted}
use Rattle.tx_core.specs.Retries.{has_changed}
use Rattle.session_driver.specs.Retries.{if_retried, round, rounds, retries}
use Rattle.session_driver.specs.Refusals.{refusal}
use Rattle.session_driver.specs.Lines.{Asked, event_of, stepped, unless_refused, after_line, after_lines}
use Rattle.session_driver.specs.Waiters.{IsStopped, StoppedBut, AllStopped, AllListed}
use Rattle.session_driver.specs.declared.doing.Doing.{Doing}
use Rattle.session_driver.specs.declared.doing.Doing.TheVariants as doing
use Rattle.session_driver.proofs.Stopped.{has_without, no_longer, shorter, same_found, none_found, BarsMore, others_put, Moves, but_moved, but_idle, but_stopped}

-- a session at the end of a list is in it
has_last : (s : ℕ) (ss : List ℕ) → has s (ss ++ s ∷ []) ≡ true
has_last s [] = grind (arith, nat_tests)
has_last s (x ∷ xs) = grind (arith, nat_tests, has_last s xs)

-- and so is who was in it
has_still : (s u : ℕ) (ss : List ℕ) → has s ss ≡ true → has s (ss ++ u ∷ []) ≡ true
has_still s u [] on = cc
has_still s u (x ∷ xs) on = grind (arith, nat_tests, has_still s u xs)

some_is : {A : Type 0} (x y : A) → Some x ≡ Some y → x ≡ y
some_is x y e = cc

not_some : {A : Type 0} (x : A) → None ≡ Some x → ⊥
not_some x e = cc

module _ {C : Type 0} where
  more_bar : (o : Option (Live C)) (t u : Live C) (more : List Request) → o ≡ Some t → u.grants ≡ t.grants ++ more → BarsMore o u
  more_bar o t u more is grants = subst (λ (x : Option (Live C)). BarsMore x u) (sym is)
      (λ g on. ap (λ (gs : List Request). bars gs g) grants ∙ some_left (λ r a. clash g (request r a)) t.grants more on)

  -- ---- who is listed

  -- where one session moves, and is listed if it waits
  listed_moved : (st st' : State C) (u : Live C) → AllListed st → st'.live ≡ put u st.live → ((s : ℕ) → s ≢ u.session → has s st.waiting ≡ true → has s st'.waiting ≡ true)
      → ((w : Waiting C) → u.waits ≡ Some w → has u.session st'.waiting ≡ true) → AllListed st'
  listed_moved st st' u all live keeps own s t w found waits = ⊎_elim same (λ off. keeps s off (all s t w (sym (found_put_other s u st.live off) ∙ there) waits)) (same_or_not s u.session)
    where
      there : of_session s (put u st.live) ≡ Some t
      there = sym (ap (of_session s) live) ∙ found

      same : s ≡ u.session → has s st'.waiting ≡ true
      same is =
          let one : u ≡ t = same_found u t (found_put u st.live) (sym (ap (λ x. of_session x (put u st.live)) is) ∙ there) in
          ap (λ x. has x st'.waiting) is ∙ own w (ap (λ (x : Live C). x.waits) one ∙ waits)

  -- where one ends
  listed_ended : (st st' : State C) (s : ℕ) → AllListed st → st'.live ≡ others s st.live → st'.waiting ≡ without s st.waiting → AllListed st'
  listed_ended st st' s all live waiting u t w found waits = ⊎_elim (λ same. absurd (gone same)) (λ off. ap (has u) waiting ∙ has_without s u st.waiting off ∙ all u t w (sym (found_others s u st.live off) ∙ there) waits) (same_or_not u s)
    where
      there : of_session u (others s st.live) ≡ Some t
      there = sym (ap (of_session u) live) ∙ found

      gone : u ≡ s → ⊥
      gone is = none_found t (found_ended s st.live) (sym (ap (λ x. of_session x (others s st.live)) is) ∙ there)

-- who waits is in the list, and must wait
record IsSettled {C : Type 0} (m : CallMeaning C) (st : State C) : Type 0 where
  pub listed : AllListed st
  pub stopped : AllStopped m st

module _ {C : Type 0} (m : CallMeaning C) where
  -- ---- an attempt that is answered, and one that is stopped

  abbrev made : State C → Live C → C → Live C
  made st t c = record t {
    calls = t.calls ++ record { call = c; reply = m.reply c (view m t.calls st.tree) } ∷ [];
    grants = t.grants ++ granted m st t c;
    waits = None;
  }

  abbrev kept : State C → Live C → C → Request → Live C
  kept st t c g = record t { grants = t.grants ++ granted m st t c; waits = Some (record { call = c; request = g }) }

  made_moves : (st : State C) (t : Live C) (c : C) → of_session t.session st.live ≡ Some t → Moves m st (answered m st t c) (made st t c)
  made_moves st t c found = record { tree = refl; live = refl; more = more_bar (of_session t.session st.live) t (made st t c) (granted m st t c) found refl }

  kept_moves : (st : State C) (t : Live C) (c : C) (g : Request) → of_session t.session st.live ≡ Some t → Moves m st (waits_with m st t c g) (kept st t c g)
  kept_moves st t c g found = record { tree = refl; live = refl; more = more_bar (of_session t.session st.live) t (kept st t c g) (granted m st t c) found refl }

  -- who was stopped is stopped then
  kept_stopped : (st : State C) (t : Live C) (c : C) (g : Request) → stopped_at m st t c ≡ Some g → (w : Waiting C) → (kept st t c g).waits ≡ Some w → IsStopped m (waits_with m st t c g) (kept st t c g) w
  kept_stopped st t c g stopped w is =
      subst (λ (x : Waiting C). IsStopped m (waits_with m st t c g) (kept st t c g) x) (some_is (record { call = c; request = g }) w is)
      (ap (λ (live : List (Live C)). is_some (barred (m.requests c (view m t.calls st.tree)) live)) (others_put (kept st t c g) st.live) ∙ ap is_some stopped)

  made_listed : (st : State C) (t : Live C) (c : C) → AllListed st → AllListed (answered m st t c)
  made_listed st t c all = listed_moved st (answered m st t c) (made st t c) all refl (λ s off on. has_without t.session s st.waiting off ∙ on) (λ w e. absurd (not_some w e))

  ended_listed : (st : State C) (s : ℕ) → AllListed st → AllListed (ended st s)
  ended_listed st s all = listed_ended st (ended st s) s all refl refl

  -- ---- retries

  all_but_none : (st : State C) → StoppedBut m st [] → AllStopped m st
  all_but_none st but s t w found waits = ⊎_elim (λ on. absurd (none_in s on)) (λ on. on) (but s t w found waits)
    where
      none_in : (s : ℕ) → has s [] ≡ true → ⊥
      none_in s on = cc

  but_any : (st : State C) (ss : List ℕ) → AllStopped m st → StoppedBut m st ss
  but_any st ss stopped s t w found waits = inr (stopped s t w found waits)

  -- what each round promises, with so many sessions that wait at most
  abbrev Settles : ℕ → (State C → Progress C) → Type 0
  Settles n f = (u : State C) → AllListed u → length u.waiting ≤ n → IsSettled m (f u).state

  abbrev SettlesBut : ℕ → List ℕ → (State C → Progress C) → Type 0
  SettlesBut n ss f = (u : State C) → AllListed u → length u.waiting ≤ n → StoppedBut m u ss → IsSettled m (f u).state

  retry_settles : (n : ℕ) (f b : State C → Progress C) (s : ℕ) (ss : List ℕ) → Settles n f → SettlesBut (suc n) ss b → (st : State C) → AllListed st → length st.waiting ≤ suc n → StoppedBut m st (s ∷ ss)
      → (x : Option (Live C)) → of_session s st.live ≡ x → IsSettled m (if_retried st s (step_of m st s x event.Retry) f b).state
  retry_settles n f b s ss first rest st all few but None gone = rest st all few (but_idle m st s ss (λ t w found waits. none_found t gone found) but)
  retry_settles n f b s ss first rest st all few but (Some t) there = by_wait t.waits refl
    where
      named : t.session ≡ s
      named = found_named s st.live t there

      found : of_session t.session st.live ≡ Some t
      found = ap (λ x. of_session x st.live) named ∙ there

      but_t : StoppedBut m st (t.session ∷ ss)
      but_t = subst (λ x. StoppedBut m st (x ∷ ss)) (sym named) but

      by_cycle : (w : Waiting C) (g : Request) (cycle : Option (List ℕ)) → t.waits ≡ Some w → stopped_at m st t w.call ≡ Some g
          → IsSettled m (if_retried st s (Some (unless_cycle st (waits_with m st t w.call g) t.session g cycle)) f b).state
      by_cycle w g None waits stopped =
          elim (has_changed (of_session s st.live) (of_session s (waits_with m st t w.call g).live)) as (λ c. IsSettled m (cond c
          (noted (entry s event.Retry (unless_cycle st (waits_with m st t w.call g) t.session g None).answer) [] (b (waits_with m st t w.call g))) (b st)).state) [
            | true ↦ rest (waits_with m st t w.call g) (listed_moved st (waits_with m st t w.call g) (kept st t w.call g) all refl
                (λ u off on. ap (λ q. has u (queued t.session q st.waiting)) waits ∙ on)
                (λ v e. ap (λ q. has t.session (queued t.session q st.waiting)) waits ∙ all t.session t w found waits))
                (subst (λ q. length (queued t.session q st.waiting) ≤ suc n) (sym waits) few)
                (but_moved m st (waits_with m st t w.call g) (kept st t w.call g) ss (kept_moves st t w.call g found) but_t (kept_stopped st t w.call g stopped))
            | false ↦ rest st all few (but_stopped m st s ss (λ u v at e. again u v at e) but)
          ]
        where
          again : (u : Live C) (v : Waiting C) → of_session s st.live ≡ Some u → u.waits ≡ Some v → IsStopped m st u v
          again u v at e =
              let one : t ≡ u = same_found t u there at in
              let same : w ≡ v = some_is w v (sym waits ∙ ap (λ (x : Live C). x.waits) one ∙ e) in
              subst (λ (x : Live C). IsStopped m st x v) one (subst (λ (x : Waiting C). IsStopped m st t x) same (ap is_some stopped))
      by_cycle w g (Some cycle) waits stopped = first (ended st t.session) (ended_listed st t.session all) (less (shorter t.session st.waiting (all t.session t w found waits)))
        where
          less : length (without t.session st.waiting) < length st.waiting → length (without t.session st.waiting) ≤ n
          less h = grind (arith, h, few)

      by_stop : (w : Waiting C) (o : Option Request) → t.waits ≡ Some w → stopped_at m st t w.call ≡ o → IsSettled m (if_retried st s (Some (settled m st t w.call o)) f b).state
      by_stop w None waits stopped =
          rest (answered m st t w.call) (made_listed st t w.call all) (less (no_longer t.session st.waiting))
          (but_moved m st (answered m st t w.call) (made st t w.call) ss (made_moves st t w.call found) but_t (λ v e. absurd (not_some v e)))
        where
          less : length (without t.session st.waiting) ≤ length st.waiting → length (without t.session st.waiting) ≤ suc n
          less h = grind (arith, h, few)
      by_stop w (Some g) waits stopped = by_cycle w g (cycle_through (waits_with m st t w.call g).live t.session) waits stopped

      by_wait : (q : Option (Waiting C)) → t.waits ≡ q → IsSettled m (if_retried st s (steps.retried m st t q) f b).state
      by_wait None waits = rest st all few (but_idle m st s ss (λ u w at e. not_some w (sym waits ∙ ap (λ (x : Live C). x.waits) (same_found t u there at) ∙ e)) but)
      by_wait (Some w) waits = by_stop w (stopped_at m st t w.call) waits refl

  round_settles : (n : ℕ) (f : State C → Progress C) → Settles n f → (ss : List ℕ) → SettlesBut (suc n) ss (round m f ss)
  round_settles n f first [] st all few but = record { listed = all; stopped = all_but_none st but }
  round_settles n f first (s ∷ ss) st all few but = retry_settles n f (round m f ss) s ss first (round_settles n f first ss) st all few but (of_session s st.live) refl

  rounds_settle : (n : ℕ) → Settles n (rounds m n)
  rounds_settle zero st all few = record { listed = all; stopped = λ s t w found waits. absurd (nobody s st.waiting few (all s t w found waits)) }
    where
      nobody : (s : ℕ) (ss : List ℕ) → length ss ≤ 0 → has s ss ≡ true → ⊥
      nobody s [] h on = cc
      nobody s (x ∷ xs) h on = grind (arith, h)
  rounds_settle (suc n) st all few = round_settles n (rounds m n) (rounds_settle n) st.waiting st all few (λ s t w found waits. inl (all s t w found waits))

  retries_settle : (st : State C) → AllListed st → IsSettled m (retries m st).state
  retries_settle st all = rounds_settle (suc (length st.waiting)) st all (le_suc (length st.waiting))
    where
      le_suc : (k : ℕ) → k ≤ suc k
      le_suc k = grind (arith)

  -- ---- lines

  begin_settles : (st : State C) (s : ℕ) → IsSettled m st → of_session s st.live ≡ None → IsSettled m (begun_by st s)
  begin_settles st s is gone =
      let one : Live C = new_live s (st.ordinals s + 1) in
      let moves : Moves m st (begun_by st s) one = record { tree = refl; live = refl; more = subst (λ (x : Option (Live C)). BarsMore x one) (sym gone) tt } in
      record {
        listed = listed_moved st (begun_by st s) one is.listed refl (λ u off on. on) (λ w e. absurd (not_some w e));
        stopped = all_but_none (begun_by st s) (but_moved m st (begun_by st s) one [] moves (but_any st (one.session ∷ []) is.stopped) (λ w e. absurd (not_some w e)));
      }

  stopped_settles : (st : State C) (s : ℕ) (t : Live C) (c : C) (g : Request) (cycle : Option (List ℕ)) → IsSettled m st → of_session t.session st.live ≡ Some t → t.waits ≡ None → stopped_at m st t c ≡ Some g
      → IsSettled m (stepped m st s (doing.Call c) (Some (unless_cycle st (waits_with m st t c g) t.session g cycle))).state
  stopped_settles st s t c g (Some cycle) is found idle stopped = retries_settle (ended st t.session) (ended_listed st t.session is.listed)
  stopped_settles st s t c g None is found idle stopped = record {
    listed = listed_moved st (waits_with m st t c g) (kept st t c g) is.listed refl
        (λ u off on. ap (λ q. has u (queued t.session q st.waiting)) idle ∙ has_still u t.session st.waiting on)
        (λ w e. ap (λ q. has t.session (queued t.session q st.waiting)) idle ∙ has_last t.session st.waiting);
    stopped = all_but_none (waits_with m st t c g) (but_moved m st (waits_with m st t c g) (kept st t c g) [] (kept_moves st t c g found) (but_any st (t.session ∷ []) is.stopped) (kept_stopped st t c g stopped));
  }

  call_settles : (st : State C) (s : ℕ) (t : Live C) (c : C) (o : Option Request) → IsSettled m st → of_session t.session st.live ≡ Some t → t.waits ≡ None → stopped_at m st t c ≡ o
      → IsSettled m (stepped m st s (doing.Call c) (Some (settled m st t c o))).state
  call_settles st s t c (Some g) is found idle stopped = stopped_settles st s t c g (cycle_through (waits_with m st t c g).live t.session) is found idle stopped
  call_settles st s t c None is found idle stopped = record {
    listed = made_listed st t c is.listed;
    stopped = all_but_none (answered m st t c) (but_moved m st (answered m st t c) (made st t c) [] (made_moves st t c found) (but_any st (t.session ∷ []) is.stopped) (λ w e. absurd (not_some w e)));
  }

  step_settles : (st : State C) (s : ℕ) (d : Doing C) (x : Option (Live C)) → IsSettled m st → of_session s st.live ≡ x → IsSettled m (stepped m st s d (step_of m st s x (event_of d))).state
  step_settles st s doing.Begin None is gone = elim (st.opening + st.begun == st.limit) as (λ b. IsSettled m (stepped m st s doing.Begin (if b then None else
      Some (record { state = begun_by st s; answer = said.Number (st.ordinals s + 1) }))).state) [ true ↦ is | false ↦ begin_settles st s is gone ]
  step_settles st s doing.Begin (Some t) is there = is
  step_settles st s doing.Commit None is gone = is
  step_settles st s doing.Commit (Some t) is there = elim (is_some t.waits) as (λ b. IsSettled m (stepped m st s doing.Commit (if b then None else
      Some (record { state = committed m st t; answer = said.Number (st.number + 1) }))).state) [
        | true ↦ is
        | false ↦ retries_settle (committed m st t) (listed_ended st (committed m st t) t.session is.listed refl refl)
      ]
  step_settles st s doing.Abort None is gone = is
  step_settles st s doing.Abort (Some t) is there = retries_settle (ended st s) (ended_listed st s is.listed)
  step_settles st s (doing.Call c) None is gone = is
  step_settles st s (doing.Call c) (Some t) is there = go t.waits refl
    where
      go : (q : Option (Waiting C)) → t.waits ≡ q → IsSettled m (stepped m st s (doing.Call c) (if is_some q then None else Some (attempt m st t c))).state
      go None idle = call_settles st s t c (stopped_at m st t c) is (ap (λ x. of_session x st.live) (found_named s st.live t there) ∙ there) idle refl
      go (Some w) waits = is

  line_settles : (st : State C) (line : Asked C) → IsSettled m st → IsSettled m (after_line m st line).state
  line_settles st line is = by (refusal m st line.session line.doing)
    where
      by : (why : Option SessionRefusal) → IsSettled m (unless_refused m st line.session line.doing why).state
      by (Some w) = is
      by None = step_settles st line.session line.doing (of_session line.session st.live) is refl

  lines_settle : (st : State C) (lines : List (Asked C)) → IsSettled m st → IsSettled m (after_lines m st lines).state
  lines_settle st [] is = is
  lines_settle st (line ∷ lines) is = lines_settle (after_line m st line).state lines (line_settles st line is)

  -- from an opening on
  pub nobody_waits_in_vain : (t : Tree) (n limit : ℕ) (lines : List (Asked C)) → AllStopped m (after_lines m (start t n limit) lines).state
  nobody_waits_in_vain t n limit lines = (lines_settle (start t n limit) lines (record { listed = λ s x w found waits. absurd (not_some x found); stopped = λ s x w found waits. absurd (not_some x found) })).stopped
