-- No state of a run has a cycle of waiting sessions.
use Rattle.std.proofs.Common.{◌≡◌, ◌≢◌, ℕ, ◌+◌, Bool, true, false, not, ◌&&◌, ◌||◌, List, [], ◌∷◌, ◌++◌, take, length, Option, Some, None, is_some, nat_lt, nat_le, ◌==◌, refl, sym, ap, ap₂, ◌∙◌, arith, true≢false, if◌then◌else◌}
use Rattle.std.proofs.lemmas.Bool.Decides.{nat_tests}
use Rattle.lock_resources.specs.declared.request.Request.{Request}
use Rattle.tree_model.specs.Tree.{Tree}
use Rattle.wait_cycles.specs.Walks.{has}
use Rattle.wait_cycles.specs.Cycles.{HasNoneThrough, AreAmong, IsIrreflexive}
use Rattle.wait_cycles.proofs.Shown.{none_shown}
use Rattle.wait_cycles.proofs.Turned.{no_new_cycle, idle}
use Rattle.call_contract.specs.declared.events.Event.{Event}
use Rattle.call_contract.specs.declared.events.Event.TheVariants.{Begin, Call, Retry, Fail, Commit, Abort}
use Rattle.call_contract.specs.declared.events.EventAnswer.TheVariants as said
use Rattle.call_contract.specs.Calls.{CallMeaning}
use Rattle.call_contract.specs.States.{Waiting, Live, State, start, of_session, put, others, sessions, view}
use Rattle.call_contract.specs.Attempts.{granted, stopped_at, waits_with}
use Rattle.call_contract.specs.Waits.{is_stopped_by, stops, waits_for, NoCycle, cycle_through}
use Rattle.call_contract.specs.Steps.{Outcome, unless_cycle, settled, attempt, retried, failed, given_up, committed, begun_by, new_live, step_of}
use Rattle.call_contract.specs.Books.{Book, state_of, next, last}
use Rattle.call_contract.proofs.Lists.{found_put, found_put_other, found_others, found_ended}

-- ---- who waits

and_false : (a : Bool) → (a && false) ≡ false
and_false true = refl
and_false false = refl

module _ {C : Type 0} where
  pub nobody_for_himself : (live : List (Live C)) → IsIrreflexive (waits_for live)
  nobody_for_himself live u = go (of_session u live)
    where
      itself : (s : ℕ) → not (s == s) ≡ false
      itself s = grind (arith, nat_tests)

      go : (o : Option (Live C)) → stops o o ≡ false
      go None = refl
      go (Some t) = ap (λ b. b && is_stopped_by t.waits t.grants) (itself t.session)

  not_live : (u : ℕ) (ts : List (Live C)) → has u (sessions ts) ≡ false → of_session u ts ≡ None
  not_live u [] e = refl
  not_live u (t ∷ ts) e = grind (arith, nat_tests, not_live u ts)

  -- who waits is live
  pub waiters_live : (live : List (Live C)) → AreAmong (waits_for live) (sessions live)
  waiters_live live u v on = go (has u (sessions live)) refl
    where
      go : (b : Bool) → has u (sessions live) ≡ b → b ≡ true
      go true h = refl
      go false h = absurd (true≢false (sym on ∙ ap (λ (o : Option (Live C)). stops o (of_session v live)) (not_live u live h)))

  -- who waits with nothing waits for nobody
  waits_not : (live : List (Live C)) (s u : ℕ) (t : Live C) → of_session s live ≡ Some t → t.waits ≡ None → waits_for live s u ≡ false
  waits_not live s u t found none = ap (λ (a : Option (Live C)). stops a (of_session u live)) found ∙ go (of_session u live)
    where
      go : (v : Option (Live C)) → stops (Some t) v ≡ false
      go None = refl
      go (Some v) = ap (λ (w : Option (Waiting C)). not (t.session == v.session) && is_stopped_by w v.grants) none ∙ and_false (not (t.session == v.session))

  -- ---- one session moves

  one_moves : (before after : List (Live C)) (s : ℕ) → NoCycle before → ((u : ℕ) → u ≢ s → of_session u after ≡ of_session u before) → HasNoneThrough (waits_for after) s → NoCycle after
  one_moves before after s none same through = no_new_cycle (waits_for before) (waits_for after) s none (λ u v off out. ap₂ (λ (a b : Option (Live C)). stops a b) (same u off) (same v out)) through

  put_idle : (live : List (Live C)) (t : Live C) → NoCycle live → t.waits ≡ None → NoCycle (put t live)
  put_idle live t none free = one_moves live (put t live) t.session none (λ u off. found_put_other u t live off)
      (idle (waits_for (put t live)) t.session (λ u. waits_not (put t live) t.session u t (found_put t live) free))

  others_none : (live : List (Live C)) (s : ℕ) → NoCycle live → NoCycle (others s live)
  others_none live s none = one_moves live (others s live) s none (λ u off. found_others s u live off)
      (idle (waits_for (others s live)) s (λ u. ap (λ (a : Option (Live C)). stops a (of_session u (others s live))) (found_ended s live)))

-- ---- each step

module _ {C : Type 0} (m : CallMeaning C) where
  settled_none : (st : State C) (t : Live C) (c : C) (o : Option Request) → NoCycle st.live → NoCycle (settled m st t c o).state.live
  settled_none st t c None none = put_idle st.live (record t { calls = t.calls ++ record { call = c; reply = m.reply c (view m t.calls st.tree) } ∷ []; grants = t.grants ++ granted m st t c; waits = None }) none refl
  settled_none st t c (Some g) none = go (cycle_through (waits_with m st t c g).live t.session) refl
    where
      go : (o : Option (List ℕ)) → cycle_through (waits_with m st t c g).live t.session ≡ o → NoCycle (unless_cycle st (waits_with m st t c g) t.session g o).state.live
      go None e = one_moves st.live (waits_with m st t c g).live t.session none (λ u off. found_put_other u (record t { grants = t.grants ++ granted m st t c; waits = Some (record { call = c; request = g }) }) st.live off)
          (none_shown (waits_for (waits_with m st t c g).live) (sessions (waits_with m st t c g).live) t.session (nobody_for_himself (waits_with m st t c g).live) (waiters_live (waits_with m st t c g).live) e)
      go (Some members) e = others_none st.live t.session none

  if_none : (st : State C) (b : Bool) (o : Outcome C) → NoCycle st.live → NoCycle o.state.live → NoCycle (state_of st (if b then None else Some o)).live
  if_none st true o none one = none
  if_none st false o none one = one

  where_none : (st : State C) (b : Bool) (o : Outcome C) → NoCycle st.live → NoCycle o.state.live → NoCycle (state_of st (if b then Some o else None)).live
  where_none st true o none one = one
  where_none st false o none one = none

  failed_none : (st : State C) (t : Live C) (c : C) (k : ℕ) → NoCycle st.live → NoCycle (failed m st t c k).state.live
  failed_none st t c k none = put_idle st.live (record t { grants = t.grants ++ take k (granted m st t c); waits = None }) none refl

  retried_none : (st : State C) (t : Live C) (w : Option (Waiting C)) → NoCycle st.live → NoCycle (state_of st (retried m st t w)).live
  retried_none st t None none = none
  retried_none st t (Some w) none = settled_none st t w.call (stopped_at m st t w.call) none

  given_up_none : (st : State C) (t : Live C) (c : Option C) (w : Option (Waiting C)) (k : ℕ) (f : Option ℕ) → NoCycle st.live → NoCycle (state_of st (given_up m st t c w k f)).live
  given_up_none st t (Some c) None k f none = where_none st ((is_some f || nat_lt 0 k) && nat_le k (length (granted m st t c))) (failed m st t c k) none (failed_none st t c k none)
  given_up_none st t None (Some w) k f none = where_none st (nat_le k (length (granted m st t w.call))) (failed m st t w.call k) none (failed_none st t w.call k none)
  given_up_none st t (Some c) (Some w) k f none = none
  given_up_none st t None None k f none = none

  step_none : (st : State C) (s : ℕ) (o : Option (Live C)) (e : Event C) → NoCycle st.live → NoCycle (state_of st (step_of m st s o e)).live
  step_none st s None Begin none = if_none st (st.opening + st.begun == st.limit) (record { state = begun_by st s; answer = said.Number (st.ordinals s + 1) }) none
      (put_idle st.live (new_live s (st.ordinals s + 1)) none refl)
  step_none st s None (Call c) none = none
  step_none st s None Retry none = none
  step_none st s None (Fail c k f) none = none
  step_none st s None Commit none = none
  step_none st s None Abort none = none
  step_none st s (Some t) Begin none = none
  step_none st s (Some t) (Call c) none = if_none st (is_some t.waits) (attempt m st t c) none (settled_none st t c (stopped_at m st t c) none)
  step_none st s (Some t) Retry none = retried_none st t t.waits none
  step_none st s (Some t) (Fail c k f) none = given_up_none st t c t.waits k f none
  step_none st s (Some t) Commit none = if_none st (is_some t.waits) (record { state = committed m st t; answer = said.Number (st.number + 1) }) none (others_none st.live t.session none)
  step_none st s (Some t) Abort none = others_none st.live s none

  pub last_none : (st : State C) (book : Book C) → NoCycle st.live → NoCycle (last m st book).live
  last_none st [] none = none
  last_none st (n ∷ ns) none = last_none (next m st n) ns (step_none st n.session (of_session n.session st.live) n.event none)

pub start_none : (C : Type 0) (tree : Tree) (number limit : ℕ) → NoCycle (start {C = C} tree number limit).live
start_none C tree number limit s = idle (waits_for (start {C = C} tree number limit).live) s (λ u. refl)
