-- What a line does to the committed tree and its number: only a commit that isn't refused changes them.
use Rattle.std.proofs.Common.{◌≡◌, ◌≢◌, ℕ, suc, zero, ◌+◌, Bool, IsTrue, true, false, cond, List, [], ◌∷◌, length, Option, Some, None, refl, sym, subst, ◌∙◌}
use Rattle.std.proofs.lemmas.Bool.{false≢true}
use Rattle.std.proofs.lemmas.Option.{none-some}
use Rattle.std.specs.Prelude.{is_some, if◌then◌else◌, ◌==◌}
use Rattle.lock_resources.specs.declared.request.Request.{Request}
use Rattle.call_contract.specs.Attempts.{stopped_at, waits_with}
use Rattle.call_contract.specs.Books.{entry}
use Rattle.call_contract.specs.Calls.{CallMeaning}
use Rattle.call_contract.specs.States.{Live, Waiting, State, of_session}
use Rattle.call_contract.specs.Steps.{Outcome, step, step_of, settled, unless_cycle, retried as attempted_again, begun_by, committed}
use Rattle.call_contract.specs.Waits.{cycle_through}
use Rattle.call_contract.specs.declared.events.Answer.TheVariants as answer
use Rattle.call_contract.specs.declared.events.Event.TheVariants.{Retry}
use Rattle.call_contract.specs.declared.events.EventAnswer.{EventAnswer}
use Rattle.call_contract.specs.declared.events.EventAnswer.TheVariants as said
use Rattle.command_lines.specs.declared.line_reply.SessionRefusal.{SessionRefusal}
use Rattle.command_lines.specs.declared.line_reply.SessionRefusal.TheVariants.{IsWaiting, NoTransaction, CommitLimit}
use Rattle.tx_core.specs.Commits.{is_past_limit}
use Rattle.tx_core.specs.Retries.{has_changed}
use Rattle.session_driver.specs.Committed.{SameCommitted, Commits}
use Rattle.session_driver.specs.Progress.{Progress, noted}
use Rattle.session_driver.specs.Refusals.{refusal, refusal_of}
use Rattle.session_driver.specs.Retries.{retried, if_retried, round, rounds, retries}
use Rattle.session_driver.specs.Lines.{event_of, then_retries, stepped, unless_refused, after_line}
use Rattle.session_driver.specs.declared.doing.Doing.{Doing}
use Rattle.session_driver.specs.declared.doing.Doing.TheVariants.{Begin, Commit, Abort, Call}

-- so it is after a step, if there is one
abbrev KeptBy : {C : Type 0} → State C → Option (Outcome C) → Type 0
KeptBy st None = Unit {0}
KeptBy st (Some o) = SameCommitted st o.state

-- what is asked is no commit
abbrev pub IsOther : {C : Type 0} → Doing C → Type 0
IsOther Commit = ⊥
IsOther d = Unit {0}

module _ {C : Type 0} where
  pub same : (st : State C) → SameCommitted st st
  same st = record { tree = refl; number = refl }

  then_same : (st u v : State C) → SameCommitted st u → SameCommitted u v → SameCommitted st v
  then_same st u v one two = record { tree = two.tree ∙ one.tree; number = two.number ∙ one.number }

  kept_if : (st : State C) (b : Bool) (o : Outcome C) → SameCommitted st o.state → KeptBy st (if b then None else Some o)
  kept_if st true o same = tt
  kept_if st false o same = same

module _ {C : Type 0} (m : CallMeaning C) where
  -- ---- steps

  cycle_keeps : (st waits : State C) (s : ℕ) (g : Request) (cycle : Option (List ℕ)) → SameCommitted st waits → SameCommitted st (unless_cycle st waits s g cycle).state
  cycle_keeps st waits s g None kept = kept
  cycle_keeps st waits s g (Some cycle) kept = record { tree = refl; number = refl }

  attempt_keeps : (st : State C) (t : Live C) (c : C) (g : Option Request) → SameCommitted st (settled m st t c g).state
  attempt_keeps st t c None = record { tree = refl; number = refl }
  attempt_keeps st t c (Some g) = cycle_keeps st (waits_with m st t c g) t.session g (cycle_through (waits_with m st t c g).live t.session) (record { tree = refl; number = refl })

  again_keeps : (st : State C) (t : Live C) (w : Option (Waiting C)) → KeptBy st (attempted_again m st t w)
  again_keeps st t None = tt
  again_keeps st t (Some w) = attempt_keeps st t w.call (stopped_at m st t w.call)

  retry_keeps : (st : State C) (s : ℕ) (x : Option (Live C)) → KeptBy st (step_of m st s x Retry)
  retry_keeps st s None = tt
  retry_keeps st s (Some t) = again_keeps st t t.waits

  -- ---- retries

  retried_keeps : (st : State C) (s : ℕ) (o : Outcome C) (a : EventAnswer) (from_first behind as_before : Progress C)
      → SameCommitted st from_first.state → SameCommitted st behind.state → SameCommitted st as_before.state → SameCommitted st (retried st s o a from_first behind as_before).state
  retried_keeps st s o (said.Call (answer.Deadlock cycle)) f b k one two three = one
  retried_keeps st s o (said.Call (answer.Waits r q hs)) f b k one two three =
      elim (has_changed (of_session s st.live) (of_session s o.state.live)) as (λ c. SameCommitted st (cond c (noted (entry s Retry o.answer) [] b) k).state) [
        | true ↦ two
        | false ↦ three
      ]
  retried_keeps st s o (said.Call (answer.Answered r)) f b k one two three = two
  retried_keeps st s o said.Nothing f b k one two three = two
  retried_keeps st s o (said.Number n) f b k one two three = two

  if_retried_keeps : (st : State C) (s : ℕ) (x : Option (Outcome C)) (from_first behind : State C → Progress C) → KeptBy st x
      → ((u : State C) → SameCommitted u (from_first u).state) → ((u : State C) → SameCommitted u (behind u).state) → SameCommitted st (if_retried st s x from_first behind).state
  if_retried_keeps st s None f b is one two = two st
  if_retried_keeps st s (Some o) f b is one two = retried_keeps st s o o.answer (f o.state) (b o.state) (b st)
      (then_same st o.state (f o.state).state is (one o.state)) (then_same st o.state (b o.state).state is (two o.state)) (two st)

  round_keeps : (from_first : State C → Progress C) → ((u : State C) → SameCommitted u (from_first u).state) → (ss : List ℕ) (st : State C) → SameCommitted st (round m from_first ss st).state
  round_keeps f one [] st = same st
  round_keeps f one (s ∷ ss) st = if_retried_keeps st s (step m st s Retry) f (round m f ss) (retry_keeps st s (of_session s st.live)) one (round_keeps f one ss)

  rounds_keep : (n : ℕ) (st : State C) → SameCommitted st (rounds m n st).state
  rounds_keep zero st = same st
  rounds_keep (suc n) st = round_keeps (rounds m n) (rounds_keep n) st.waiting st

  pub retries_keep : (st : State C) → SameCommitted st (retries m st).state
  retries_keep st = rounds_keep (suc (length st.waiting)) st

  then_retries_keep : (d : Doing C) (a : EventAnswer) (st : State C) → SameCommitted st (then_retries m d a st).state
  then_retries_keep Commit a st = retries_keep st
  then_retries_keep Abort a st = retries_keep st
  then_retries_keep (Call c) (said.Call (answer.Deadlock cycle)) st = retries_keep st
  then_retries_keep (Call c) (said.Call (answer.Answered r)) st = same st
  then_retries_keep (Call c) (said.Call (answer.Waits r q hs)) st = same st
  then_retries_keep (Call c) said.Nothing st = same st
  then_retries_keep (Call c) (said.Number n) st = same st
  then_retries_keep Begin a st = same st

  -- ---- lines

  call_keeps : (st : State C) (t : Live C) (c : C) (b : Bool) → KeptBy st (if b then None else Some (settled m st t c (stopped_at m st t c)))
  call_keeps st t c b = kept_if st b (settled m st t c (stopped_at m st t c)) (attempt_keeps st t c (stopped_at m st t c))

  step_keeps : (st : State C) (s : ℕ) (d : Doing C) (x : Option (Live C)) → IsOther d → KeptBy st (step_of m st s x (event_of d))
  step_keeps st s Begin None other = kept_if st (st.opening + st.begun == st.limit) (record { state = begun_by st s; answer = said.Number (st.ordinals s + 1) }) (record { tree = refl; number = refl })
  step_keeps st s Begin (Some t) other = tt
  step_keeps st s Commit x other = absurd other
  step_keeps st s Abort None other = tt
  step_keeps st s Abort (Some t) other = record { tree = refl; number = refl }
  step_keeps st s (Call c) None other = tt
  step_keeps st s (Call c) (Some t) other = call_keeps st t c (is_some t.waits)

  stepped_keeps : (st : State C) (s : ℕ) (d : Doing C) (x : Option (Outcome C)) → KeptBy st x → SameCommitted st (stepped m st s d x).state
  stepped_keeps st s d None kept = same st
  stepped_keeps st s d (Some o) kept = then_same st o.state (then_retries m d o.answer o.state).state kept (then_retries_keep d o.answer o.state)

  pub other_keeps : (st : State C) (s : ℕ) (d : Doing C) → IsOther d → SameCommitted st (after_line m st (record { session = s; doing = d })).state
  other_keeps st s d other = by (refusal m st s d)
    where
      by : (why : Option SessionRefusal) → SameCommitted st (unless_refused m st s d why).state
      by (Some why) = same st
      by None = stepped_keeps st s d (step m st s (event_of d)) (step_keeps st s d (of_session s st.live) other)

  -- a line that is refused
  pub refused_keeps : (st : State C) (s : ℕ) (d : Doing C) (why : Option SessionRefusal) → refusal m st s d ≡ why → is_some why ≡ true → SameCommitted st (after_line m st (record { session = s; doing = d })).state
  refused_keeps st s d None is refused = absurd (false≢true refused)
  refused_keeps st s d (Some why) is refused = subst (λ w. SameCommitted st (unless_refused m st s d w).state) (sym is) (same st)

  -- a commit that isn't
  commit_keeps : (st : State C) (s : ℕ) (t : Live C) (b : Bool) (rest : Option SessionRefusal) → of_session s st.live ≡ Some t → cond b (Some IsWaiting) rest ≡ None
      → Commits m st s (stepped m st s Commit (if b then None else Some (record { state = committed m st t; answer = said.Number (st.number + 1) }))).state
  commit_keeps st s t true rest live free = absurd (none-some IsWaiting (sym free))
  commit_keeps st s t false rest live free =
      let kept = retries_keep (committed m st t) in
      record { transaction = t; live = live; tree = kept.tree; number = kept.number }

  commit_of : (st : State C) (s : ℕ) (x : Option (Live C)) → of_session s st.live ≡ x → refusal_of m st x Commit ≡ None
      → Commits m st s (stepped m st s Commit (step_of m st s x (event_of Commit))).state
  commit_of st s None live free = absurd (none-some NoTransaction (sym free))
  commit_of st s (Some t) live free = commit_keeps st s t (is_some t.waits) (cond (is_past_limit m st t) (Some CommitLimit) None) live free

  pub commit_commits : (st : State C) (s : ℕ) → refusal m st s Commit ≡ None → Commits m st s (after_line m st (record { session = s; doing = Commit })).state
  commit_commits st s free =
      subst (λ (why : Option SessionRefusal). Commits m st s (unless_refused m st s Commit why).state) (sym free) (commit_of st s (of_session s st.live) refl free)

  -- a line that is done at once, and no commit but one that is refused
  pub done_keeps : (st : State C) (s : ℕ) (d : Doing C) → (d ≡ Commit → IsTrue (is_some (refusal m st s Commit))) → SameCommitted st (after_line m st (record { session = s; doing = d })).state
  done_keeps st s Begin refused = other_keeps st s Begin tt
  done_keeps st s Abort refused = other_keeps st s Abort tt
  done_keeps st s (Call c) refused = other_keeps st s (Call c) tt
  done_keeps st s Commit refused = refused_keeps st s Commit (refusal m st s Commit) refl (refused refl)

  -- any line but a commit
  pub unless_commit : (st : State C) (s : ℕ) (d : Doing C) → d ≢ Commit → SameCommitted st (after_line m st (record { session = s; doing = d })).state
  unless_commit st s Begin apart = other_keeps st s Begin tt
  unless_commit st s Abort apart = other_keeps st s Abort tt
  unless_commit st s (Call c) apart = other_keeps st s (Call c) tt
  unless_commit st s Commit apart = absurd (apart refl)
