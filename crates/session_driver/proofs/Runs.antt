-- What lines put into the book is a run of the machine, which leaves the state that they leave.
use Rattle.std.proofs.Common.{◌≡◌, ℕ, suc, zero, true, false, cond, List, [], ◌∷◌, length, Option, Some, None, refl, sym, ap, subst, ◌∙◌}
use Rattle.call_contract.specs.Books.{IsRun, IsAnswer, last, next, state_of, entry}
use Rattle.call_contract.specs.Calls.{CallMeaning}
use Rattle.call_contract.specs.States.{State, of_session}
use Rattle.call_contract.specs.Steps.{Outcome, step}
use Rattle.call_contract.specs.declared.events.Answer.TheVariants as answer
use Rattle.call_contract.specs.declared.events.Event.{Event}
use Rattle.call_contract.specs.declared.events.Event.TheVariants.{Retry}
use Rattle.call_contract.specs.declared.events.EventAnswer.{EventAnswer}
use Rattle.call_contract.specs.declared.events.EventAnswer.TheVariants as said
use Rattle.call_contract.proofs.Appends.{last_append, run_append}
use Rattle.command_lines.specs.declared.line_reply.LineReply.{LineReply}
use Rattle.command_lines.specs.declared.line_reply.SessionRefusal.{SessionRefusal}
use Rattle.session_driver.specs.Progress.{Progress, noted, and_then, line_of}
use Rattle.tx_core.specs.Retries.{has_changed}
use Rattle.session_driver.specs.Retries.{retried, if_retried, round, rounds, retries}
use Rattle.session_driver.specs.Refusals.{refusal}
use Rattle.session_driver.specs.Lines.{Asked, event_of, then_retries, stepped, unless_refused, after_line, after_lines}
use Rattle.session_driver.specs.declared.doing.Doing.{Doing}
use Rattle.session_driver.specs.declared.doing.Doing.TheVariants as doing

module _ {C : Type 0} (m : CallMeaning C) where
  -- the book is a run that comes to the state
  pub record IsDone (st : State C) (p : Progress C) : Type 0 where
    pub run : IsRun m st p.book
    pub state : last m st p.book ≡ p.state

  noted_done : (st : State C) (s : ℕ) (e : Event C) (o : Outcome C) (lines : List LineReply) (p : Progress C) → step m st s e ≡ Some o → IsDone o.state p
      → IsDone st (noted (entry s e o.answer) lines p)
  noted_done st s e o lines p is done =
      let there : next m st (entry s e o.answer) ≡ o.state = ap (state_of st) is in
      record {
        run = (subst (IsAnswer o.answer) (sym is) refl, subst (λ x. IsRun m x p.book) (sym there) done.run);
        state = ap (λ x. last m x p.book) there ∙ done.state;
      }

  then_done : (st : State C) (p q : Progress C) → IsDone st p → IsDone p.state q → IsDone st (and_then p q)
  then_done st p q first behind = record {
    run = run_append m st p.book q.book first.run (subst (λ x. IsRun m x q.book) (sym first.state) behind.run);
    state = last_append m st p.book q.book ∙ ap (λ x. last m x q.book) first.state ∙ behind.state;
  }

  retried_done : (st : State C) (s : ℕ) (o : Outcome C) (a : EventAnswer) (from_first behind as_before : Progress C) → step m st s Retry ≡ Some o
      → IsDone o.state from_first → IsDone o.state behind → IsDone st as_before → IsDone st (retried st s o a from_first behind as_before)
  retried_done st s o (said.Call (answer.Deadlock cycle)) f b k is one two three = noted_done st s Retry o (line_of s true o.answer) f is one
  retried_done st s o (said.Call (answer.Waits r q hs)) f b k is one two three =
      elim (has_changed (of_session s st.live) (of_session s o.state.live)) as (λ c. IsDone st (cond c (noted (entry s Retry o.answer) [] b) k)) [
        | true ↦ noted_done st s Retry o [] b is two
        | false ↦ three
      ]
  retried_done st s o (said.Call (answer.Answered r)) f b k is one two three = noted_done st s Retry o (line_of s true o.answer) b is two
  retried_done st s o said.Nothing f b k is one two three = noted_done st s Retry o (line_of s true o.answer) b is two
  retried_done st s o (said.Number n) f b k is one two three = noted_done st s Retry o (line_of s true o.answer) b is two

  if_retried_done : (st : State C) (s : ℕ) (x : Option (Outcome C)) (from_first behind : State C → Progress C) → step m st s Retry ≡ x
      → ((u : State C) → IsDone u (from_first u)) → ((u : State C) → IsDone u (behind u)) → IsDone st (if_retried st s x from_first behind)
  if_retried_done st s None f b is one two = two st
  if_retried_done st s (Some o) f b is one two = retried_done st s o o.answer (f o.state) (b o.state) (b st) is (one o.state) (two o.state) (two st)

  round_done : (from_first : State C → Progress C) → ((u : State C) → IsDone u (from_first u)) → (ss : List ℕ) (st : State C) → IsDone st (round m from_first ss st)
  round_done f one [] st = record { run = tt; state = refl }
  round_done f one (s ∷ ss) st = if_retried_done st s (step m st s Retry) f (round m f ss) refl one (round_done f one ss)

  rounds_done : (n : ℕ) (st : State C) → IsDone st (rounds m n st)
  rounds_done zero st = record { run = tt; state = refl }
  rounds_done (suc n) st = round_done (rounds m n) (rounds_done n) st.waiting st

  retries_done : (st : State C) → IsDone st (retries m st)
  retries_done st = rounds_done (suc (length st.waiting)) st

  then_retries_done : (d : Doing C) (a : EventAnswer) (st : State C) → IsDone st (then_retries m d a st)
  then_retries_done doing.Commit a st = retries_done st
  then_retries_done doing.Abort a st = retries_done st
  then_retries_done (doing.Call c) (said.Call (answer.Deadlock cycle)) st = retries_done st
  then_retries_done (doing.Call c) (said.Call (answer.Answered r)) st = record { run = tt; state = refl }
  then_retries_done (doing.Call c) (said.Call (answer.Waits r q hs)) st = record { run = tt; state = refl }
  then_retries_done (doing.Call c) said.Nothing st = record { run = tt; state = refl }
  then_retries_done (doing.Call c) (said.Number n) st = record { run = tt; state = refl }
  then_retries_done doing.Begin a st = record { run = tt; state = refl }

  stepped_done : (st : State C) (s : ℕ) (d : Doing C) (x : Option (Outcome C)) → step m st s (event_of d) ≡ x → IsDone st (stepped m st s d x)
  stepped_done st s d None is = record { run = tt; state = refl }
  stepped_done st s d (Some o) is = noted_done st s (event_of d) o (line_of s false o.answer) (then_retries m d o.answer o.state) is (then_retries_done d o.answer o.state)

  line_done : (st : State C) (line : Asked C) → IsDone st (after_line m st line)
  line_done st line = by (refusal m st line.session line.doing)
    where
      by : (why : Option SessionRefusal) → IsDone st (unless_refused m st line.session line.doing why)
      by None = stepped_done st line.session line.doing (step m st line.session (event_of line.doing)) refl
      by (Some w) = record { run = tt; state = refl }

  pub lines_done : (st : State C) (lines : List (Asked C)) → IsDone st (after_lines m st lines)
  lines_done st [] = record { run = tt; state = refl }
  lines_done st (line ∷ lines) = then_done st (after_line m st line) (after_lines m (after_line m st line).state lines) (line_done st line) (lines_done (after_line m st line).state lines)

  pub lines_run : (st : State C) (lines : List (Asked C)) → IsRun m st (after_lines m st lines).book
  lines_run st lines = (lines_done st lines).run

  pub lines_state : (st : State C) (lines : List (Asked C)) → last m st (after_lines m st lines).book ≡ (after_lines m st lines).state
  lines_state st lines = (lines_done st lines).state
