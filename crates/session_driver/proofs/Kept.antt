-- What a run's book tells of refusals is what the machine's state has of them.
use Rattle.std.proofs.Common.{◌≡◌, ℕ, ◌+◌, ◌==◌, Bool, true, false, cond, is_some, arith, List, [], ◌∷◌, Option, Some, None, refl, sym, ap, ◌∙◌, if◌then◌else◌, nat_lt, nat_le, ◌||◌, ◌&&◌, length}
use Rattle.lock_resources.specs.declared.request.Request.{Request}
use Rattle.tree_model.specs.Tree.{Tree}
use Rattle.call_contract.specs.Attempts.{granted, stopped_at, waits_with}
use Rattle.call_contract.specs.Books.{Book, IsRun, last, next, state_of}
use Rattle.call_contract.specs.Calls.{CallMeaning}
use Rattle.call_contract.specs.Sessions.{live_in, begins}
use Rattle.call_contract.specs.States.{Live, Waiting, State, start, of_session}
use Rattle.call_contract.specs.Steps as steps
use Rattle.call_contract.specs.Steps.{Outcome, unless_cycle, settled, attempt, given_up, failed, committed, begun_by, step_of}
use Rattle.call_contract.specs.Waits.{cycle_through}
use Rattle.call_contract.specs.declared.events.Event.{Event}
use Rattle.call_contract.specs.declared.events.Event.TheVariants as event
use Rattle.call_contract.specs.declared.events.EventAnswer.TheVariants as said
use Rattle.call_contract.proofs.SerialRun.{told_option, told_found}
use Rattle.call_contract.proofs.SessionBooks.{live_told, begun_told}
use Rattle.command_lines.specs.declared.line_reply.SessionRefusal.{SessionRefusal}
use Rattle.command_lines.specs.declared.line_reply.SessionRefusal.TheVariants as why
use Rattle.tx_core.specs.Commits.{is_past_limit}
use Rattle.tx_core.specs.Cores.{CoreView, state_from}
use Rattle.tx_core.specs.Refusals.{refused_begin, refused_call, refused_abort, call_refused}
use Rattle.tx_core.specs.declared.errors.SessionError.TheVariants.{IsWaiting, InTransaction, NoTransaction, TxLimit}
use Rattle.session_driver.specs.Driving.{shown_of, refused_by_book}
use Rattle.session_driver.specs.Refusals.{refusal, refusal_of}
use Rattle.session_driver.specs.declared.doing.Doing.TheVariants as doing

-- the opening's number and the limit stay
record IsKept {C : Type 0} (st st' : State C) : Type 0 where
  pub opening : st'.opening ≡ st.opening
  pub limit : st'.limit ≡ st.limit

module _ {C : Type 0} (m : CallMeaning C) where
  kept_unless : (st : State C) (b : Bool) (o : Outcome C) → IsKept st o.state → IsKept st (state_of st (if b then None else Some o))
  kept_unless st true o is = record { opening = refl; limit = refl }
  kept_unless st false o is = is

  kept_where : (st : State C) (b : Bool) (o : Outcome C) → IsKept st o.state → IsKept st (state_of st (if b then Some o else None))
  kept_where st true o is = is
  kept_where st false o is = record { opening = refl; limit = refl }

  attempt_kept : (st : State C) (t : Live C) (c : C) → IsKept st (attempt m st t c).state
  attempt_kept st t c = go (stopped_at m st t c)
    where
      cycled : (g : Request) (r : Option (List ℕ)) → IsKept st (unless_cycle st (waits_with m st t c g) t.session g r).state
      cycled g None = record { opening = refl; limit = refl }
      cycled g (Some r) = record { opening = refl; limit = refl }

      go : (o : Option Request) → IsKept st (settled m st t c o).state
      go None = record { opening = refl; limit = refl }
      go (Some g) = cycled g (cycle_through (waits_with m st t c g).live t.session)

  retry_kept : (st : State C) (t : Live C) (w : Option (Waiting C)) → IsKept st (state_of st (steps.retried m st t w))
  retry_kept st t None = record { opening = refl; limit = refl }
  retry_kept st t (Some w) = attempt_kept st t w.call

  fail_kept : (st : State C) (t : Live C) (c : Option C) (w : Option (Waiting C)) (k : ℕ) (f : Option ℕ) → IsKept st (state_of st (given_up m st t c w k f))
  fail_kept st t (Some c) None k f = kept_where st ((is_some f || nat_lt 0 k) && nat_le k (length (granted m st t c))) (failed m st t c k) (record { opening = refl; limit = refl })
  fail_kept st t None (Some w) k f = kept_where st (nat_le k (length (granted m st t w.call))) (failed m st t w.call k) (record { opening = refl; limit = refl })
  fail_kept st t (Some c) (Some w) k f = record { opening = refl; limit = refl }
  fail_kept st t None None k f = record { opening = refl; limit = refl }

  step_kept : (st : State C) (s : ℕ) (o : Option (Live C)) (e : Event C) → IsKept st (state_of st (step_of m st s o e))
  step_kept st s None event.Begin = kept_unless st (st.opening + st.begun == st.limit) (record { state = begun_by st s; answer = said.Number (st.ordinals s + 1) }) (record { opening = refl; limit = refl })
  step_kept st s None (event.Call c) = record { opening = refl; limit = refl }
  step_kept st s None event.Retry = record { opening = refl; limit = refl }
  step_kept st s None (event.Fail c k f) = record { opening = refl; limit = refl }
  step_kept st s None event.Commit = record { opening = refl; limit = refl }
  step_kept st s None event.Abort = record { opening = refl; limit = refl }
  step_kept st s (Some t) event.Begin = record { opening = refl; limit = refl }
  step_kept st s (Some t) (event.Call c) = kept_unless st (is_some t.waits) (attempt m st t c) (attempt_kept st t c)
  step_kept st s (Some t) event.Retry = retry_kept st t t.waits
  step_kept st s (Some t) (event.Fail c k f) = fail_kept st t c t.waits k f
  step_kept st s (Some t) event.Commit = kept_unless st (is_some t.waits) (record { state = committed m st t; answer = said.Number (st.number + 1) }) (record { opening = refl; limit = refl })
  step_kept st s (Some t) event.Abort = record { opening = refl; limit = refl }

  book_kept : (st : State C) (b : Book C) → IsKept st (last m st b)
  book_kept st [] = record { opening = refl; limit = refl }
  book_kept st (n ∷ ns) =
      let one = step_kept st n.session (of_session n.session st.live) n.event in
      let rest = book_kept (next m st n) ns in
      record { opening = rest.opening ∙ one.opening; limit = rest.limit ∙ one.limit }

  -- ---- refusals

  shown_either : (b : Bool) → shown_of (cond b (Some TxLimit) None) ≡ cond b (Some why.TxLimit) None
  shown_either true = refl
  shown_either false = refl

  shown_waiting : (b : Bool) → shown_of (cond b (Some IsWaiting) None) ≡ cond b (Some why.IsWaiting) None
  shown_waiting true = refl
  shown_waiting false = refl

  shown_begin : (b : Bool) → shown_of (Some (cond b IsWaiting InTransaction)) ≡ cond b (Some why.IsWaiting) (Some why.InTransaction)
  shown_begin true = refl
  shown_begin false = refl

  begin_told : (st : State C) (come limit : ℕ) (o : Option (Live C)) → come ≡ st.opening + st.begun → limit ≡ st.limit → shown_of (refused_begin come limit (told_option o)) ≡ refusal_of m st o doing.Begin
  begin_told st come limit None e f = shown_either (come == limit) ∙ ap (λ (n : ℕ). cond (n == limit) (Some why.TxLimit) None) e ∙ ap (λ (n : ℕ). cond (st.opening + st.begun == n) (Some why.TxLimit) None) f
  begin_told st come limit (Some t) e f = shown_begin (is_some t.waits)

  call_told : (st : State C) (o : Option (Live C)) (c : C) → shown_of (refused_call (told_option o)) ≡ refusal_of m st o (doing.Call c)
  call_told st None c = refl
  call_told st (Some t) c = shown_waiting (is_some t.waits)

  abort_told : (st : State C) (o : Option (Live C)) → shown_of (refused_abort (told_option o)) ≡ refusal_of m st o doing.Abort
  abort_told st None = refl
  abort_told st (Some t) = refl

  commit_told : (st : State C) (o : Option (Live C)) (w : SessionRefusal) → shown_of (refused_call (told_option o)) ≡ Some w → refusal_of m st o doing.Commit ≡ Some w
  commit_told st None w e = e
  commit_told st (Some t) w e = go (is_some t.waits) e
    where
      go : (b : Bool) → shown_of (cond b (Some IsWaiting) None) ≡ Some w → cond b (Some why.IsWaiting) (cond (is_past_limit m st t) (Some why.CommitLimit) None) ≡ Some w
      go true e = e
      go false e = absurd (off e)
        where
          off : None ≡ Some w → ⊥
          off e = cc

  -- a commit that the book doesn't refuse
  commit_allowed : (st : State C) (o : Option (Live C)) → refused_call (told_option o) ≡ None → (past : Bool) → ((x : Live C) → o ≡ Some x → is_past_limit m st x ≡ past)
      → refusal_of m st o doing.Commit ≡ cond past (Some why.CommitLimit) None
  commit_allowed st None e past all = absurd (off e)
    where
      off : Some NoTransaction ≡ None → ⊥
      off e = cc
  commit_allowed st (Some t) e past all = go (is_some t.waits) e ∙ ap (λ (b : Bool). cond b (Some why.CommitLimit) None) (all t refl)
    where
      go : (b : Bool) → cond b (Some IsWaiting) None ≡ None → cond b (Some why.IsWaiting) (cond (is_past_limit m st t) (Some why.CommitLimit) None) ≡ cond (is_past_limit m st t) (Some why.CommitLimit) None
      go true e = absurd (off e)
        where
          off : Some IsWaiting ≡ None → ⊥
          off e = cc
      go false e = refl

  -- ---- of a core

  module _ {B : Type 0} (t : Tree) (v : CoreView C B) (run : IsRun m (start t v.number v.limit) v.book) where
    found_told : (s : ℕ) → live_in v.book s ≡ told_option (of_session s (state_from m t v).live)
    found_told s = ap (of_session s) (live_told m (start t v.number v.limit) v.book run) ∙ told_found s (state_from m t v).live

    begin_counts : v.number + begins v.book ≡ (state_from m t v).opening + (state_from m t v).begun
    begin_counts =
        ap (λ (n : ℕ). n + begins v.book) (sym (book_kept (start t v.number v.limit) v.book).opening)
        ∙ ap (λ (n : ℕ). (state_from m t v).opening + n) (zero_more (begins v.book) ∙ begun_told m (start t v.number v.limit) v.book run)
      where
        zero_more : (n : ℕ) → n ≡ 0 + n
        zero_more n = grind (arith)

    pub begin_same : (s : ℕ) → refused_by_book v s doing.Begin ≡ refusal m (state_from m t v) s doing.Begin
    begin_same s =
        ap (λ (o : Option (Live C)). shown_of (refused_begin (v.number + begins v.book) v.limit o)) (found_told s)
        ∙ begin_told (state_from m t v) (v.number + begins v.book) v.limit (of_session s (state_from m t v).live) begin_counts (sym (book_kept (start t v.number v.limit) v.book).limit)

    pub call_same : (s : ℕ) (c : C) → refused_by_book v s (doing.Call c) ≡ refusal m (state_from m t v) s (doing.Call c)
    call_same s c = ap (λ (o : Option (Live C)). shown_of (refused_call o)) (found_told s) ∙ call_told (state_from m t v) (of_session s (state_from m t v).live) c

    pub abort_same : (s : ℕ) → refused_by_book v s doing.Abort ≡ refusal m (state_from m t v) s doing.Abort
    abort_same s = ap (λ (o : Option (Live C)). shown_of (refused_abort o)) (found_told s) ∙ abort_told (state_from m t v) (of_session s (state_from m t v).live)

    pub commit_refused : (s : ℕ) (w : SessionRefusal) → refused_by_book v s doing.Commit ≡ Some w → refusal m (state_from m t v) s doing.Commit ≡ Some w
    commit_refused s w e = commit_told (state_from m t v) (of_session s (state_from m t v).live) w (sym (ap (λ (o : Option (Live C)). shown_of (refused_call o)) (found_told s)) ∙ e)

    pub commit_allowed_by : (s : ℕ) → call_refused v s ≡ None → (past : Bool) → ((x : Live C) → of_session s (state_from m t v).live ≡ Some x → is_past_limit m (state_from m t v) x ≡ past)
        → refusal m (state_from m t v) s doing.Commit ≡ cond past (Some why.CommitLimit) None
    commit_allowed_by s e past all = commit_allowed (state_from m t v) (of_session s (state_from m t v).live) (sym (ap (λ (o : Option (Live C)). refused_call o) (found_told s)) ∙ e) past all
