-- One retry: what is left after it, and the queue.
use Rattle.std.proofs.Common.{◌≡◌, inl, inr, ℕ, Bool, true, false, cond, List, [], ◌∷◌, ◌++◌, Option, Some, refl, sym, ap, ap₂, ◌∙◌, true≢false}
use Rattle.tree_model.specs.Entries.{Entries}
use Rattle.tree_model.specs.Tree.{Tree}
use Rattle.call_contract.specs.Books.{state_of, entry}
use Rattle.call_contract.specs.Calls.{CallMeaning}
use Rattle.call_contract.specs.Sessions.{queue_after}
use Rattle.call_contract.specs.States.{State, start, of_session, without}
use Rattle.call_contract.specs.Steps.{Outcome, step}
use Rattle.call_contract.specs.declared.events.Answer.{Answer}
use Rattle.call_contract.specs.declared.events.Answer.TheVariants as answer
use Rattle.call_contract.specs.declared.events.Event.TheVariants.{Retry}
use Rattle.call_contract.specs.declared.events.EventAnswer.{EventAnswer}
use Rattle.call_contract.specs.declared.events.EventAnswer.TheVariants as said
use Rattle.call_contract.specs.declared.events.Noted.{Noted}
use Rattle.call_contract.proofs.Appends.{last_append, queue_append}
use Rattle.command_lines.specs.declared.line_reply.LineReply.{LineReply}
use Rattle.tx_core.specs.Cores.{CoreView, with_entry, over, state_from}
use Rattle.tx_core.specs.Retries.{has_changed, IsRetried, IsNotedRetry, with_retry, HasRetried}
use Rattle.session_driver.specs.Driving.{HasGrown}
use Rattle.session_driver.specs.Progress.{Progress, noted, line_of}
use Rattle.session_driver.specs.Retries.{retried, if_retried}
use Rattle.session_driver.specs.inside.Steps.{Leaves, LeavesRetry, KeepsQueue}
use Rattle.session_driver.proofs.Left.{entries_one, entries_read}

-- a deadlock ends the round
abbrev pub is_end : Answer → Bool
is_end (answer.Deadlock cycle) = true
is_end a = false

-- one that waits again writes no line
abbrev pub lines_of : ℕ → Answer → List LineReply
lines_of s (answer.Waits r q hs) = []
lines_of s a = line_of s true (said.Call a)

-- an answered attempt
abbrev outcome : {C : Type 0} → State C → Answer → Outcome C
outcome after a = record { state = after; answer = said.Call a }

module _ {C B : Type 0} (m : CallMeaning C) where
  noted_state : (t : Tree) (old new : CoreView C B) (s : ℕ) (a : Answer) (o : Outcome C) → new ≡ over (with_entry old (entry s Retry (said.Call a))) new.base
      → step m (state_from m t old) s Retry ≡ Some o → o.state ≡ state_from m t new
  noted_state t old new s a o e is =
      sym (ap (state_from m t) e ∙ last_append m (start t old.number old.limit) old.book (entry s Retry (said.Call a) ∷ []) ∙ ap (state_of (state_from m t old)) is)

  noted_step : (t : Tree) (old new : CoreView C B) (s : ℕ) (a : Answer) (k : Bool) → new ≡ over (with_entry old (entry s Retry (said.Call a))) new.base
      → IsRetried m (state_from m t old) s a k → step m (state_from m t old) s Retry ≡ Some (outcome (state_from m t new) a)
  noted_step t old new s a k e is =
      is.step ∙ ap₂ (λ (x : State C) (y : EventAnswer). Some (record { state = x; answer = y })) (noted_state t old new s a is.after e is.step) is.answer

  module _ (t : Tree) (old new : CoreView C B) (x y : List LineReply) (s : ℕ) (f b : State C → Progress C) where
    -- what was to be done is an entry, lines and the rest
    left_noted : (a : Answer) (lines : List LineReply) (p q : Progress C) → new ≡ over (with_entry old (entry s Retry (said.Call a))) new.base → y ≡ x ++ lines
        → p ≡ noted (entry s Retry (said.Call a)) lines q → Leaves old new x y p q
    left_noted a lines p q e out is = record {
      entries = entry s Retry (said.Call a) ∷ [];
      said = lines;
      book = ap (λ (r : Progress C). r.book) is;
      lines = ap (λ (r : Progress C). r.lines) is;
      core = entries_one old new (entry s Retry (said.Call a)) e;
      out = out;
    }

    left_as_before : (p q : Progress C) → new ≡ over old new.base → y ≡ x ++ [] → p ≡ q → Leaves old new x y p q
    left_as_before p q e out is = record {
      entries = [];
      said = [];
      book = ap (λ (r : Progress C). r.book) is;
      lines = ap (λ (r : Progress C). r.lines) is;
      core = entries_read old new e;
      out = out;
    }

    abbrev all : Progress C
    all = if_retried (state_from m t old) s (step m (state_from m t old) s Retry) f b

    left_by : (a : Answer) (k : Bool) → IsNotedRetry a k → new ≡ over (with_retry old s a k) new.base → IsRetried m (state_from m t old) s a k → y ≡ x ++ lines_of s a
        → Leaves old new x y all (cond (is_end a) (f (state_from m t new)) (b (state_from m t new)))
    left_by (answer.Answered r) true may e is out =
        left_noted (answer.Answered r) (lines_of s (answer.Answered r)) all (b (state_from m t new)) e out
        (ap (λ (z : Option (Outcome C)). if_retried (state_from m t old) s z f b) (noted_step t old new s (answer.Answered r) true e is))
    left_by (answer.Answered r) false may e is out = absurd (true≢false (sym may))
    left_by (answer.Deadlock cycle) true may e is out =
        left_noted (answer.Deadlock cycle) (lines_of s (answer.Deadlock cycle)) all (f (state_from m t new)) e out
        (ap (λ (z : Option (Outcome C)). if_retried (state_from m t old) s z f b) (noted_step t old new s (answer.Deadlock cycle) true e is))
    left_by (answer.Deadlock cycle) false may e is out = absurd (true≢false (sym may))
    left_by (answer.Waits r q hs) true may e is out =
        let a : Answer = answer.Waits r q hs in
        left_noted a [] all (b (state_from m t new)) e out
        (ap (λ (z : Option (Outcome C)). if_retried (state_from m t old) s z f b) (noted_step t old new s a true e is)
        ∙ ap (λ (c : Bool). cond c (noted (entry s Retry (said.Call a)) [] (b (state_from m t new))) (b (state_from m t old)))
        (ap (λ (w : State C). has_changed (of_session s (state_from m t old).live) (of_session s w.live)) (sym (noted_state t old new s a is.after e is.step)) ∙ is.changed))
    left_by (answer.Waits r q hs) false may e is out =
        let a : Answer = answer.Waits r q hs in
        left_as_before all (b (state_from m t new)) e out
        (ap (λ (z : Option (Outcome C)). if_retried (state_from m t old) s z f b) is.step
        ∙ ap (λ (z : EventAnswer). retried (state_from m t old) s is.after z (f is.after.state) (b is.after.state) (b (state_from m t old))) is.answer
        ∙ ap (λ (c : Bool). cond c (noted (entry s Retry is.after.answer) [] (b is.after.state)) (b (state_from m t old))) is.changed
        ∙ ap b (sym (ap (state_from m t) e)))

  module _ (told : B → Option Entries) (old new : CoreView C B) (s : ℕ) where
    pub retry_left : (a : Answer) (x y : List LineReply) → HasRetried m told old s a new → y ≡ x ++ lines_of s a → LeavesRetry m told old s (is_end a) new x y
    retry_left a x y is out = λ t stands f b. left_by t old new x y s f b a is.noted is.may_be is.view (is.step t stands) out

    -- ---- the core grows, and its queue

    pub retry_grown : (a : Answer) (x y : List LineReply) → HasRetried m told old s a new → y ≡ x ++ lines_of s a → HasGrown old new x y
    retry_grown a x y is out = go is.noted is.view
      where
        go : (k : Bool) → new ≡ over (with_retry old s a k) new.base → HasGrown old new x y
        go true e = record { entries = entry s Retry (said.Call a) ∷ []; said = lines_of s a; core = entries_one old new (entry s Retry (said.Call a)) e; commits = refl; out = out }
        go false e = record { entries = []; said = lines_of s a; core = entries_read old new e; commits = refl; out = out }

    noted_queue : (n : Noted C) (q : List ℕ) → new ≡ over (with_entry old n) new.base → queue_after (queue_after [] old.book) (n ∷ []) ≡ q → queue_after [] new.book ≡ q
    noted_queue n q e is = ap (λ (v : CoreView C B). queue_after [] v.book) e ∙ queue_append [] old.book (n ∷ []) ∙ is

    queue_by : (a : Answer) (k : Bool) → IsNotedRetry a k → new ≡ over (with_retry old s a k) new.base → KeepsQueue old.book s (is_end a) new.book
    queue_by (answer.Answered r) true may e = inl (noted_queue (entry s Retry (said.Call (answer.Answered r))) (without s (queue_after [] old.book)) e refl)
    queue_by (answer.Answered r) false may e = absurd (true≢false (sym may))
    queue_by (answer.Deadlock cycle) true may e = inl (noted_queue (entry s Retry (said.Call (answer.Deadlock cycle))) (without s (queue_after [] old.book)) e refl)
    queue_by (answer.Deadlock cycle) false may e = absurd (true≢false (sym may))
    queue_by (answer.Waits r q hs) true may e = inr (refl, noted_queue (entry s Retry (said.Call (answer.Waits r q hs))) (queue_after [] old.book) e refl)
    queue_by (answer.Waits r q hs) false may e = inr (refl, ap (λ (v : CoreView C B). queue_after [] v.book) e)

    pub retry_queue : (a : Answer) → HasRetried m told old s a new → KeepsQueue old.book s (is_end a) new.book
    retry_queue a is = queue_by a is.noted is.may_be is.view
