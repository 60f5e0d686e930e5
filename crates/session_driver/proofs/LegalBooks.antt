-- The book of lines is legal: its calls are those of the lines, and no attempt of it failed.
use Rattle.std.proofs.Common.{ℕ, suc, zero, true, false, cond, List, [], ◌∷◌, ◌++◌, length, Option, Some, None}
use Rattle.tree_model.specs.Tree.{Tree}
use Rattle.tree_model.specs.ValidTrees.{IsValidTree}
use Rattle.call_contract.specs.Books.{Book, FaultsRise, HasValidCalls, IsBookFrom, IsSerial, last_fault, entry}
use Rattle.call_contract.specs.Calls.{CallMeaning, CallLaws}
use Rattle.call_contract.specs.States.{State, start, of_session}
use Rattle.call_contract.specs.Steps.{Outcome, step}
use Rattle.call_contract.specs.declared.events.Answer.TheVariants as answer
use Rattle.call_contract.specs.declared.events.Event.TheVariants.{Retry}
use Rattle.call_contract.specs.declared.events.EventAnswer.{EventAnswer}
use Rattle.call_contract.specs.declared.events.EventAnswer.TheVariants as said
use Rattle.call_contract.proofs.Appends.{faults_append}
use Rattle.call_contract.proofs.BookLaws.{serial_book}
use Rattle.command_lines.specs.declared.line_reply.SessionRefusal.{SessionRefusal}
use Rattle.session_driver.specs.Progress.{Progress, noted}
use Rattle.tx_core.specs.Retries.{has_changed}
use Rattle.session_driver.specs.Retries.{retried, if_retried, round, rounds}
use Rattle.session_driver.specs.Refusals.{refusal}
use Rattle.session_driver.specs.Lines.{Asked, IsValidDoing, AreValid, event_of, then_retries, stepped, unless_refused, after_line, after_lines}
use Rattle.session_driver.specs.declared.doing.Doing.{Doing}
use Rattle.session_driver.specs.declared.doing.Doing.TheVariants as doing
use Rattle.session_driver.proofs.Runs.{lines_run}

module _ {C : Type 0} (is_valid : C → Type 0) where
  -- its calls are valid, and it tells no fault
  record IsClean (b : Book C) : Type 0 where
    pub valid : HasValidCalls is_valid b
    pub faults : (f : Option ℕ) → FaultsRise f b

  clean_none : IsClean []
  clean_none = record { valid = tt; faults = λ f. tt }

  valid_append : (b d : Book C) → HasValidCalls is_valid b → HasValidCalls is_valid d → HasValidCalls is_valid (b ++ d)
  valid_append [] d one two = two
  valid_append (n ∷ ns) d one two = (one.0, valid_append ns d one.1 two)

  clean_append : (b d : Book C) → IsClean b → IsClean d → IsClean (b ++ d)
  clean_append b d one two = record {
    valid = valid_append b d one.valid two.valid;
    faults = λ f. faults_append f b d (one.faults f) (two.faults (last_fault f b));
  }

  module _ (m : CallMeaning C) where
    clean_retry : (s : ℕ) (a : EventAnswer) (b : Book C) → IsClean b → IsClean (entry s Retry a ∷ b)
    clean_retry s a b is = record { valid = (tt, is.valid); faults = λ f. (tt, is.faults f) }

    retried_clean : (st : State C) (s : ℕ) (o : Outcome C) (a : EventAnswer) (f b k : Progress C) → IsClean f.book → IsClean b.book → IsClean k.book → IsClean (retried st s o a f b k).book
    retried_clean st s o (said.Call (answer.Deadlock cycle)) f b k one two three = clean_retry s o.answer f.book one
    retried_clean st s o (said.Call (answer.Waits r q hs)) f b k one two three =
        elim (has_changed (of_session s st.live) (of_session s o.state.live)) as (λ c. IsClean (cond c (noted (entry s Retry o.answer) [] b) k).book) [
          | true ↦ clean_retry s o.answer b.book two
          | false ↦ three
        ]
    retried_clean st s o (said.Call (answer.Answered r)) f b k one two three = clean_retry s o.answer b.book two
    retried_clean st s o said.Nothing f b k one two three = clean_retry s o.answer b.book two
    retried_clean st s o (said.Number n) f b k one two three = clean_retry s o.answer b.book two

    if_retried_clean : (st : State C) (s : ℕ) (x : Option (Outcome C)) (f b : State C → Progress C) → ((u : State C) → IsClean (f u).book) → ((u : State C) → IsClean (b u).book)
        → IsClean (if_retried st s x f b).book
    if_retried_clean st s None f b one two = two st
    if_retried_clean st s (Some o) f b one two = retried_clean st s o o.answer (f o.state) (b o.state) (b st) (one o.state) (two o.state) (two st)

    round_clean : (f : State C → Progress C) → ((u : State C) → IsClean (f u).book) → (ss : List ℕ) (st : State C) → IsClean (round m f ss st).book
    round_clean f one [] st = clean_none
    round_clean f one (s ∷ ss) st = if_retried_clean st s (step m st s Retry) f (round m f ss) one (round_clean f one ss)

    rounds_clean : (n : ℕ) (st : State C) → IsClean (rounds m n st).book
    rounds_clean zero st = clean_none
    rounds_clean (suc n) st = round_clean (rounds m n) (rounds_clean n) st.waiting st

    then_retries_clean : (d : Doing C) (a : EventAnswer) (st : State C) → IsClean (then_retries m d a st).book
    then_retries_clean doing.Commit a st = rounds_clean (suc (length st.waiting)) st
    then_retries_clean doing.Abort a st = rounds_clean (suc (length st.waiting)) st
    then_retries_clean (doing.Call c) (said.Call (answer.Deadlock cycle)) st = rounds_clean (suc (length st.waiting)) st
    then_retries_clean (doing.Call c) (said.Call (answer.Answered r)) st = clean_none
    then_retries_clean (doing.Call c) (said.Call (answer.Waits r q hs)) st = clean_none
    then_retries_clean (doing.Call c) said.Nothing st = clean_none
    then_retries_clean (doing.Call c) (said.Number n) st = clean_none
    then_retries_clean doing.Begin a st = clean_none

    clean_entry : (s : ℕ) (d : Doing C) (a : EventAnswer) (b : Book C) → IsValidDoing is_valid d → IsClean b → IsClean (entry s (event_of d) a ∷ b)
    clean_entry s doing.Begin a b valid is = record { valid = (tt, is.valid); faults = λ f. (tt, is.faults f) }
    clean_entry s doing.Commit a b valid is = record { valid = (tt, is.valid); faults = λ f. (tt, is.faults f) }
    clean_entry s doing.Abort a b valid is = record { valid = (tt, is.valid); faults = λ f. (tt, is.faults f) }
    clean_entry s (doing.Call c) a b valid is = record { valid = (valid, is.valid); faults = λ f. (tt, is.faults f) }

    line_clean : (st : State C) (line : Asked C) → IsValidDoing is_valid line.doing → IsClean (after_line m st line).book
    line_clean st line valid = by (refusal m st line.session line.doing)
      where
        by_step : (x : Option (Outcome C)) → IsClean (stepped m st line.session line.doing x).book
        by_step None = clean_none
        by_step (Some o) = clean_entry line.session line.doing o.answer (then_retries m line.doing o.answer o.state).book valid (then_retries_clean line.doing o.answer o.state)

        by : (why : Option SessionRefusal) → IsClean (unless_refused m st line.session line.doing why).book
        by (Some w) = clean_none
        by None = by_step (step m st line.session (event_of line.doing))

    lines_clean : (st : State C) (lines : List (Asked C)) → AreValid is_valid lines → IsClean (after_lines m st lines).book
    lines_clean st [] valid = clean_none
    lines_clean st (line ∷ lines) valid = clean_append (after_line m st line).book (after_lines m (after_line m st line).state lines).book (line_clean st line valid.0)
        (lines_clean (after_line m st line).state lines valid.1)

    pub lines_legal : (t : Tree) (n limit : ℕ) (lines : List (Asked C)) → IsValidTree t → AreValid is_valid lines → IsBookFrom is_valid m t n limit (after_lines m (start t n limit) lines).book
    lines_legal t n limit lines is valid =
        let clean = lines_clean (start t n limit) lines valid in
        record { valid_tree = is; valid_calls = clean.valid; legal = record { run = lines_run m (start t n limit) lines; faults = clean.faults None } }

    pub lines_serial : CallLaws C is_valid m → (t : Tree) (n limit : ℕ) (lines : List (Asked C)) → IsValidTree t → AreValid is_valid lines → IsSerial m t n limit (after_lines m (start t n limit) lines).book
    lines_serial laws t n limit lines is valid = serial_book is_valid m laws t n limit (after_lines m (start t n limit) lines).book (lines_legal t n limit lines is valid)
