-- The lines of a script as lines of sessions: what they do, that it is sound, and what files stand for after them.
use Rattle.std.proofs.Common.{◌≡◌, ℕ, ◌+◌, List, [], ◌∷◌, ◌++◌, Bool, length, Ok, refl, sym, ap, subst, ◌∙◌, append_assoc, append-nil}
use Rattle.std.specs.List.{AllByRecursion}
use Rattle.std.proofs.lemmas.Grind.{flat_map-append}
use Rattle.outside_traits.specs.Moments.{History}
use Rattle.tree_model.specs.Tree.{Tree, map_of}
use Rattle.tree_model.specs.ValidTrees.{IsValidTree}
use Rattle.script_runs.specs.Texts.{answers, state_after}
use Rattle.call_contract.specs.Books.{Book, IsBookFrom, IsSerial, commits, last}
use Rattle.call_contract.specs.SerialRuns.{serial}
use Rattle.call_contract.specs.States.{State, start}
use Rattle.call_contract.proofs.BookLaws.{sound as states_sound, serial_book}
use Rattle.call_contract.proofs.SessionBooks.{number_told}
use Rattle.command_lines.specs.Replies.{reply_text}
use Rattle.session_driver.specs.Asking.{BookCall}
use Rattle.store_calls.specs.StoreCalls.{store_meaning, IsValidStoreCall}
use Rattle.store_calls.proofs.StoreCallLaws.{store_laws}
use Rattle.session_driver.specs.Lines.{Asked, AreValid, after_line, after_lines}
use Rattle.session_driver.specs.Progress.{Progress, and_then}
use Rattle.session_driver.specs.Waiters.{AllStopped}
use Rattle.session_driver.proofs.LegalBooks.{lines_legal}
use Rattle.session_driver.proofs.Runs.{lines_state}
use Rattle.session_driver.proofs.Waiters.{nobody_waits_in_vain}
use Rattle.xtc.specs.Book.{IsValidLine, done_by, done_from, script_of, replies_text}
use Rattle.durable_sessions.specs.Durable.{HoldState}
use Rattle.xtc.specs.ScriptLine.{Line, nothing, bad, asked, line_of}
use Rattle.script_runs.specs.Machine.{Machine}
use Rattle.xtc.specs.StoreMachine.{Booked, KeptStore, store_machine, with_done}
use Rattle.xtc.specs.TopCall.{OpenAfter, IsSound}
use Rattle.xtc.proofs.CommitCounts.{commits_counted}
use Rattle.xtc.proofs.SoundBooks.{sound_book}

-- ---- what a store's machine does and answers

-- the state that a line leaves, and its entries, don't depend on its number
state_alone : (st : State BookCall) (n k : ℕ) (line : Line) → (done_by st n line).state ≡ (done_by st k line).state
state_alone st n k nothing = refl
state_alone st n k (bad why) = refl
state_alone st n k (asked a) = refl

book_alone : (st : State BookCall) (n k : ℕ) (line : Line) → (done_by st n line).book ≡ (done_by st k line).book
book_alone st n k nothing = refl
book_alone st n k (bad why) = refl
book_alone st n k (asked a) = refl

module _ {P : Type 0} (journal_known pages_known makes : Bool) (history : P → History) (faults : P → ℕ) where
  abbrev machine : Machine (KeptStore P)
  machine = store_machine journal_known pages_known makes history faults

  next_alone : (b : Booked P) (n : ℕ) (line : List ℕ) → machine.next b line ≡ with_done b (done_by b.state n (line_of line))
  next_alone b n line = λ i. record b { state = state_alone b.state 0 n (line_of line) i; book = b.book ++ book_alone b.state 0 n (line_of line) i }

  state_from : (b : Booked P) (n : ℕ) (lines : List (List ℕ)) → state_after machine b lines ≡ with_done b (done_from b.state n lines)
  state_from b n [] = λ i. record b { book = sym (append-nil b.book) i }
  state_from b n (line ∷ lines) =
      let first : Progress BookCall = done_by b.state (n + 1) (line_of line) in
      let rest : Progress BookCall = done_from first.state (n + 1) lines in
      ap (λ (c : Booked P). state_after machine c lines) (next_alone b (n + 1) line)
      ∙ state_from (with_done b first) (n + 1) lines
      ∙ (λ i. record b { state = rest.state; book = append_assoc b.book first.book rest.book i })

  -- lines lead to the state of their script, and to its book
  pub state_is : (b : Booked P) (lines : List (List ℕ)) → state_after machine b lines ≡ with_done b (script_of b.state lines)
  state_is b lines = state_from b 0 lines

  answers_are : (b : Booked P) (n : ℕ) (lines : List (List ℕ)) → answers machine b n lines ≡ replies_text (done_from b.state n lines).lines
  answers_are b n [] = refl
  answers_are b n (line ∷ lines) =
      let first : Progress BookCall = done_by b.state (n + 1) (line_of line) in
      ap (λ (c : Booked P). replies_text first.lines ++ answers machine c (n + 1) lines) (next_alone b (n + 1) line)
      ∙ ap (λ (text : List ℕ). replies_text first.lines ++ text) (answers_are (with_done b first) (n + 1) lines)
      ∙ sym (flat_map-append reply_text first.lines (done_from first.state (n + 1) lines).lines)

  pub text_is : (b : Booked P) (lines : List (List ℕ)) → answers machine b 0 lines ≡ replies_text (script_of b.state lines).lines
  text_is b lines = answers_are b 0 lines

-- ---- the lines that ask a session something

abbrev with_asked : Line → List (Asked BookCall) → List (Asked BookCall)
with_asked nothing asks = asks
with_asked (bad why) asks = asks
with_asked (asked a) asks = a ∷ asks

abbrev all_asked : List (List ℕ) → List (Asked BookCall)
all_asked [] = []
all_asked (line ∷ lines) = with_asked (line_of line) (all_asked lines)

record IsSame (p q : Progress BookCall) : Type 0 where
  book : p.book ≡ q.book
  state : p.state ≡ q.state

-- the lines do what these do
as_asked : (st : State BookCall) (n : ℕ) (lines : List (List ℕ)) → IsSame (done_from st n lines) (after_lines store_meaning st (all_asked lines))
as_asked st n [] = record { book = refl; state = refl }
as_asked st n (line ∷ lines) = go (λ u. as_asked u (n + 1) lines) (line_of line)
  where
    go : ((u : State BookCall) → IsSame (done_from u (n + 1) lines) (after_lines store_meaning u (all_asked lines))) → (l : Line)
        → IsSame (and_then (done_by st (n + 1) l) (done_from (done_by st (n + 1) l).state (n + 1) lines)) (after_lines store_meaning st (with_asked l (all_asked lines)))
    go rest nothing = record { book = (rest st).book; state = (rest st).state }
    go rest (bad why) = record { book = (rest st).book; state = (rest st).state }
    go rest (asked a) =
        let then = rest (after_line store_meaning st a).state in
        record { book = ap (λ (b : Book BookCall). (after_line store_meaning st a).book ++ b) then.book; state = then.state }

abbrev pub AreValidLines : List (List ℕ) → Type 0
AreValidLines lines = AllByRecursion (λ line. IsValidLine (line_of line)) lines

asked_valid : (lines : List (List ℕ)) → AreValidLines lines → AreValid IsValidStoreCall (all_asked lines)
asked_valid [] valid = tt
asked_valid (line ∷ lines) valid = go (line_of line) valid.0 (asked_valid lines valid.1)
  where
    go : (l : Line) → IsValidLine l → AreValid IsValidStoreCall (all_asked lines) → AreValid IsValidStoreCall (with_asked l (all_asked lines))
    go nothing is rest = rest
    go (bad why) is rest = rest
    go (asked a) is rest = (is, rest)

-- ---- a script of valid lines from a valid tree

module _ (t : Tree) (n limit : ℕ) (formed : IsValidTree t) (lines : List (List ℕ)) (valid : AreValidLines lines) where
  abbrev opened : State BookCall
  opened = start t n limit

  abbrev script : Progress BookCall
  script = script_of opened lines

  same : IsSame script (after_lines store_meaning opened (all_asked lines))
  same = as_asked opened 0 lines

  legal : IsBookFrom IsValidStoreCall store_meaning t n limit script.book
  legal = subst (IsBookFrom IsValidStoreCall store_meaning t n limit) (sym same.book) (lines_legal IsValidStoreCall store_meaning t n limit (all_asked lines) formed (asked_valid lines valid))

  serial_is : IsSerial store_meaning t n limit script.book
  serial_is = serial_book IsValidStoreCall store_meaning store_laws t n limit script.book legal

  state_of_book : last store_meaning opened script.book ≡ script.state
  state_of_book = ap (last store_meaning opened) same.book ∙ lines_state store_meaning opened (all_asked lines) ∙ sym same.state

  pub script_sound : IsSound t n limit script
  script_sound = record {
    book = sound_book t n limit script.book legal;
    state = state_of_book;
    no_vain_wait = subst (AllStopped store_meaning) (sym same.state) (nobody_waits_in_vain store_meaning t n limit (all_asked lines));
  }

  -- files that hold what is committed in the state after the lines stand for the tree and the number after the commits of their book
  pub opens_after : (journal pages : List ℕ) → HoldState script.state journal pages → OpenAfter t n script.book journal pages
  opens_after journal pages holds =
      let tree_is : (serial store_meaning (commits script.book) t).tree ≡ script.state.tree = serial_is.tree ∙ ap (λ (u : State BookCall). u.tree) state_of_book in
      let number_is : n + length (commits script.book) ≡ script.state.number
      = ap (λ (k : ℕ). n + k) (commits_counted store_meaning opened script.book legal.legal.run) ∙ number_told store_meaning opened script.book legal.legal.run ∙ ap (λ (u : State BookCall). u.number) state_of_book in
      record {
        is_valid_tree = subst IsValidTree (sym serial_is.tree) (states_sound IsValidStoreCall store_meaning store_laws t n limit script.book legal).valid_tree;
        opens = holds ∙ (λ i. Ok (record { entries = map_of (sym tree_is i); number = sym number_is i }));
      }
