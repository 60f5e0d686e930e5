-- Sessions asked in turn, as lists of lines of sessions: that their book is sound, and what files stand for after it.
use Rattle.std.proofs.Common.{◌≡◌, ℕ, ◌+◌, List, length, Ok, sym, ap, subst, ◌∙◌}
use Rattle.tree_model.specs.Tree.{Tree, map_of}
use Rattle.tree_model.specs.ValidTrees.{IsValidTree}
use Rattle.call_contract.specs.Books.{IsBookFrom, IsSerial, commits, last}
use Rattle.call_contract.specs.SerialRuns.{serial}
use Rattle.call_contract.specs.States.{State, start}
use Rattle.call_contract.proofs.BookLaws.{sound as states_sound, serial_book}
use Rattle.call_contract.proofs.SessionBooks.{number_told}
use Rattle.session_driver.specs.Asking.{BookCall}
use Rattle.store_calls.specs.StoreCalls.{store_meaning, IsValidStoreCall}
use Rattle.store_calls.proofs.StoreCallLaws.{store_laws}
use Rattle.session_driver.specs.Lines.{Asked}
use Rattle.session_driver.specs.Progress.{Progress}
use Rattle.session_driver.proofs.LegalBooks.{lines_legal}
use Rattle.session_driver.proofs.Runs.{lines_state}
use Rattle.session_driver.proofs.Waiters.{nobody_waits_in_vain}
use Rattle.xtc.specs.Book.{after_asked}
use Rattle.durable_sessions.specs.Durable.{HoldState}
use Rattle.xtc.specs.TopCall.{OpenAfter, IsSound}
use Rattle.xtc.specs.inside.Asking.{AreValidAsks}
use Rattle.xtc.proofs.CommitCounts.{commits_counted}
use Rattle.xtc.proofs.SoundBooks.{sound_book}

-- ---- valid lines from a valid tree

module _ (t : Tree) (n limit : ℕ) (formed : IsValidTree t) (asked : List (Asked BookCall)) (valid : AreValidAsks asked) where
  abbrev opened : State BookCall
  opened = start t n limit

  abbrev progress : Progress BookCall
  progress = after_asked opened asked

  legal : IsBookFrom IsValidStoreCall store_meaning t n limit progress.book
  legal = lines_legal IsValidStoreCall store_meaning t n limit asked formed valid

  serial_is : IsSerial store_meaning t n limit progress.book
  serial_is = serial_book IsValidStoreCall store_meaning store_laws t n limit progress.book legal

  state_of_book : last store_meaning opened progress.book ≡ progress.state
  state_of_book = lines_state store_meaning opened asked

  pub asked_sound : IsSound t n limit progress
  asked_sound = record {
    book = sound_book t n limit progress.book legal;
    state = state_of_book;
    no_vain_wait = nobody_waits_in_vain store_meaning t n limit asked;
  }

  -- files that hold what is committed in the state after them stand for the tree and the number after the commits of their book
  pub opens_after_asked : (journal pages : List ℕ) → HoldState progress.state journal pages → OpenAfter t n progress.book journal pages
  opens_after_asked journal pages holds =
      let tree_is : (serial store_meaning (commits progress.book) t).tree ≡ progress.state.tree = serial_is.tree ∙ ap (λ (u : State BookCall). u.tree) state_of_book in
      let number_is : n + length (commits progress.book) ≡ progress.state.number
      = ap (λ (k : ℕ). n + k) (commits_counted store_meaning opened progress.book legal.legal.run) ∙ number_told store_meaning opened progress.book legal.legal.run ∙ ap (λ (u : State BookCall). u.number) state_of_book in
      record {
        is_valid_tree = subst IsValidTree (sym serial_is.tree) (states_sound IsValidStoreCall store_meaning store_laws t n limit progress.book legal).valid_tree;
        opens = holds ∙ (λ i. Ok (record { entries = map_of (sym tree_is i); number = sym number_is i }));
      }
