-- A legal book of the store's calls is sound.
use Rattle.std.proofs.Common.{◌≡◌, ℕ, [], ◌∷◌, ◌++◌, sym, ap, subst, ◌∙◌}
use Rattle.tree_model.specs.Tree.{Tree}
use Rattle.tree_model.specs.ValidTrees.{IsValidTree}
use Rattle.call_contract.specs.Books.{Book, IsAnswer, IsBookFrom, IsRun, last, state_of}
use Rattle.call_contract.specs.Ends.{LeavesAllElse}
use Rattle.call_contract.specs.States.{State, start}
use Rattle.call_contract.specs.Steps.{step}
use Rattle.call_contract.specs.declared.events.Event.{Event}
use Rattle.call_contract.specs.declared.events.Event.TheVariants.{Abort}
use Rattle.call_contract.specs.declared.events.Noted.{Noted}
use Rattle.call_contract.proofs.Appends.{last_append, run_rest}
use Rattle.call_contract.proofs.BookLaws.{serial_book, deadlock_shown, abort_leaves_all_else}
use Rattle.session_driver.specs.Asking.{BookCall}
use Rattle.store_calls.specs.StoreCalls.{store_meaning, IsValidStoreCall}
use Rattle.store_calls.proofs.StoreCallLaws.{store_laws}
use Rattle.xtc.specs.TopCall.{IsSoundBook}
use Rattle.xtc.proofs.LiveLaws.{live_stand}

-- a book without entries is legal
pub empty_legal : (t : Tree) (n limit : ℕ) → IsValidTree t → IsBookFrom IsValidStoreCall store_meaning t n limit []
empty_legal t n limit formed = record { valid_tree = formed; valid_calls = tt; legal = record { run = tt; faults = tt } }

module _ (t : Tree) (n limit : ℕ) (book : Book BookCall) (legal : IsBookFrom IsValidStoreCall store_meaning t n limit book) where
  abbrev opened : State BookCall
  opened = start t n limit

  abort_leaves : (before : Book BookCall) (e : Noted BookCall) (behind : Book BookCall) → book ≡ before ++ e ∷ behind → e.event ≡ Abort
      → LeavesAllElse (last store_meaning opened before) (last store_meaning opened (before ++ e ∷ [])) e.session
  abort_leaves before e behind is aborts =
      let st : State BookCall = last store_meaning opened before in
      let run : IsRun store_meaning st (e ∷ behind) = run_rest store_meaning opened before (e ∷ behind) (subst (IsRun store_meaning opened) is legal.legal.run) in
      let here : IsAnswer e.answer (step store_meaning st e.session Abort) = subst (λ (v : Event BookCall). IsAnswer e.answer (step store_meaning st e.session v)) aborts run.0 in
      subst (λ (u : State BookCall). LeavesAllElse st u e.session)
      (ap (λ (v : Event BookCall). state_of st (step store_meaning st e.session v)) (sym aborts) ∙ sym (last_append store_meaning opened before (e ∷ [])))
      (abort_leaves_all_else store_meaning st e.session e.answer here)

  pub sound_book : IsSoundBook t n limit book
  sound_book = record {
    legal = legal;
    serial = serial_book IsValidStoreCall store_meaning store_laws t n limit book legal;
    live = λ before behind is. live_stand t n limit book before behind legal is;
    deadlocks = λ before e behind is cycle shown answered. deadlock_shown store_meaning t n limit before e cycle answered shown;
    aborts = abort_leaves;
  }
