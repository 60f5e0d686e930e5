-- What live transactions were answered, at each moment of a legal book.
use Rattle.std.proofs.Common.{◌≡◌, ℕ, [], ◌∷◌, ◌++◌, subst}
use Rattle.std.specs.Prelude.{None}
use Rattle.tree_model.specs.Tree.{Tree}
use Rattle.call_contract.specs.Books.{Book, HasValidCalls, IsBookFrom, last}
use Rattle.call_contract.specs.Lives.{RepliesStand}
use Rattle.call_contract.specs.States.{start}
use Rattle.call_contract.proofs.Appends.{faults_first, run_first}
use Rattle.call_contract.proofs.BookLaws.{live_replies}
use Rattle.session_driver.specs.Asking.{BookCall}
use Rattle.store_calls.specs.StoreCalls.{store_meaning, IsValidStoreCall}
use Rattle.store_calls.proofs.StoreCallLaws.{store_laws}

valid_first : (before behind : Book BookCall) → HasValidCalls IsValidStoreCall (before ++ behind) → HasValidCalls IsValidStoreCall before
valid_first [] behind all = tt
valid_first (e ∷ before) behind all = (all.0, valid_first before behind all.1)

module _ (t : Tree) (n limit : ℕ) where
  -- the first entries of a legal book are one
  legal_first : (before behind : Book BookCall) → IsBookFrom IsValidStoreCall store_meaning t n limit (before ++ behind) → IsBookFrom IsValidStoreCall store_meaning t n limit before
  legal_first before behind is = record {
    valid_tree = is.valid_tree;
    valid_calls = valid_first before behind is.valid_calls;
    legal = record { run = run_first store_meaning (start t n limit) before behind is.legal.run; faults = faults_first None before behind is.legal.faults };
  }

  -- so replies to those that are live stand at each moment
  pub live_stand : (book before behind : Book BookCall) → IsBookFrom IsValidStoreCall store_meaning t n limit book → book ≡ before ++ behind → RepliesStand store_meaning (last store_meaning (start t n limit) before)
  live_stand book before behind legal is =
      live_replies IsValidStoreCall store_meaning store_laws t n limit before (legal_first before behind (subst (IsBookFrom IsValidStoreCall store_meaning t n limit) is legal))
