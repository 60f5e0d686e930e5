-- What a run over a group commit has done for each session, told from the opening that its first member has seen.
use Rattle.std.specs.Prelude.{ℕ, Option}
use Rattle.tree_model.specs.Entries.{Entries}
use Rattle.tree_model.specs.Tree.{Tree}
use Rattle.call_contract.specs.Books.{Book, IsRun}
use Rattle.call_contract.specs.Calls.{CallMeaning}
use Rattle.call_contract.specs.States.{State, start}
use Rattle.shared_store.specs.Lists.{book_of}
use Rattle.tx_core.specs.Cores.{CoreView}
use Rattle.group_commit.specs.Members.{MemberView}
use Rattle.group_commit.specs.StorePorts.{IsOpenedOver, IsSessionNumber}

module _ {C B : Type 0} (m : CallMeaning C) (told : B → Option Entries) where
  -- of each session of a store: this holds of it, of the state at each opening that the first member has seen, and of the book that the other has seen, where that is a run from there
  abbrev pub EachSeenFrom : MemberView C B → MemberView C B → (ℕ → State C → Book C → Type 0) → Type 0
  EachSeenFrom first back holds =
      (t : Tree) (n l : ℕ) → IsOpenedOver told first.session.seen t n l → IsRun m (start t n l) (book_of back.session.seen)
      → (s : ℕ) → IsSessionNumber s → holds s (start t n l) (book_of back.session.seen)

  -- of each session: the same of the book of a core
  abbrev pub EachRunFrom : MemberView C B → CoreView C B → (ℕ → State C → Book C → Type 0) → Type 0
  EachRunFrom first core holds =
      (t : Tree) (n l : ℕ) → IsOpenedOver told first.session.seen t n l → IsRun m (start t n l) core.book → (s : ℕ) → holds s (start t n l) core.book
