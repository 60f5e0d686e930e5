-- What commits that wait to be handed out have for bodies: what their transactions changed (docs/FILE_FORMAT.md, "A commit's body").
use Rattle.std.specs.Prelude.{◌≡◌, ℕ, List, [], ◌∷◌, ◌++◌, map, Option}
use Rattle.node_records.specs.Changes.{changes_bytes}
use Rattle.node_records.specs.declared.pending.Pending.{Pending}
use Rattle.node_seq.specs.Trees.{StandsFor}
use Rattle.tree_model.specs.Entries.{Entries}
use Rattle.tree_model.specs.Tree.{Tree}
use Rattle.tree_model.specs.declared.change.Change.{Change}
use Rattle.call_contract.specs.Books.{Book, commits}
use Rattle.call_contract.specs.CallChanges.{changes_of_calls}
use Rattle.call_contract.specs.Calls.{CallMeaning}
use Rattle.call_contract.specs.SerialRuns.{Committed}
use Rattle.call_contract.specs.States.{view}
use Rattle.tx_core.specs.Cores.{CoreView}

module _ {C : Type 0} (m : CallMeaning C) where
  -- what each of these transactions changes, made one after another on this tree
  abbrev pub changes_made : List (Committed C) → Tree → List (List Change)
  changes_made [] t = []
  changes_made (d ∷ ds) t = changes_of_calls m d.calls t ∷ changes_made ds (view m d.calls t)

  -- the bodies of a book's commits
  abbrev pub bodies_of : Tree → Book C → List (List ℕ)
  bodies_of t book = map changes_bytes (changes_made (commits book) t)

  -- these have the bodies of the book's last commits, in their order
  pub record HaveLastBodies (t : Tree) (book : Book C) (pending : List Pending) : Type 0 where
    pub earlier : List (List ℕ)
    pub parts : earlier ++ map (λ p. p.body) pending ≡ bodies_of t book

module _ {C B : Type 0} (m : CallMeaning C) (told : B → Option Entries) where
  -- none waits, or they have the bodies of the book's last commits on each tree that the opening stands for
  abbrev pub HaveBodiesOf : CoreView C B → List Pending → Type 0
  HaveBodiesOf v [] = Unit {0}
  HaveBodiesOf v (p ∷ ps) = (t : Tree) → StandsFor (told v.opening) t → HaveLastBodies m t v.book (p ∷ ps)

  -- so it is of the commits that weren't handed out yet
  abbrev pub HasBodies : CoreView C B → Type 0
  HasBodies v = HaveBodiesOf v v.undrained.waiting
