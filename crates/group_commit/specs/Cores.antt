-- What the workers of a script ask of a core, its journal and the lines, and which core they hand back.
use Rattle.std.specs.Prelude.{◌≡◌, ◌+◌, ℕ, IsTrue, List, [], Option}
use Rattle.std.specs.List.{AllByRecursion}
use Rattle.tree_model.specs.Entries.{Entries}
use Rattle.tree_model.specs.Tree.{Tree}
use Rattle.node_seq.specs.Trees.{StandsFor}
use Rattle.call_contract.specs.Books.{Book, IsBookFrom}
use Rattle.call_contract.specs.Calls.{CallMeaning}
use Rattle.call_contract.specs.States.{State, start}
use Rattle.command_lines.specs.ValidCommands.{IsValidCommand}
use Rattle.command_lines.specs.declared.command.Command.{Command}
use Rattle.journal.specs.Groups.{is_next}
use Rattle.journal.specs.Views.{JournalView, TakesGroups}
use Rattle.shared_store.specs.Lists.{SessionsFit}
use Rattle.tx_core.specs.Cores.{CoreView}
use Rattle.group_commit.specs.StorePorts.{HaveSessions}

-- nothing was noted in this core since it was opened, and the journal takes the commit behind its number
pub record MayBegin {C B : Type 0} (core : CoreView C B) (journal : JournalView) : Type 0 where
  pub book : core.book ≡ []
  pub takes : TakesGroups journal
  pub next : IsTrue (is_next journal.last (core.number + 1))

-- these lines are of sessions that a store has, and their commands are valid
pub record MayBeAsked (lines : List Command) : Type 0 where
  pub sessions : HaveSessions lines
  pub valid : AllByRecursion IsValidCommand lines

-- a core that was opened as another one, over a base that goes on from that one's
pub record IsFrom {C B : Type 0} (unchanged : B → B → Type 0) (first core : CoreView C B) : Type 0 where
  pub opening : core.opening ≡ first.opening
  pub number : core.number ≡ first.number
  pub limit : core.limit ≡ first.limit
  pub base : unchanged first.base core.base

-- a core's book is a legal one of valid calls over each tree that another core was opened over, with that one's number and limit, and of sessions that a store has
pub record HasBookFrom {C B : Type 0} (is_valid : C → Type 0) (m : CallMeaning C) (told : B → Option Entries) (first core : CoreView C B) : Type 0 where
  pub legal : (t : Tree) → StandsFor (told first.opening) t → IsBookFrom is_valid m t first.number first.limit core.book
  pub sessions : SessionsFit core.book

-- of each session: this holds of it, of the state at each opening of one core, and of the book of the other
abbrev pub EachFrom : {C B : Type 0} → (B → Option Entries) → CoreView C B → CoreView C B → (ℕ → State C → Book C → Type 0) → Type 0
EachFrom told first core holds = (t : Tree) → StandsFor (told first.opening) t → (s : ℕ) → holds s (start t first.number first.limit) core.book
