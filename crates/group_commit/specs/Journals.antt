-- What the workers of a script leave of the journal that their commits were written to.
use Rattle.std.specs.Prelude.{◌≡◌, ℕ, ◌+◌, ◌≤◌, Bool, IsTrue, [], Option, Result, IfOk}
use Rattle.tree_model.specs.Entries.{Entries}
use Rattle.tree_model.specs.Tree.{Tree}
use Rattle.node_seq.specs.Trees.{StandsFor}
use Rattle.call_contract.specs.Calls.{CallMeaning}
use Rattle.call_contract.specs.Sessions.{commits_in}
use Rattle.journal.specs.Groups.{is_next}
use Rattle.journal.specs.Views.{JournalView, TakesGroups}
use Rattle.tx_core.specs.Cores.{CoreView}
use Rattle.group_commit.specs.Written.{HasWritten, HaveBodies}

-- Of the book of this core the first commits were written behind a journal's groups, each under its number with its body: so many at least, whatever a crash leaves.
pub record WroteFirst {C B : Type 0} (m : CallMeaning C) (told : B → Option Entries) (is_known : Bool) (first : JournalView) (least : ℕ) (core : CoreView C B) (journal : JournalView) : Type 0 where
  pub written : HasWritten is_known first core.number least (core.number + commits_in core.book) journal
  pub bodies : (t : Tree) → StandsFor (told core.opening) t → HaveBodies m t [] core.book written.commits
  pub faults : first.faults ≤ journal.faults

-- All were, and the journal takes the next one. No call of it has failed.
pub record WroteAll {C B : Type 0} (m : CallMeaning C) (told : B → Option Entries) (is_known : Bool) (first : JournalView) (core : CoreView C B) (journal : JournalView) : Type 0 where
  pub wrote : WroteFirst m told is_known first (commits_in core.book) core journal
  pub takes : TakesGroups journal
  pub next : IsTrue (is_next journal.last (core.number + commits_in core.book + 1))
  pub faults : journal.faults ≡ first.faults

-- The first commits of a core's book were written, and all of them where there is an answer.
pub record WroteCommits {C B T E : Type 0} (m : CallMeaning C) (told : B → Option Entries) (is_known : Bool) (first : JournalView) (answer : Result T E) (core : CoreView C B) (journal : JournalView) : Type 0 where
  pub wrote : WroteFirst m told is_known first 0 core journal
  pub durable : IfOk answer (λ _. WroteAll m told is_known first core journal)
