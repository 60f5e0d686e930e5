-- What a run over a group commit hands out: a core, and the journal of its commits.
use Rattle.std.specs.Prelude.{◌≡◌, ℕ, ◌+◌, Bool, Option, None}
use Rattle.tree_model.specs.Entries.{Entries}
use Rattle.call_contract.specs.Calls.{CallMeaning}
use Rattle.call_contract.specs.Sessions.{commits_in}
use Rattle.journal.specs.Views.{JournalView}
use Rattle.tx_core.specs.Cores.{CoreView}
use Rattle.group_commit.specs.Closings.{IsAsTold}
use Rattle.group_commit.specs.Marks.{failure_in, opening_in}
use Rattle.group_commit.specs.Members.{AreReached, Marks, MarksPass}

module _ {C B : Type 0} (m : CallMeaning C) (told : B → Option Entries) (is_known : Bool) (first : MarksPass C B) (core : CoreView C B) (journal : JournalView) where
  -- the journal is as a list behind its turn tells, with the opening that this pass has seen
  pub record IsHandedOut : Type 0 where
    pub marks : Marks C B
    pub opening : opening_in marks ≡ opening_in first.seen
    pub as_told : IsAsTold m told is_known marks core journal

  -- and all commits of the core are durable, and no call of the journal has failed
  pub record IsAllHandedOut : Type 0 where
    pub out : IsHandedOut
    pub reached : AreReached out.marks (core.number + commits_in core.book)
    pub unfailed : failure_in out.marks ≡ None
