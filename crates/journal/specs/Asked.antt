-- What an append asks of a journal (docs/DECISIONS.md, "What a journal is asked").
use Rattle.std.specs.Prelude.{ℕ, ◌<◌, ◌≤◌, List, length}
use Rattle.node_records.specs.declared.pending.Pending.{Pending}
use Rattle.journal.specs.Batches.{MayFollow}
use Rattle.journal.specs.Groups.{AreImages, IsCommit}
use Rattle.journal.specs.Views.{JournalView, TakesGroups}

-- the journal takes a group, this commit may stand behind its last one, and there is room for the body
pub record MayAppend (number : ℕ) (body : List ℕ) (journal : JournalView) : Type 0 where
  pub usable : TakesGroups journal
  pub commit : IsCommit journal.last number body
  pub room : length body ≤ journal.room

-- the journal takes groups, and these commits, one at least, may stand behind its last one, each behind the other
pub record MayAppendAll (commits : List Pending) (journal : JournalView) : Type 0 where
  pub usable : TakesGroups journal
  pub follow : MayFollow journal.last commits
  pub some : 0 < length commits

-- the journal takes a group, these images may stand behind its last one, and there is room for the body
pub record MayAppendImages (number : ℕ) (body : List ℕ) (journal : JournalView) : Type 0 where
  pub usable : TakesGroups journal
  pub images : AreImages journal.last number body
  pub room : length body ≤ journal.room
