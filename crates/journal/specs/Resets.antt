-- What a reset leaves of a journal (docs/FILE_FORMAT.md, "Reset").
use Rattle.std.specs.Prelude.{◌≡◌, ℕ, List, [], Ok}
use Rattle.outside_traits.specs.CrashImages.{IsImage}
use Rattle.outside_traits.specs.Moments.{History, IsAllSynced, LeavesOnly}
use Rattle.journal.specs.Appends.{IsOneOf, groups_in}
use Rattle.journal.specs.Groups.{only_commits}
use Rattle.journal.specs.Heads.{first_gate}
use Rattle.journal.specs.Journals.{read}
use Rattle.journal.specs.Steps.{Does, reset_steps}
use Rattle.journal.specs.Views.{JournalView, TakesGroups}

-- after each call a crash leaves the groups from before it, or none
abbrev pub LeavesGroupsOrNone : History → History → Type 0
LeavesGroupsOrNone old new = LeavesOnly (IsOneOf (groups_in old) (only_commits [])) old new

-- no group is open any more
pub record Clears (gate : ℕ) (old new : History) : Type 0 where
  -- the bytes are read as none, and so is each crash image: all is synced
  pub groups : read new.now.reads ≡ Ok (only_commits [])
  pub synced : IsAllSynced new
  pub durable : (image : List ℕ) → IsImage new.now image → read image ≡ Ok (only_commits [])
  -- by these calls, and no other
  pub steps : Does (reset_steps gate) old new

-- the journal may be used again, from its first gate on and behind the same number
pub record HasReset (old new : JournalView) : Type 0 where
  pub usable : TakesGroups new
  pub last : new.last ≡ old.last
  pub gate : new.gate ≡ first_gate
