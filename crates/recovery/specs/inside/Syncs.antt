-- What the syncs leave with which an opening begins (docs/FILE_FORMAT.md, "Opening").
use Rattle.std.specs.Prelude.{ℕ, List, IsTrue, Result, MatchResult}
use Rattle.outside_traits.specs.CrashImages.{IsImage}
use Rattle.outside_traits.specs.DiskPairs.{Pair, PairsLeave}
use Rattle.outside_traits.specs.Disks.{Synced}
use Rattle.outside_traits.specs.declared.disk.Disk.{Ghosts}
use Rattle.node_records.specs.declared.open_error.OpenError.{OpenError}
use Rattle.journal.specs.Refusals.{UnlessFault}

-- a crash of the two disks then could leave these bytes
pub record CouldLeave (pair : Pair) (journal pages : List ℕ) : Type 0 where
  pub of_journal : IsImage pair.journal.now journal
  pub of_pages : IsImage pair.pages.now pages

-- after each call since old, one that failed too, a crash leaves nothing that it couldn't leave then
abbrev pub LeaveNoOther : Pair → Pair → Type 0
LeaveNoOther old new = PairsLeave (CouldLeave old) old new

-- each of two disks was synced, where it is known
abbrev pub AreSynced : {J P : Type 0} → Ghosts J → Ghosts P → J → P → J → P → Type 0
AreSynced of_journal of_pages journal pages journal_now pages_now =
    (IsTrue of_journal.is_known → Synced (of_journal.history journal).now (of_journal.history journal_now).now)
    × (IsTrue of_pages.is_known → Synced (of_pages.history pages).now (of_pages.history pages_now).now)

-- this holds unless a fault was answered
abbrev pub UnlessFaulted : {T : Type 0} → Result T OpenError → Type 0 → Type 0
UnlessFaulted result P = MatchResult result (λ _. P) (λ fault. UnlessFault fault P)
