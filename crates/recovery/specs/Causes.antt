-- Why a store isn't opened (docs/FILE_FORMAT.md, "Opening").
use Rattle.std.specs.Prelude.{◌≡◌, ◌≤◌, ◌⊎◌, ℕ}
use Rattle.outside_traits.specs.DiskPairs.{Pair}
use Rattle.outside_traits.specs.Faults.{FaultCounted}
use Rattle.outside_traits.specs.declared.disk.Disk.{Ghosts}
use Rattle.node_records.specs.declared.open_error.OpenError.{OpenError}
use Rattle.node_records.specs.declared.open_error.Place.{Place}
use Rattle.journal.specs.Refusals.{HasReason, UnlessFault}
use Rattle.recovery.specs.Openings.{KnownFilesHave}
use Rattle.recovery.specs.declared.fault.StoreFault.{StoreFault}
use Rattle.recovery.specs.declared.opening.Opened.{Opened}

-- one of two counts of faults rose
abbrev pub OneRose : ℕ → ℕ → ℕ → ℕ → Type 0
OneRose journal journal_now pages pages_now = FaultCounted journal journal_now ⊎ FaultCounted pages pages_now

-- neither rose but where a fault is answered, and none fell
pub record RiseOnlyAtFault (fault : OpenError) (journal journal_now pages pages_now : ℕ) : Type 0 where
  pub uncounted : UnlessFault fault ((journal_now ≡ journal) × (pages_now ≡ pages))
  pub later : (journal ≤ journal_now) × (pages ≤ pages_now)

-- ---- of two disks

-- the count of one of them rose
abbrev pub OneDiskRose : {J P : Type 0} → Ghosts J → Ghosts P → J → P → J → P → Type 0
OneDiskRose of_journal of_pages journal pages journal_now pages_now =
    OneRose (of_journal.faults journal) (of_journal.faults journal_now) (of_pages.faults pages) (of_pages.faults pages_now)

-- where both disks are known, damage is at a place of which this holds with their files as they were and as they are; a fault of a disk was counted
abbrev pub HasReasonSince : {J P : Type 0} → (Pair → Pair → Place → Type 0) → Ghosts J → Ghosts P → J → P → J → P → OpenError → Type 0
HasReasonSince Q of_journal of_pages journal pages journal_now pages_now fault = HasReason
    (λ place. KnownFilesHave (λ old new. Q old new place) of_journal of_pages journal pages journal_now pages_now)
    (OneDiskRose of_journal of_pages journal pages journal_now pages_now) fault

-- on these disks no store was opened, since they are damaged at a place of which this holds, or since a fault of one of them was counted
abbrev pub HasReasonIn : {J P : Type 0} → (Pair → Pair → Place → Type 0) → Ghosts J → Ghosts P → J → P → StoreFault J P → Type 0
HasReasonIn Q of_journal of_pages journal pages refused = HasReasonSince Q of_journal of_pages journal pages refused.journal refused.pages refused.fault

-- on these disks a store was opened, and neither of their counts rose
abbrev pub CountsNone : {J P : Type 0} → Ghosts J → Ghosts P → J → P → Opened J P → Type 0
CountsNone of_journal of_pages journal pages store = (store.journal.faults ≡ of_journal.faults journal) × (of_pages.faults store.base.disk ≡ of_pages.faults pages)

-- on these disks none was opened; neither count rose but where a fault is answered, and none fell
abbrev pub CountsOnlyAtFault : {J P : Type 0} → Ghosts J → Ghosts P → J → P → StoreFault J P → Type 0
CountsOnlyAtFault of_journal of_pages journal pages refused = RiseOnlyAtFault refused.fault
    (of_journal.faults journal) (of_journal.faults refused.journal) (of_pages.faults pages) (of_pages.faults refused.pages)
