-- Counts of faults by the disks that keep them (docs/PROFILE.md, "Faults").
use Rattle.std.specs.Prelude.{◌≡◌, ◌≤◌}
use Rattle.outside_traits.specs.Faults.{FaultCounted}
use Rattle.outside_traits.specs.declared.disk.Disk.{Ghosts}

-- the count of a disk rose
abbrev pub CountRose : {D : Type 0} → Ghosts D → D → D → Type 0
CountRose of_disk disk disk_now = FaultCounted (of_disk.faults disk) (of_disk.faults disk_now)

-- the counts of two disks are as they were
abbrev pub SameCounts : {J P : Type 0} → Ghosts J → Ghosts P → J → P → J → P → Type 0
SameCounts of_journal of_pages journal pages journal_now pages_now =
    (of_journal.faults journal_now ≡ of_journal.faults journal) × (of_pages.faults pages_now ≡ of_pages.faults pages)

-- none of two counts has fallen
abbrev pub NoneFell : {J P : Type 0} → Ghosts J → Ghosts P → J → P → J → P → Type 0
NoneFell of_journal of_pages journal pages journal_now pages_now =
    (of_journal.faults journal ≤ of_journal.faults journal_now) × (of_pages.faults pages ≤ of_pages.faults pages_now)
