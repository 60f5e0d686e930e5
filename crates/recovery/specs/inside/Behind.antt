-- A journal that is opened beside pages which were read.
use Rattle.std.specs.Prelude.{◌≡◌, ℕ, Bool, IsTrue, List, Option, Err, unwrap_or}
use Rattle.outside_traits.specs.DiskPairs.{Pair}
use Rattle.outside_traits.specs.Moments.{History}
use Rattle.outside_traits.specs.declared.disk.Disk.{Ghosts}
use Rattle.node_records.specs.declared.open_error.Place.{Place}
use Rattle.journal.specs.declared.group.Groups.{Groups}
use Rattle.journal.specs.declared.journal.OpenFault.{OpenFault}
use Rattle.paged_seq.specs.PagedFiles.{PagedView}
use Rattle.paged_seq.specs.PagedMaps.{file_entries}
use Rattle.store_contents.specs.Contents.{LeavesSameContents}
use Rattle.recovery.specs.Causes.{RiseOnlyAtFault}
use Rattle.recovery.specs.declared.behind.Followed.{Followed}
use Rattle.recovery.specs.inside.Over.{FollowsPages, answer_before, answer_over, groups_over}

-- after each call of the journal's disk a crash leaves what stands for the same, whatever pages are beside it
abbrev pub LeavesSameBesideAny : History → History → Type 0
LeavesSameBesideAny old new = (pages : List ℕ) → LeavesSameContents pages old new

-- the journal was opened beside these pages: its commits go on from their base, and this is what they make of the records
abbrev pub IsFollowed : {J P : Type 0} → Ghosts J → Ghosts P → J → PagedView P → ℕ → Followed J → Type 0
IsFollowed of_journal of_pages journal seq base f = FollowsPages of_journal.is_known of_pages.is_known (of_pages.history seq.disk).now.reads base
    (of_journal.history journal) f.journal.history f.net.layers.changes f.net.number

-- this is the place that is answered of the journal beside pages with this base
abbrev pub IsAnsweredOver : ℕ → Pair → Pair → Place → Type 0
IsAnsweredOver base old new place = answer_over (file_entries old.pages.now.reads, base) old.journal.now.reads ≡ Err place

-- this is the place that is answered of a journal's groups beside pages with this base, where their disk is known
abbrev pub AreAnsweredOver : {P : Type 0} → Ghosts P → P → ℕ → Groups → Place → Type 0
AreAnsweredOver of_pages pages base groups place = IsTrue of_pages.is_known → groups_over (file_entries (of_pages.history pages).now.reads, base) groups ≡ Err place

-- this is the place that comes first: one in the journal, or of its images, or else that where the pages with this base are broken
abbrev pub ComesFirst : Bool → Option ℕ → List ℕ → Place → Place → Type 0
ComesFirst is_known base journal broken place = IsTrue is_known → place ≡ unwrap_or (answer_before base journal) broken

-- a journal was opened beside pages that were read meanwhile, and neither count of faults rose
abbrev pub CountsNoneBeside : {J P : Type 0} → Ghosts J → Ghosts P → J → PagedView P → PagedView P → Followed J → Type 0
CountsNoneBeside of_journal of_pages journal seq seq_now f = (f.journal.faults ≡ of_journal.faults journal) × (of_pages.faults seq_now.disk ≡ of_pages.faults seq.disk)

-- none was opened; neither count rose but where a fault is answered, and none fell
abbrev pub CountsOnlyAtFaultBeside : {J P : Type 0} → Ghosts J → Ghosts P → J → PagedView P → PagedView P → OpenFault J → Type 0
CountsOnlyAtFaultBeside of_journal of_pages journal seq seq_now refused = RiseOnlyAtFault refused.fault
    (of_journal.faults journal) (of_journal.faults refused.disk) (of_pages.faults seq.disk) (of_pages.faults seq_now.disk)
