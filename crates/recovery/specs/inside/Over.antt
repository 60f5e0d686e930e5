-- What is answered of a journal, by what was read of the pages beside it.
use Rattle.std.specs.Prelude.{◌≡◌, ◌⊎◌, ℕ, Bool, true, not, ◌&&◌, IsTrue, if◌then◌else◌, List, Option, Some, None, is_some, Result, Ok, Err}
use Rattle.dewey_labels.specs.Lists.{is_empty}
use Rattle.outside_traits.specs.DiskPairs.{Pair}
use Rattle.outside_traits.specs.Disks.{Synced}
use Rattle.outside_traits.specs.Moments.{History}
use Rattle.outside_traits.specs.declared.disk.Disk.{Ghosts}
use Rattle.tree_model.specs.Entries.{Entries}
use Rattle.tree_model.specs.declared.change.Change.{Change}
use Rattle.node_records.specs.declared.open_error.Place.{Place}
use Rattle.node_records.specs.declared.open_error.File.TheVariants.{Journal, Pages}
use Rattle.journal.specs.Groups.{only_commits}
use Rattle.journal.specs.Heads.{first_gate}
use Rattle.journal.specs.Journals.{read}
use Rattle.journal.specs.Openings.{Opens}
use Rattle.journal.specs.declared.group.Group.{Group}
use Rattle.journal.specs.declared.group.Groups.{Groups}
use Rattle.store_contents.specs.Contents.{Contents, checked, contents_of_files, first_broken, goes_on_from, place_in, with_commits}
use Rattle.recovery.specs.Causes.{OneDiskRose}
use Rattle.recovery.specs.Openings.{HasImages, OpensFiles, files_on, files_opened, map_opened}
use Rattle.recovery.specs.declared.fault.StoreFault.{StoreFault}
use Rattle.recovery.specs.declared.opening.Opened.{Opened}
use Rattle.recovery.specs.inside.Nets.{NetOf}
use Rattle.recovery.specs.inside.Walking.{AreRead}

-- no group at all
abbrev pub has_none : Groups → Bool
has_none groups = is_empty groups.commits && not (is_some groups.images)

-- what is answered of a journal's groups over these records with this base
abbrev pub groups_over : Entries × ℕ → Groups → Result Contents Place
groups_over held groups =
    if is_some groups.images then Err (place_in Pages 0)
    else if goes_on_from (Some held.1) groups.commits then checked (with_commits groups.commits held) else Err (place_in Journal first_gate)

-- the same of a journal's bytes
abbrev pub answer_over : Entries × ℕ → List ℕ → Result Contents Place
answer_over held journal = elim (read journal) [
  | Ok groups ↦ groups_over held groups
  | Err at ↦ Err (place_in Journal (first_broken (Some held.1) journal at))
]

-- the place in a journal, or of its images, that comes before a rule which the pages with this base break, if there is one
abbrev pub groups_before : Option ℕ → Groups → Option Place
groups_before base groups =
    if is_some groups.images then Some (place_in Pages 0)
    else if goes_on_from base groups.commits then None else Some (place_in Journal first_gate)

abbrev pub answer_before : Option ℕ → List ℕ → Option Place
answer_before base journal = elim (read journal) [
  | Ok groups ↦ groups_before base groups
  | Err at ↦ Some (place_in Journal (first_broken base journal at))
]

-- the journal was opened beside these records: its commits go on from their base, and this is what they make of them
pub record FollowsOver (is_known : Bool) (records : Entries) (base : ℕ) (old new : History) (changes : List Change) (number : ℕ) : Type 0 where
  pub commits : List Group
  pub goes_on : goes_on_from (Some base) commits ≡ true
  pub net : NetOf records base commits changes number
  pub opens : IsTrue is_known → Opens old new (only_commits commits)

-- the same beside the pages of a file
pub record FollowsPages (journal_known pages_known : Bool) (file : List ℕ) (base : ℕ) (old new : History) (changes : List Change) (number : ℕ) : Type 0 where
  pub records : Entries
  pub are : AreRead pages_known file records
  pub follows : FollowsOver journal_known records base old new changes number

-- the map of a store that was opened on these disks, where it is known, is the one that their files stood for, and stand for now
abbrev pub HasFilesMap : {J P : Type 0} → Ghosts J → Ghosts P → J → P → Opened J P → Type 0
HasFilesMap of_journal of_pages journal pages store = OpensFiles of_journal.is_known of_pages.is_known (map_opened of_pages store)
    (files_on of_journal of_pages journal pages) (files_opened of_pages store) store.number

-- ---- a store that isn't opened at first

-- the place of the first rule that the files break; or page 0 where images are open, which are put into the pages before the store is opened once more
abbrev pub IsRefusedAt : List ℕ → List ℕ → Place → Type 0
IsRefusedAt journal pages place = (contents_of_files journal pages ≡ Err place) ⊎ (HasImages journal × (place ≡ place_in Pages 0))

-- the files of two disks are refused there, where both are known
abbrev pub RefusedAt : {J P : Type 0} → Ghosts J → Ghosts P → J → P → Place → Type 0
RefusedAt of_journal of_pages journal pages place = IsTrue of_journal.is_known → IsTrue of_pages.is_known
    → IsRefusedAt (of_journal.history journal).now.reads (of_pages.history pages).now.reads place

-- one of the disks that are answered has counted a fault
abbrev pub OneRoseIn : {J P : Type 0} → Ghosts J → Ghosts P → J → P → StoreFault J P → Type 0
OneRoseIn of_journal of_pages journal pages refused = OneDiskRose of_journal of_pages journal pages refused.journal refused.pages

-- the files are refused at this place; they are synced, and as they were
pub record IsRefused (old new : Pair) (place : Place) : Type 0 where
  pub refused : IsRefusedAt old.journal.now.reads old.pages.now.reads place
  pub journal : Synced old.journal.now new.journal.now
  pub pages : Synced old.pages.now new.pages.now
