-- What the opening of a store with pages leaves of its two disks (docs/FILE_FORMAT.md, "With pages").
use Rattle.std.specs.Prelude.{◌≡◌, ◌⊎◌, ◌+◌, ℕ, Bool, true, if◌then◌else◌, IsTrue, List, [], ◌∷◌, ◌++◌, Option, Some, is_some, Result, Ok, Err, MatchResult}
use Rattle.outside_traits.specs.DiskPairs.{Pair, PairsHave, pair_of}
use Rattle.outside_traits.specs.Disks.{Synced}
use Rattle.outside_traits.specs.Moments.{History, IsAllSynced}
use Rattle.outside_traits.specs.declared.disk.Disk.{Ghosts}
use Rattle.tree_model.specs.Entries.{Entries}
use Rattle.tree_model.specs.StoredTree.{IsStoredTree}
use Rattle.node_records.specs.declared.open_error.Place.{Place}
use Rattle.journal.specs.Groups.{is_next}
use Rattle.journal.specs.Journals.{header, is_fresh, read}
use Rattle.journal.specs.Views.{JournalView, TakesGroups}
use Rattle.journal.specs.declared.group.Groups.{Groups}
use Rattle.overlays.specs.Views.{contents_after}
use Rattle.paged_seq.specs.PagedMaps.{map_of_file}
use Rattle.store_contents.specs.Contents.{contents_of_files}
use Rattle.store_contents.specs.StoredTrees.{StandForOne, StoodFor, LeaveWhatStood}
use Rattle.recovery.specs.declared.fault.StoreFault.{StoreFault}
use Rattle.recovery.specs.declared.opening.Opened.{Opened}

-- ---- the two disks of a store: `J.Disk` and `P.Disk` in a clause tell of such disks whether they are known, their histories, and their counts of faults

-- the files of two disks
abbrev pub files_on : {J P : Type 0} → Ghosts J → Ghosts P → J → P → Pair
files_on of_journal of_pages journal pages = pair_of (of_journal.history journal) (of_pages.history pages)

-- the files of a store that was opened
abbrev pub files_opened : {J P : Type 0} → Ghosts P → Opened J P → Pair
files_opened of_pages store = pair_of store.journal.history (of_pages.history store.base.disk)

-- the map that its pages and layers make, where the page file is known
abbrev pub map_opened : {J P : Type 0} → Ghosts P → Opened J P → Option Entries
map_opened of_pages store = contents_after store.layers.changes (map_of_file of_pages.is_known (of_pages.history store.base.disk).now.reads)

-- where both disks are known, this holds of their files as they were and as they are
abbrev pub KnownFilesHave : {J P : Type 0} → (Pair → Pair → Type 0) → Ghosts J → Ghosts P → J → P → J → P → Type 0
KnownFilesHave Q of_journal of_pages journal pages journal_now pages_now = IsTrue of_journal.is_known → IsTrue of_pages.is_known
    → Q (files_on of_journal of_pages journal pages) (files_on of_journal of_pages journal_now pages_now)

-- where both disks are known, the first holds of their files as they were and as they are after a success, the second after an error
abbrev pub KnownFilesHaveAfter : {J P T : Type 0} → (Pair → Pair → Type 0) → (Pair → Pair → Type 0) → (T → Pair) → Ghosts J → Ghosts P → J → P → Result T (StoreFault J P) → Type 0
KnownFilesHaveAfter Q R files_after of_journal of_pages journal pages result = IsTrue of_journal.is_known → IsTrue of_pages.is_known → MatchResult result
    (λ done. Q (files_on of_journal of_pages journal pages) (files_after done))
    (λ refused. R (files_on of_journal of_pages journal pages) (files_on of_journal of_pages refused.journal refused.pages))

-- ---- a store that is opened

-- the nine bytes of a journal without groups in place of a fresh file; any other file as it is
abbrev pub journal_made : List ℕ → List ℕ
journal_made journal = if is_fresh journal then header ++ 0 ∷ [] else journal

-- the journal is all synced, and has the bytes that it had; nine of them where it was fresh
pub record IsOpened (old new : History) : Type 0 where
  pub synced : IsAllSynced new
  pub bytes : new.now.reads ≡ journal_made old.now.reads

-- and so are the pages, which have the bytes that they had
pub record AreOpened (journal_known pages_known : Bool) (old new : Pair) : Type 0 where
  pub journal : IsTrue journal_known → IsOpened old.journal new.journal
  pub pages : IsTrue pages_known → Synced old.pages.now new.pages.now

-- the journal takes the commit behind this number
pub record TakesBehind (journal : JournalView) (number : ℕ) : Type 0 where
  pub usable : TakesGroups journal
  pub next : IsTrue (is_next journal.last (number + 1))

-- the files stood for this map and number, stand for them now, and for one tree alone
pub record OpensPages (old new : Pair) (entries : Entries) (number : ℕ) : Type 0 where
  pub stood : contents_of_files old.journal.now.reads old.pages.now.reads ≡ Ok (record { entries = entries; number = number })
  pub stands : contents_of_files new.journal.now.reads new.pages.now.reads ≡ Ok (record { entries = entries; number = number })
  pub alone : StandForOne new.journal.now.reads new.pages.now.reads number

-- this map, where it is known, is the one that known files stood for, and stand for now
abbrev pub OpensFiles : Bool → Bool → Option Entries → Pair → Pair → ℕ → Type 0
OpensFiles journal_known pages_known map old new number = IsTrue journal_known → IsTrue pages_known → (es : Entries) → map ≡ Some es → OpensPages old new es number

-- this map, where it is known, is that of a valid tree
abbrev pub IsTreesMap : Option Entries → Type 0
IsTreesMap map = (es : Entries) → map ≡ Some es → IsStoredTree es

-- this map, where it is known, is the one that known files stood for, and stand for now; and it is that of a valid tree
pub record OpensMap (journal_known pages_known : Bool) (map : Option Entries) (old new : Pair) (number : ℕ) : Type 0 where
  pub opens : OpensFiles journal_known pages_known map old new number
  pub tree : IsTreesMap map

-- a store was opened on these disks: its map, where it is known, is the one that their files stood for, and stand for now; and it is that of a valid tree
abbrev pub HasOpenMap : {J P : Type 0} → Ghosts J → Ghosts P → J → P → Opened J P → Type 0
HasOpenMap of_journal of_pages journal pages store = OpensMap of_journal.is_known of_pages.is_known (map_opened of_pages store)
    (files_on of_journal of_pages journal pages) (files_opened of_pages store) store.number

-- ---- a store that isn't opened

-- the journal is as it was, or was made
abbrev pub KeepsJournal : List ℕ → List ℕ → Type 0
KeepsJournal old new = (new ≡ old) ⊎ (new ≡ journal_made old)

-- where a disk is known, the journal on it is as it was, or was made
abbrev pub KeepsJournalIfKnown : {J : Type 0} → Ghosts J → J → J → Type 0
KeepsJournalIfKnown of_journal journal journal_now = IsTrue of_journal.is_known → KeepsJournal (of_journal.history journal).now.reads (of_journal.history journal_now).now.reads

-- the pages are as they were, and the journal as it was or as it is made in a fresh file
pub record KeepsFiles (journal_known pages_known : Bool) (old new : Pair) : Type 0 where
  pub journal : IsTrue journal_known → KeepsJournal old.journal.now.reads new.journal.now.reads
  pub pages : IsTrue pages_known → Synced old.pages.now new.pages.now

-- on these disks no store was opened: the pages are as they were, and the journal as it was or as it is made in a fresh file
abbrev pub KeepsBothFiles : {J P : Type 0} → Ghosts J → Ghosts P → J → P → StoreFault J P → Type 0
KeepsBothFiles of_journal of_pages journal pages refused =
    KeepsFiles of_journal.is_known of_pages.is_known (files_on of_journal of_pages journal pages) (files_on of_journal of_pages refused.journal refused.pages)

-- a crash at any moment, and one now, leaves files that stand for what such files stood for at the start
pub record LeavesPagesUnopened (old new : Pair) : Type 0 where
  pub any_moment : LeaveWhatStood old new
  pub left : PairsHave (StoodFor old) new

-- images are open in the journal
pub record HasImages (journal : List ℕ) : Type 0 where
  pub groups : Groups
  pub reads : read journal ≡ Ok groups
  pub has : is_some groups.images ≡ true

-- this is the place of the first rule that the files break; they are synced, and as they were
pub record RefusesPages (old new : Pair) (place : Place) : Type 0 where
  pub broken : contents_of_files old.journal.now.reads old.pages.now.reads ≡ Err place
  pub journal : Synced old.journal.now new.journal.now
  pub pages : Synced old.pages.now new.pages.now

-- where both disks are known and no images were open in the journal
abbrev pub UnlessImages : Bool → Bool → List ℕ → Type 0 → Type 0
UnlessImages journal_known pages_known journal P = IsTrue journal_known → IsTrue pages_known → (HasImages journal → ⊥) → P

-- where these two disks are known and no images were open in the journal on the first
abbrev pub WithoutImages : {J P : Type 0} → Ghosts J → Ghosts P → J → Type 0 → Type 0
WithoutImages of_journal of_pages journal P = UnlessImages of_journal.is_known of_pages.is_known (of_journal.history journal).now.reads P

-- all of both disks is synced; where no images were open, the pages are as they were, and the journal as it was or as it is made in a fresh file
pub record AreReady (journal_known pages_known : Bool) (old new : Pair) : Type 0 where
  pub journal : IsTrue journal_known → IsAllSynced new.journal
  pub pages : IsTrue pages_known → IsAllSynced new.pages
  pub same : UnlessImages journal_known pages_known old.journal.now.reads (AreOpened journal_known pages_known old new)

-- the files of a store are ready, and its journal takes the commit behind this number
pub record IsReadyBehind (journal_known pages_known : Bool) (old : Pair) (journal : JournalView) (pages : History) (number : ℕ) : Type 0 where
  pub synced : AreReady journal_known pages_known old (pair_of journal.history pages)
  pub next : TakesBehind journal number

-- a store was opened on these disks: its files are ready, and its journal takes the commit behind its number
abbrev pub IsReadyStore : {J P : Type 0} → Ghosts J → Ghosts P → J → P → Opened J P → Type 0
IsReadyStore of_journal of_pages journal pages store =
    IsReadyBehind of_journal.is_known of_pages.is_known (files_on of_journal of_pages journal pages) store.journal (of_pages.history store.base.disk) store.number
