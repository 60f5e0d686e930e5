-- What a checkpoint leaves of a store (docs/FILE_FORMAT.md, "Checkpoints").
use Rattle.std.specs.Prelude.{◌≡◌, ◌≤◌, ◌⊎◌, ℕ, Bool, IsTrue, List, [], Option, Some, Result, Ok, Err, OnOk}
use Rattle.outside_traits.specs.DiskPairs.{Pair, PairsLeave, pair_of}
use Rattle.outside_traits.specs.Faults.{FaultCounted}
use Rattle.outside_traits.specs.Moments.{History, IsAllSynced}
use Rattle.tree_model.specs.Entries.{Entries}
use Rattle.tree_model.specs.Tree.{Tree, map_of}
use Rattle.node_seq.specs.Trees.{StandsFor}
use Rattle.node_seq.specs.declared.node_read.SeqError.{SeqError}
use Rattle.node_seq.specs.declared.node_read.SeqError.TheVariants.{DiskFault, NoMemory}
use Rattle.node_pages.specs.declared.cut.Cut.{Cut}
use Rattle.node_pages.specs.declared.cut.Cut.TheVariants.{Pages, TooMany}
use Rattle.node_pages.specs.Cuts.{cut_of, data_of}
use Rattle.node_pages.specs.PageFiles.{contents_of_file}
use Rattle.journal.specs.Groups.{is_last, only_commits}
use Rattle.journal.specs.Heads.{first_gate}
use Rattle.journal.specs.Journals.{read}
use Rattle.journal.specs.Views.{JournalView, TakesGroups}
use Rattle.store_contents.specs.Contents.{Contents, contents_of_files}
use Rattle.store_contents.specs.StoredTrees.{StandFor}
use Rattle.checkpoint.specs.declared.made.Made.{Made}
use Rattle.checkpoint.specs.declared.made.Made.TheVariants.{Yes, No}

-- the journal may be used, the commit with this number is its last one, and all of known pages is synced
pub record MayCheckpoint (pages_known : Bool) (number : ℕ) (journal : JournalView) (pages : History) : Type 0 where
  pub usable : TakesGroups journal
  pub last : IsTrue (is_last journal.last number)
  pub synced : IsTrue pages_known → IsAllSynced pages

-- the map of a tree, cut into pages with this number
abbrev pub cut_of_tree : ℕ → Tree → Cut
cut_of_tree number t = cut_of number (data_of (map_of t))

-- whether a checkpoint is made, by the cut of its tree
abbrev pub made_of : Cut → Made
made_of (Pages pages) = Yes
made_of (TooMany count) = No count

-- the journal may be used, from its first gate on and behind this number; its bytes are read as no group, and are synced
pub record IsCleared (is_known : Bool) (number : ℕ) (journal : JournalView) : Type 0 where
  pub usable : TakesGroups journal
  pub last : journal.last ≡ Some number
  pub gate : journal.gate ≡ first_gate
  pub none : IsTrue is_known → read journal.history.now.reads ≡ Ok (only_commits [])
  pub synced : IsTrue is_known → IsAllSynced journal.history

-- a file of pages that holds this tree with this number
abbrev pub HoldsAs : Tree → ℕ → List ℕ → Type 0
HoldsAs t number file = contents_of_file file ≡ Ok (map_of t, number)

-- the tree of this map is in the pages alone, with this number: known pages hold exactly it, and the journal has no group
pub record IsInPages (journal_known pages_known : Bool) (map : Option Entries) (number : ℕ) (journal : JournalView) (file : History) : Type 0 where
  pub cleared : IsCleared journal_known number journal
  pub pages : IsTrue pages_known → (t : Tree) → StandsFor map t → HoldsAs t number file.now.reads

-- ---- what the files stand for

-- two files that stand for this map with this number
abbrev pub OpenAs : Contents → List ℕ → List ℕ → Type 0
OpenAs contents journal pages = contents_of_files journal pages ≡ Ok contents

-- two files that stand for this tree with this number
abbrev pub StandAs : Tree → ℕ → List ℕ → List ℕ → Type 0
StandAs t number journal pages = StandFor journal pages t number

-- the two disks have such files, and all of both is synced: a crash now leaves these
pub record IsSettledAs (t : Tree) (number : ℕ) (pair : Pair) : Type 0 where
  pub stand : StandFor pair.journal.now.reads pair.pages.now.reads t number
  pub journal_synced : IsAllSynced pair.journal
  pub pages_synced : IsAllSynced pair.pages

-- ---- what a crash leaves

-- disks that stand for this map with this number: a crash at any moment from the first states of both to the second leaves files that do
abbrev pub LeaveOpen : Contents → Pair → Pair → Type 0
LeaveOpen contents old new = OpenAs contents old.journal.now.reads old.pages.now.reads → PairsLeave (OpenAs contents) old new

-- known files that stood for the tree of this map with this number, all of both synced: a crash at any moment leaves files that do
abbrev pub LeaveTree : Bool → Bool → Option Entries → ℕ → JournalView → JournalView → History → History → Type 0
LeaveTree journal_known pages_known map number journal journal_now pages pages_now =
    IsTrue journal_known → IsTrue pages_known → (t : Tree) → StandsFor map t → IsSettledAs t number (pair_of journal.history pages)
    → PairsLeave (StandAs t number) (pair_of journal.history pages) (pair_of journal_now.history pages_now)

-- known files that stood for the tree of this map with this number, all of both synced, do so at the end, too
abbrev pub KeepTree : Bool → Bool → Option Entries → ℕ → JournalView → JournalView → History → History → Type 0
KeepTree journal_known pages_known map number journal journal_now pages pages_now =
    IsTrue journal_known → IsTrue pages_known → (t : Tree) → StandsFor map t → IsSettledAs t number (pair_of journal.history pages)
    → IsSettledAs t number (pair_of journal_now.history pages_now)

-- ---- answers after which nothing was written

-- no checkpoint was made, or memory was wanting
abbrev pub IsUnwritten : Result Made SeqError → Type 0
IsUnwritten (Ok Yes) = ⊥
IsUnwritten (Ok (No count)) = Unit {0}
IsUnwritten (Err DiskFault) = ⊥
IsUnwritten (Err NoMemory) = Unit {0}

-- both disks are as they were, and the journal but for its room
pub record SameUnwritten (is_known : Bool) (journal journal_now : JournalView) (pages pages_now : History) : Type 0 where
  pub same_journal : journal_now ≡ record journal { room = journal_now.room }
  pub same_pages : IsTrue is_known → pages_now ≡ pages

-- ---- faults

-- the counts of faults of the journal's disk, of the pages' disk and of the map
pub record Counts : Type 0 where
  pub journal : ℕ
  pub pages : ℕ
  pub map : ℕ

abbrev pub counts_of : ℕ → ℕ → ℕ → Counts
counts_of journal pages map = record { journal = journal; pages = pages; map = map }

-- the counts of a journal, of its pages and of a map, as the disk and the map tell theirs
abbrev pub counts_at : {P S : Type 0} → (P → ℕ) → (S → ℕ) → JournalView → P → S → Counts
counts_at faults count journal pages map = counts_of journal.faults (faults pages) (count map)

-- no count fell; one of them rose where a fault of a disk is answered, and none after Ok
pub record HasOneCause {T : Type 0} (before now : Counts) (result : Result T SeqError) : Type 0 where
  pub later_journal : before.journal ≤ now.journal
  pub later_pages : before.pages ≤ now.pages
  pub later_map : before.map ≤ now.map
  pub fault : result ≡ Err DiskFault → FaultCounted before.journal now.journal ⊎ FaultCounted before.pages now.pages ⊎ FaultCounted before.map now.map
  pub exact : OnOk result (now ≡ before)
