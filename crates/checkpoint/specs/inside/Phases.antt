-- What the phases of a checkpoint leave, by the images that it writes.
use Rattle.std.specs.Prelude.{◌≡◌, ◌≤◌, ◌⊎◌, ℕ, Bool, IsTrue, List, Result, Err, OnOk}
use Rattle.outside_traits.specs.DiskPairs.{PairsLeave, pair_of}
use Rattle.outside_traits.specs.Faults.{FaultCounted}
use Rattle.outside_traits.specs.Moments.{History, IsAllSynced}
use Rattle.page_store.specs.Images.{KeepsOthers}
use Rattle.page_store.specs.Pages.{ArePagesOf}
use Rattle.tree_model.specs.Tree.{Tree, map_of}
use Rattle.tree_model.specs.ValidTrees.{IsValidTree}
use Rattle.node_pages.specs.declared.cut.Cut.TheVariants.{Pages}
use Rattle.journal.specs.declared.group.Images.{Images}
use Rattle.journal.specs.Views.{JournalView}
use Rattle.store_contents.specs.Contents.{Contents, HoldsImages}
use Rattle.checkpoint.specs.Checkpoints.{LeaveOpen, OpenAs, cut_of_tree}

-- these images with this number
abbrev pub numbered_images : ℕ → List (ℕ × List ℕ) → Images
numbered_images number pages = record { number = number; pages = pages }

-- the file has them as its pages, all its other pages as they were, and is synced
pub record HasWritten (images : List (ℕ × List ℕ)) (old new : History) : Type 0 where
  pub pages : ArePagesOf new.now.reads images
  pub others : KeepsOthers images old.now.reads new.now.reads
  pub synced : IsAllSynced new

-- these are the pages of the tree's cut
pub record IsCutOf (t : Tree) (number : ℕ) (cut : List (List ℕ)) : Type 0 where
  pub valid : IsValidTree t
  pub is : cut_of_tree number t ≡ Pages cut

-- the map of a tree, and a number
abbrev pub stored : Tree → ℕ → Contents
stored t number = record { entries = map_of t; number = number }

-- known files that stand for the tree of this cut with its number: a crash at any moment leaves files that do
abbrev pub LeaveCut : Bool → Bool → ℕ → List (List ℕ) → JournalView → JournalView → History → History → Type 0
LeaveCut journal_known pages_known number cut journal journal_now pages pages_now =
    IsTrue journal_known → IsTrue pages_known → (t : Tree) → IsCutOf t number cut
    → LeaveOpen (stored t number) (pair_of journal.history pages) (pair_of journal_now.history pages_now)

-- known files that stand for what their pages hold with these images put in: a crash at any moment leaves files that do
abbrev pub LeaveImages : Bool → Bool → Images → JournalView → JournalView → History → History → Type 0
LeaveImages journal_known pages_known images journal journal_now pages pages_now =
    IsTrue journal_known → IsTrue pages_known → (contents : Contents) → OpenAs contents journal.history.now.reads pages.now.reads
    → HoldsImages pages.now.reads images contents
    → PairsLeave (OpenAs contents) (pair_of journal.history pages) (pair_of journal_now.history pages_now)

-- neither count fell; one of them rose where this error is answered, and none after Ok
pub record HasTwoCauses {T E : Type 0} (fault : E) (journal journal_now pages pages_now : ℕ) (result : Result T E) : Type 0 where
  pub later_journal : journal ≤ journal_now
  pub later_pages : pages ≤ pages_now
  pub counted : result ≡ Err fault → FaultCounted journal journal_now ⊎ FaultCounted pages pages_now
  pub exact : OnOk result ((journal_now ≡ journal) × (pages_now ≡ pages))
