-- The tree that two files stand for, and what a crash keeps of it (docs/FILE_FORMAT.md, "Opening").
use Rattle.std.specs.Prelude.{◌≡◌, ℕ, List, Ok}
use Rattle.tree_model.specs.Tree.{Tree, map_of}
use Rattle.tree_model.specs.ValidTrees.{IsValidTree}
use Rattle.outside_traits.specs.CrashImages.{IsImage}
use Rattle.outside_traits.specs.DiskPairs.{Pair, PairsLeave}
use Rattle.store_contents.specs.Contents.{HoldTheSame, contents_of_files}

-- the files stand for this tree, valid, with this number
pub record StandFor (journal pages : List ℕ) (tree : Tree) (number : ℕ) : Type 0 where
  pub is_valid_tree : IsValidTree tree
  pub opens : contents_of_files journal pages ≡ Ok (record { entries = map_of tree; number = number })

-- the files stand for exactly one tree, with this number
pub record StandForOne (journal pages : List ℕ) (number : ℕ) : Type 0 where
  pub tree : Tree
  pub stand : StandFor journal pages tree number
  pub alone : (other : Tree) → StandFor journal pages other number → other ≡ tree

-- some pair that a crash then might have left stood for the same
pub record StoodFor (pair : Pair) (journal pages : List ℕ) : Type 0 where
  pub journal_then : List ℕ
  pub pages_then : List ℕ
  pub of_journal : IsImage pair.journal.now journal_then
  pub of_pages : IsImage pair.pages.now pages_then
  pub same : HoldTheSame journal pages journal_then pages_then

-- after each call since old, one that failed too, a crash leaves only what stood for the same then
abbrev pub LeaveWhatStood : Pair → Pair → Type 0
LeaveWhatStood old new = PairsLeave (StoodFor old) old new
