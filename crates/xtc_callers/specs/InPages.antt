-- What the pages alone hold behind the checkpoints of a command over a new store (docs/MANUAL.md, "Checkpoints").
use Rattle.std.specs.Prelude.{◌≡◌, ◌≤◌, ◌%◌, ℕ, List, length, String}
use Rattle.std.specs.declared.alloc.Global.{Global}
use Rattle.tree_model.specs.Tree.{Tree, empty_tree}
use Rattle.checkpoint.specs.Checkpoints.{HoldsAs, cut_of_tree, made_of}
use Rattle.checkpoint.specs.declared.made.Made.TheVariants.{Yes}
use Rattle.call_contract.specs.Books.{Book, commits}
use Rattle.call_contract.specs.SerialRuns.{serial}
use Rattle.session_driver.specs.Asking.{BookCall}
use Rattle.command_words.specs.Commands.{checkpoint_of}
use Rattle.store_calls.specs.StoreCalls.{store_meaning}
use Rattle.xtc.specs.Checkpoints.{every_of}

-- behind how many commits each the words ask for a checkpoint; 0 where they ask for none
abbrev pub every_in : List (String Global) → ℕ
every_in words = every_of (checkpoint_of words)

-- the tree after a book's commits, run one after the other by one thread from the empty tree on
abbrev pub tree_of_commits : Book BookCall → Tree
tree_of_commits book = (serial store_meaning (commits book) empty_tree).tree

-- where the tree after a book's commits fits into pages, the pages alone hold it, with the number of the last commit
abbrev pub HoldAllThatFits : Book BookCall → (pages : List ℕ) → Type 0
HoldAllThatFits book pages = made_of (cut_of_tree (length (commits book)) (tree_of_commits book)) ≡ Yes → HoldsAs (tree_of_commits book) (length (commits book)) pages

-- so it is where a checkpoint behind each so many commits is due behind the last one
abbrev pub HoldAllWhereDue : (every : ℕ) → Book BookCall → (pages : List ℕ) → Type 0
HoldAllWhereDue every book pages = 1 ≤ every → 1 ≤ length (commits book) → length (commits book) % every ≡ 0 → HoldAllThatFits book pages

-- of workers, who make one behind their last commit, where there are as many
abbrev pub HoldAllOfWorkers : (every : ℕ) → Book BookCall → (pages : List ℕ) → Type 0
HoldAllOfWorkers every book pages = 1 ≤ every → every ≤ length (commits book) → HoldAllThatFits book pages
