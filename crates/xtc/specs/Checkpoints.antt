-- What a command that makes checkpoints leaves of a store's files (docs/MANUAL.md, "Checkpoints").
use Rattle.std.specs.Prelude.{◌≡◌, ◌&&◌, ◌%◌, ◌+◌, ◌==◌, ℕ, zero, suc, Bool, true, false, not, nat_le, List, length, take, Option, None, Some, unwrap_or, IfSome, Ok, String}
use Rattle.std.specs.declared.alloc.Global.{Global}
use Rattle.tree_model.specs.Tree.{Tree, map_of}
use Rattle.node_pages.specs.Cuts.{cut_of, data_of}
use Rattle.node_pages.specs.PageFiles.{contents_of_file}
use Rattle.journal.specs.Groups.{only_commits}
use Rattle.journal.specs.Journals.{read}
use Rattle.journal.specs.declared.group.Group.{Group}
use Rattle.store_contents.specs.Contents.{goes_on_from, last_of}
use Rattle.checkpoint.specs.Checkpoints.{made_of}
use Rattle.checkpoint.specs.declared.made.Made.{Made}
use Rattle.checkpoint.specs.declared.made.Made.TheVariants.{Yes, No}
use Rattle.call_contract.specs.Books.{Book, commits}
use Rattle.call_contract.specs.SerialRuns.{serial}
use Rattle.session_driver.specs.Asking.{BookCall}
use Rattle.command_words.specs.Commands.{Command, checkpoint_of, command_of, run, workers, gen}
use Rattle.store_calls.specs.StoreCalls.{store_meaning}

-- ---- where one is tried

-- behind how many commits, as the words say it
abbrev pub every_of : Option ℕ → ℕ
every_of words = unwrap_or words 0

abbrev pub is_positive : ℕ → Bool
is_positive zero = false
is_positive (suc n) = true

-- the command tries checkpoints, behind each so many commits
abbrev pub tries : Option Command → ℕ → Bool
tries (Some run) every = is_positive every
tries (Some workers) every = is_positive every
tries (Some (gen seed count)) every = is_positive every
tries command every = false

-- one is tried behind the k-th commit, where that is one of each so many
abbrev pub is_tried : ℕ → ℕ → Bool
is_tried every k = is_positive k && (k % every == 0)

-- of so many commits of a command; workers try one behind the last of these, where they are as many
abbrev pub tried_in : Option Command → ℕ → ℕ → ℕ → Bool
tried_in (Some workers) every all k = (k == all) && nat_le every all
tried_in command every all k = is_tried every k

-- ---- where one is made

abbrev pub is_made : Made → Bool
is_made Yes = true
is_made (No pages) = false

-- the tree fits into the pages of a checkpoint, with this number
abbrev pub fits : Tree → ℕ → Bool
fits t number = is_made (made_of (cut_of number (data_of (map_of t))))

-- the tree after the first k commits of a book
abbrev pub tree_after : Tree → Book BookCall → ℕ → Tree
tree_after t book k = (serial store_meaning (take k (commits book)) t).tree

-- behind this commit, where one was made there, or behind one before
abbrev pub made_or : Bool → ℕ → Option ℕ → Option ℕ
made_or true k before = Some k
made_or false k before = before

-- behind which of the first k commits, counted from 1, the last checkpoint was made, if one was
abbrev pub last_made : (ℕ → Bool) → Tree → ℕ → Book BookCall → ℕ → Option ℕ
last_made tried t n book zero = None
last_made tried t n book (suc k) = made_or (tried (suc k) && fits (tree_after t book (suc k)) (n + suc k)) (suc k) (last_made tried t n book k)

-- of a command that tries them so
abbrev pub last_of_command : Option Command → ℕ → Tree → ℕ → Book BookCall → Option ℕ
last_of_command command every t n book = last_made (tried_in command every (length (commits book))) t n book (length (commits book))

-- ---- what it leaves

-- the pages alone hold the tree after the first m commits, with the number of the last of these
abbrev pub HoldFirst : Tree → ℕ → Book BookCall → ℕ → List ℕ → Type 0
HoldFirst t n book m pages = contents_of_file pages ≡ Ok (map_of (tree_after t book m), n + m)

-- the pages hold the tree after the first m commits, and the journal those behind them
pub record MadeBehind (t : Tree) (n : ℕ) (book : Book BookCall) (journal pages : List ℕ) (m : ℕ) : Type 0 where
  pub hold : HoldFirst t n book m pages
  pub groups : List Group
  pub reads : read journal ≡ Ok (only_commits groups)
  pub goes_on : goes_on_from (Some (n + m)) groups ≡ true
  pub last : last_of groups (n + m) ≡ n + length (commits book)

-- where a command made checkpoints behind the commits of a book, such files are left
abbrev pub AreMade : Option Command → ℕ → Tree → ℕ → Book BookCall → List ℕ → List ℕ → Type 0
AreMade command every t n book journal pages = IfSome (last_of_command command every t n book) (MadeBehind t n book journal pages)

-- ---- damage that comes of it

-- a command may find a page file damaged that it wrote itself: where it tries checkpoints, and nothing is known of the file
abbrev pub may_lose : Option Command → ℕ → Bool → Bool
may_lose command every pages_known = tries command every && not pages_known

-- the command that these words ask for may, by its checkpoints
abbrev pub may_lose_by : List (String Global) → Bool → Bool
may_lose_by words pages_known = may_lose (command_of words) (every_of (checkpoint_of words)) pages_known
