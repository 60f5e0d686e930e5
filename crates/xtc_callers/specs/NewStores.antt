-- What a whole script over a new store is answered, and what it leaves (docs/MANUAL.md, "Transactions"; "Statuses").
use Rattle.std.specs.Prelude.{◌≡◌, ◌≤◌, ℕ, ◌+◌, List, [], ◌++◌, length, take}
use Rattle.outside_kinds.specs.MemoryDisks.{DiskInMemory, history_of}
use Rattle.outside_traits.specs.DiskPairs.{PairsHave, pair_of}
use Rattle.outside_traits.specs.Moments.{History}
use Rattle.tree_model.specs.Tree.{empty_tree}
use Rattle.store_contents.specs.StoredTrees.{StandFor}
use Rattle.script_runs.specs.Lines.{lines_of}
use Rattle.call_contract.specs.Books.{Book, commits}
use Rattle.call_contract.specs.SerialRuns.{serial}
use Rattle.call_contract.specs.States.{State, start}
use Rattle.session_driver.specs.Asking.{BookCall}
use Rattle.session_driver.specs.Progress.{Progress}
use Rattle.store_calls.specs.StoreCalls.{store_meaning}
use Rattle.xtc.specs.Book.{script_of, replies_text}
use Rattle.xtc.specs.TopCall.{IsSound, OpenAfterLines, slack, tx_limit}
use Rattle.xtc.specs.declared.status.Status.{Status}
use Rattle.xtc.specs.declared.status.Status.TheVariants.{Done, LineTooLong, ReadFault}
use Rattle.xtc_callers.specs.InPages.{HoldAllWhereDue}
use Rattle.xtc_callers.specs.declared.new_store.MemRun.{MemRun}

-- the sessions of a new store, at the empty tree
abbrev pub new_store : State BookCall
new_store = start empty_tree 0 tx_limit

-- two files stand for the tree after a book's commits, run one after the other by one thread from the empty tree on, and for their number
abbrev pub StandForCommits : Book BookCall → List ℕ → List ℕ → Type 0
StandForCommits book journal pages = StandFor journal pages (serial store_meaning (commits book) empty_tree).tree (length (commits book))

-- ---- what a run in memory leaves

-- so it is of the text that it wrote, and of the files of its store
abbrev pub OfRun : MemRun → (List ℕ → History → History → Type 0) → Type 0
OfRun run Q = Q run.sink.held (history_of run.journal) (history_of run.pages)

-- the bytes that a read of such a file gives
abbrev pub file_reads : DiskInMemory → List ℕ
file_reads disk = (history_of disk).now.reads

-- ---- by the lines of its script

-- A script was done over a new store: this text is what it was answered, and these are the files now.
-- All of it is said by what the script's lines do to the sessions: the book that they make, and their replies.
pub record ScriptDone (every : ℕ) (script text : List ℕ) (journal pages : History) : Type 0 where
  pub done : Progress BookCall
  -- of the script's lines, in sessions that begin with the empty tree
  pub of_lines : done ≡ script_of new_store (lines_of script)
  pub answered : text ≡ replies_text done.lines
  -- its book is legal and serial, deadlocks are true, aborts leave all else, and nobody waits in vain
  pub sound : IsSound empty_tree 0 tx_limit done
  -- the files stand for the tree after the commits, as they read and as a crash leaves them
  pub stored : StandForCommits done.book journal.now.reads pages.now.reads
  pub durable : PairsHave (StandForCommits done.book) (pair_of journal pages)
  -- behind a checkpoint that is due at the end
  pub in_pages : HoldAllWhereDue every done.book pages.now.reads

-- so it is where each line that was done has its replies written
abbrev pub IfAnswered : Status → Type 0 → Type 0
IfAnswered Done P = P
IfAnswered (LineTooLong n) P = P
IfAnswered ReadFault P = P
IfAnswered status P = Unit {0}

-- A script was begun over a new store, whatever its end: some of its lines were done, and the text is what these were answered, or a prefix of that.
-- The files stand for the tree after the commits of some first lines, with each line that was done; one line more may be committed where the status says so.
pub record ScriptBegun (status : Status) (script text : List ℕ) (journal pages : History) : Type 0 where
  pub lines : List (List ℕ)
  pub behind : List (List ℕ)
  pub of_script : lines_of script ≡ lines ++ behind
  pub done : ℕ
  pub at_most : length lines ≤ done + slack status
  pub unwritten : List ℕ
  pub answered : text ++ unwritten ≡ replies_text (script_of new_store (take done lines)).lines
  pub all_written : IfAnswered status (unwritten ≡ [])
  -- as they read, and as a crash leaves them
  pub stored : OpenAfterLines empty_tree 0 tx_limit done lines journal.now.reads pages.now.reads
  pub durable : PairsHave (OpenAfterLines empty_tree 0 tx_limit done lines) (pair_of journal pages)
