-- What the workers of a script over a new store print, and what they leave (docs/MANUAL.md, "Commands", "Checkpoints"; docs/PROFILE.md, "Workers").
use Rattle.std.specs.Prelude.{◌≡◌, ℕ, List, [], None}
use Rattle.outside_traits.specs.DiskPairs.{PairsHave, pair_of}
use Rattle.outside_traits.specs.Moments.{History}
use Rattle.tree_model.specs.Tree.{empty_tree}
use Rattle.call_contract.specs.Books.{Book, IsBookFrom, IsSerial}
use Rattle.session_driver.specs.Asking.{BookCall}
use Rattle.command_lines.specs.declared.line_reply.LineReply.{LineReply}
use Rattle.store_calls.specs.StoreCalls.{IsValidStoreCall, store_meaning}
use Rattle.workers_text.specs.Entries.{entries_of}
use Rattle.workers_text.specs.Limits.{too_long}
use Rattle.workers_text.specs.Shown.{IsShownBy, lines_in}
use Rattle.xtc.specs.Book.{replies_text}
use Rattle.xtc.specs.TopCall.{tx_limit}
use Rattle.xtc_callers.specs.InPages.{HoldAllOfWorkers}
use Rattle.xtc_callers.specs.NewStores.{StandForCommits}

-- The workers of a script did all its lines over a new store: one book, legal and serial, shows this text of the lines,
-- and the files stand for the tree and number after all its commits.
pub record WorkersDone (every : ℕ) (script text : List ℕ) (journal pages : History) : Type 0 where
  pub within : too_long script ≡ None
  pub book : Book BookCall
  pub legal : IsBookFrom IsValidStoreCall store_meaning empty_tree 0 tx_limit book
  pub serial : IsSerial store_meaning empty_tree 0 tx_limit book
  pub replies : List LineReply
  pub shown : IsShownBy store_meaning empty_tree 0 tx_limit book (lines_in (entries_of script)) replies
  pub answered : text ≡ replies_text replies
  -- as they read and as a crash leaves them
  pub stored : StandForCommits book journal.now.reads pages.now.reads
  pub durable : PairsHave (StandForCommits book) (pair_of journal pages)
  -- with checkpoints, where one is due; without, the page file stays empty
  pub in_pages : HoldAllOfWorkers every book pages.now.reads
  pub unasked : every ≡ 0 → pages.now.reads ≡ []
