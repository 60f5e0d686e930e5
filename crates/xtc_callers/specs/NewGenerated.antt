-- What the generator's script over a new store is answered, and what it leaves (docs/MANUAL.md, "Commands"; docs/PROFILE.md, "The generator").
use Rattle.std.specs.Prelude.{◌≡◌, ℕ, List, [], ◌++◌, Some, String}
use Rattle.std.specs.declared.alloc.Global.{Global}
use Rattle.outside_traits.specs.DiskPairs.{PairsHave, pair_of}
use Rattle.outside_traits.specs.Moments.{History}
use Rattle.tree_model.specs.Tree.{empty_tree}
use Rattle.call_contract.specs.Books.{IsSerial}
use Rattle.session_driver.specs.Asking.{BookCall}
use Rattle.command_words.specs.Commands.{command_of, gen}
use Rattle.durable_sessions.specs.InTurn as turn
use Rattle.durable_sessions.specs.Reasons.{first_reason, limit_of}
use Rattle.durable_sessions.specs.declared.reasons.Reason.{Reason}
use Rattle.session_driver.specs.Lines.{Asked}
use Rattle.session_driver.specs.Progress.{Progress}
use Rattle.store_calls.specs.StoreCalls.{store_meaning}
use Rattle.workload_gen.specs.Scripts.{script}
use Rattle.xtc.specs.Book.{after_asked}
use Rattle.xtc.specs.Generated.{generated, summary_line}
use Rattle.xtc.specs.TopCall.{tx_limit}
use Rattle.xtc_callers.specs.InPages.{HoldAllWhereDue}
use Rattle.xtc_callers.specs.NewStores.{StandForCommits, new_store}

-- so it is where the words are `gen SEED COUNT`
abbrev pub WhereGen : List (String Global) → (ℕ → ℕ → Type 0) → Type 0
WhereGen words Q = (seed count : ℕ) → command_of words ≡ Some (gen seed count) → Q seed count

-- so it is of each reason for which it may be refused
abbrev pub WhereGenForReason : List (String Global) → (ℕ → ℕ → Reason → Type 0) → Type 0
WhereGenForReason words Q = (seed count : ℕ) (why : Reason) → command_of words ≡ Some (gen seed count) → Q seed count why

-- what a generator's script does over a new store
abbrev pub generated_new : (seed count : ℕ) → Progress BookCall
generated_new seed count = after_asked new_store (generated (script seed count))

-- The generator's script was done over a new store: this text is the line of its summary, and the files stand for the tree after its commits.
pub record GenDone (every seed count : ℕ) (text : List ℕ) (journal pages : History) : Type 0 where
  pub answered : text ≡ summary_line new_store seed count
  pub serial : IsSerial store_meaning empty_tree 0 tx_limit (generated_new seed count).book
  -- as they read and as a crash leaves them
  pub stored : StandForCommits (generated_new seed count).book journal.now.reads pages.now.reads
  pub durable : PairsHave (StandForCommits (generated_new seed count).book) (pair_of journal pages)
  -- behind a checkpoint that is due at the end
  pub in_pages : HoldAllWhereDue every (generated_new seed count).book pages.now.reads

-- It was refused: it was done up to the first begin or commit that is refused, and that for this reason. Nothing is written, and all commits before that are there.
pub record GenRefused (seed count : ℕ) (why : Reason) (text : List ℕ) (journal pages : History) : Type 0 where
  pub asked : List (Asked BookCall)
  pub behind : List (Asked BookCall)
  pub of_script : asked ++ behind ≡ generated (script seed count)
  pub refused : first_reason limit_of (after_asked new_store asked).lines ≡ Some why
  pub stops : turn.StopsAtRefusal store_meaning limit_of new_store asked
  pub silent : text ≡ []
  pub stored : StandForCommits (after_asked new_store asked).book journal.now.reads pages.now.reads
  pub durable : PairsHave (StandForCommits (after_asked new_store asked).book) (pair_of journal pages)
