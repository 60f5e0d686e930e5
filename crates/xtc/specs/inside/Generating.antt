-- What the generator's command leaves of both files of a store, by its statuses, and what it writes.
use Rattle.std.specs.Prelude.{◌≡◌, ◌≤◌, ℕ, Bool, false, IsTrue, List, [], ◌++◌, length, Option, Some, Result, Ok, Err}
use Rattle.outside_traits.specs.DiskPairs.{Pair, PairsHave, PairsLeave}
use Rattle.outside_traits.specs.Moments.{History}
use Rattle.outside_traits.specs.declared.disk.Disk.{Ghosts as DiskOf}
use Rattle.tree_model.specs.Entries.{Entries}
use Rattle.tree_model.specs.Tree.{Tree}
use Rattle.node_seq.specs.Trees.{StandsFor}
use Rattle.journal.specs.Views.{JournalView}
use Rattle.checkpoint.specs.Bases.{contents_of}
use Rattle.checkpoint.specs.declared.base.Base.{Base}
use Rattle.call_contract.specs.States.{State, start}
use Rattle.script_runs.specs.Counts.{Counts}
use Rattle.session_driver.specs.Asking.{BookCall}
use Rattle.command_words.specs.Commands.{Command, gen}
use Rattle.session_driver.specs.Lines.{Asked}
use Rattle.tx_core.specs.Cores.{CoreView, opened_over}
use Rattle.xtc.specs.Book.{after_asked}
use Rattle.xtc.specs.Checkpoints.{AreMade, tries}
use Rattle.xtc.specs.Documents.{asks_of, has_documents, stops_at, text_of}
use Rattle.xtc.specs.StoreMachine.{KeptStore}
use Rattle.xtc.specs.TopCall.{AreFirst, IsDocumentEnd, StopsAtRefusal, slack, tx_limit}
use Rattle.xtc.specs.declared.checkpoints.Checkpoints.{Checkpoints}
use Rattle.xtc.specs.declared.checkpoints.DoneOver.{DoneOver}
use Rattle.xtc.specs.declared.status.Status.{Status}
use Rattle.xtc.specs.declared.status.Status.TheVariants.{Done}
use Rattle.xtc.specs.inside.Asking.{AreValidAsks, ToWrite, after}
use Rattle.xtc.specs.inside.Counting.{HoldFirstAsked, HoldOneOf}
use Rattle.xtc.specs.inside.Renewing.{StandFor, kept}
use Rattle.xtc.specs.inside.Working.{counts_beside, files_beside}

-- a store whose core was opened over this base, before anything was asked of it
abbrev pub opened_with : {P : Type 0} → Bool → (P → History) → Base P → ℕ → JournalView → Checkpoints P → KeptStore P
opened_with is_known history base n journal checkpoints = kept (opened_over base (contents_of is_known history base) n tx_limit) journal checkpoints

-- so it is from the tree of this map, where both disks are known and their files stand for it and the number
abbrev pub FromTree : Bool → Bool → Option Entries → ℕ → Pair → (Tree → Type 0) → Type 0
FromTree journal_known pages_known map n files Q = IsTrue journal_known → IsTrue pages_known → (t : Tree) → StandsFor map t → StandFor (start t n tx_limit) files → Q t

-- what a command that reads no input did to both files, by its status
pub record WentOver (s : State BookCall) (c : Command) (old new : Pair) (status : Status) : Type 0 where
  pub answered : List (Asked BookCall)
  pub more : List (Asked BookCall)
  pub first : AreFirst (answered ++ more) (asks_of c s [])
  pub few : length more ≤ slack status
  pub valid : AreValidAsks (answered ++ more)
  pub stops : StopsAtRefusal (stops_at c) s (answered ++ more)
  pub end : IsDocumentEnd c s [] status (answered ++ more)
  pub moments : PairsLeave (HoldFirstAsked s (answered ++ more)) old new
  pub left : PairsHave (HoldOneOf (after s answered) (after s (answered ++ more))) new

-- it went to its end, and this text is to be written; where it makes checkpoints, the files are left as these make them
pub record HasTextOver (t : Tree) (n : ℕ) (c : Command) (every : ℕ) (old new : Pair) (text : List ℕ) : Type 0 where
  pub went : WentOver (start t n tx_limit) c old new Done
  pub shown : text ≡ text_of c (start t n tx_limit) (went.answered ++ went.more)
  pub made : IsTrue (tries (Some c) every) → AreMade (Some c) every t n (after_asked (start t n tx_limit) (went.answered ++ went.more)).book new.journal.now.reads new.pages.now.reads

-- or it stopped
abbrev pub DoneOverFiles : {T : Type 0} → Tree → ℕ → Command → ℕ → Pair → Pair → (T → List ℕ) → Result T Status → Type 0
DoneOverFiles t n c every old new bytes (Ok text) = HasTextOver t n c every old new (bytes text)
DoneOverFiles t n c every old new bytes (Err status) = WentOver (start t n tx_limit) c old new status

-- the files: that of the journal, and the pages of what a command has handed out
abbrev pub files_behind : {P : Type 0} → (P → History) → JournalView → DoneOver P → Pair
files_behind history journal done = files_beside history journal done.base done.checkpoints

-- and the counts of their disks' faults
abbrev pub counts_behind : {P : Type 0} → (P → ℕ) → JournalView → DoneOver P → Counts
counts_behind faults journal done = counts_beside faults journal done.base done.checkpoints

-- the generator's command was done over a base, from its tree, and has handed out `done`
abbrev pub GeneratesOver : {J P : Type 0} → DiskOf J → DiskOf P → (seed count : ℕ) → Base P → ℕ → Checkpoints P → (journal journal_now : JournalView) → DoneOver P → Type 0
GeneratesOver j p seed count base n k journal journal_now done = FromTree j.is_known p.is_known (contents_of p.is_known p.history base) n (files_beside p.history journal base k)
    (λ t. DoneOverFiles t n (gen seed count) k.every (files_beside p.history journal base k) (files_behind p.history journal_now done) (λ text. text.items) done.text)

-- the same from a tree without documents
abbrev pub GeneratesIn : {J P : Type 0} → DiskOf J → DiskOf P → (seed count : ℕ) → Base P → ℕ → Checkpoints P → (journal journal_now : JournalView) → DoneOver P → Type 0
GeneratesIn j p seed count base n k journal journal_now done = FromTree j.is_known p.is_known (contents_of p.is_known p.history base) n (files_beside p.history journal base k)
    (λ t. has_documents t ≡ false → DoneOverFiles t n (gen seed count) k.every (files_beside p.history journal base k) (files_behind p.history journal_now done) (λ text. text.items) done.text)

-- the same over the base of a core
abbrev pub RunsGenerated : {J P : Type 0} → DiskOf J → DiskOf P → (seed count : ℕ) → (core core_now : CoreView BookCall (Base P)) → (journal journal_now : JournalView)
    → (k k_now : Checkpoints P) → ToWrite → Type 0
RunsGenerated j p seed count core core_now journal journal_now k k_now result =
    GeneratesIn j p seed count core.base core.number k journal journal_now (record { text = result; base = core_now.base; checkpoints = k_now })
