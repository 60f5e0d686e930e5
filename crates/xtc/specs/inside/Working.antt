-- What a script that is run by workers leaves of a store's files, and what there is to write.
use Rattle.std.specs.Prelude.{◌≡◌, ◌⊎◌, ℕ, Bool, false, IsTrue, List, [], length, Option, Some, None, Result, Ok, Err, IfSome, OnOk}
use Rattle.outside_traits.specs.DiskPairs.{Pair, PairsHave, PairsLeave, pair_of}
use Rattle.outside_traits.specs.Moments.{History, IsAllSynced}
use Rattle.outside_traits.specs.declared.disk.Disk.{Ghosts as DiskOf}
use Rattle.tree_model.specs.Entries.{Entries}
use Rattle.tree_model.specs.Tree.{Tree}
use Rattle.node_seq.specs.Trees.{StandsFor}
use Rattle.journal.specs.Views.{JournalView}
use Rattle.recovery.specs.Openings.{TakesBehind}
use Rattle.script_runs.specs.Counts.{Counts}
use Rattle.call_contract.specs.Books.{Book, IsBookFrom, commits}
use Rattle.call_contract.specs.States.{start}
use Rattle.session_driver.specs.Asking.{BookCall}
use Rattle.command_lines.specs.declared.line_reply.LineReply.{LineReply}
use Rattle.command_words.specs.Commands.{workers}
use Rattle.store_calls.specs.StoreCalls.{IsValidStoreCall, store_meaning}
use Rattle.tx_core.specs.Cores.{CoreView, opened_over}
use Rattle.checkpoint.specs.Bases.{contents_of, is_paged}
use Rattle.checkpoint.specs.Renewals.{pages_of as base_pages}
use Rattle.checkpoint.specs.declared.base.Base.{Base}
use Rattle.workers_text.specs.Shown.{IsShownBy, lines_in}
use Rattle.workers_text.specs.Entries.{entries_of}
use Rattle.workers_text.specs.Limits.{too_long}
use Rattle.group_commit.specs.Journals.{WroteAll}
use Rattle.session_driver.specs.Sessions.{DoesSome}
use Rattle.workers_text.specs.WorkersText.{asked_of, Line}
use Rattle.xtc.specs.Book.{replies_text}
use Rattle.xtc.specs.Checkpoints.{AreMade, is_positive}
use Rattle.xtc.specs.Outside.{Input, Through}
use Rattle.xtc.specs.StoreMachine.{faults_of, file_of}
use Rattle.xtc.specs.TopCall.{OpenAfterCommits, tx_limit}
use Rattle.xtc.specs.declared.checkpoints.Checkpoints.{Checkpoints}
use Rattle.xtc.specs.declared.status.Status.{Status}
use Rattle.xtc.specs.declared.status.Status.TheVariants.{LineTooLong, Damaged, ReadFault, DiskFault, NoMemory}
use Rattle.xtc.specs.declared.workers.WorkedOver.{WorkedOver}
use Rattle.xtc.specs.inside.Asking.{HasReadWhole, IsUnwritten}
use Rattle.xtc.specs.inside.CommandRuns.{HasTree, StandSettled}

-- ---- the store

-- nothing was asked of this core since it was opened
abbrev pub IsNew : {B : Type 0} → (B → Option Entries) → CoreView BookCall B → Type 0
IsNew contents core = core ≡ opened_over core.base (contents core.base) core.number tx_limit

-- the files: that of the journal, and the pages of a base, or those which a checkpoint that failed has handed out
abbrev pub files_beside : {P : Type 0} → (P → History) → JournalView → Base P → Checkpoints P → Pair
files_beside history journal base checkpoints = pair_of journal.history (file_of history base checkpoints.pages)

-- and the counts of their disks' faults
abbrev pub counts_beside : {P : Type 0} → (P → ℕ) → JournalView → Base P → Checkpoints P → Counts
counts_beside faults journal base checkpoints = record { journal = journal.faults; pages = faults_of faults base checkpoints.pages }

-- the files of what workers have handed out
abbrev pub files_left : {J P : Type 0} → (P → History) → WorkedOver J P → Pair
files_left history worked = files_beside history worked.journal worked.base worked.checkpoints

-- and the counts of their disks' faults
abbrev pub counts_left : {J P : Type 0} → (P → ℕ) → WorkedOver J P → Counts
counts_left faults worked = counts_beside faults worked.journal worked.base worked.checkpoints

-- a base was opened at this number, and nothing was written since: all of known pages is synced, the journal takes the first commit, and no checkpoint was tried
pub record IsBegun {P : Type 0} (is_known : Bool) (history : P → History) (base : Base P) (number : ℕ) (journal : JournalView) (checkpoints : Checkpoints P) : Type 0 where
  pub paged : IsTrue (is_paged base)
  pub synced : IsTrue is_known → IsAllSynced (base_pages history base)
  pub takes : TakesBehind journal number
  pub inside : checkpoints.pages ≡ None
  pub opened : checkpoints.opened ≡ number

-- The workers have ended over this core, and all commits of its book are in the journal, which was the first one at the opening; it was opened over the map of a tree.
pub record MayEnd {P : Type 0} (journal_known is_known : Bool) (history : P → History) (first : JournalView) (core : CoreView BookCall (Base P)) (journal : JournalView) (checkpoints : Checkpoints P) : Type 0 where
  pub begun : IsBegun is_known history core.base core.number first checkpoints
  pub opened : IsTrue (is_paged core.opening)
  pub tree : IsTrue is_known → HasTree (contents_of is_known history core.opening)
  pub wrote : WroteAll store_meaning (contents_of is_known history) journal_known first core journal

-- so it is from the tree of this map, where both disks are known, and a crash leaves of their files what a read gives, and these stand for it and the number
abbrev pub FromSettled : {J P : Type 0} → DiskOf J → DiskOf P → Option Entries → ℕ → Pair → (Tree → Type 0) → Type 0
FromSettled j p map n files Q = IsTrue j.is_known → IsTrue p.is_known → (t : Tree) → StandsFor map t → StandSettled files t n → Q t

-- ---- the commits

-- a crash on the way leaves the first of a book's commits, and without checkpoints the pages stay
pub record LeavesCommits (t : Tree) (n every : ℕ) (book : Book BookCall) (old new : Pair) : Type 0 where
  pub moments : PairsLeave (OpenAfterCommits t n 0 book) old new
  pub still : is_positive every ≡ false → new.pages ≡ old.pages

-- a crash leaves all of them, and with checkpoints the pages hold what the last one has made of them
pub record HasCommits (t : Tree) (n every : ℕ) (book : Book BookCall) (files : Pair) : Type 0 where
  pub durable : PairsHave (OpenAfterCommits t n (length (commits book)) book) files
  pub made : IsTrue (is_positive every) → AreMade (Some workers) every t n book files.journal.now.reads files.pages.now.reads

-- so it is of the book of a core that was opened over the map of a tree, with this journal first; and where there is a text a crash leaves all
abbrev pub LeavesBook : {J P : Type 0} → DiskOf J → DiskOf P → JournalView → CoreView BookCall (Base P) → Checkpoints P → WorkedOver J P → Type 0
LeavesBook j p first core k worked = IsTrue j.is_known → IsTrue p.is_known → (t : Tree) → StandsFor (contents_of p.is_known p.history core.opening) t
    → IsBookFrom IsValidStoreCall store_meaning t core.number core.limit core.book → StandSettled (files_beside p.history first core.base k) t core.number
    → LeavesCommits t core.number k.every core.book (files_beside p.history first core.base k) (files_left p.history worked)
    × OnOk worked.text (HasCommits t core.number k.every core.book (files_left p.history worked))

-- ---- the lines

-- the workers did the first of these lines: one book has of each session those that it came to
pub record WorkedSome (t : Tree) (n every : ℕ) (lines : List (Line BookCall)) (old new : Pair) : Type 0 where
  pub book : Book BookCall
  pub legal : IsBookFrom IsValidStoreCall store_meaning t n tx_limit book
  pub did : (s : ℕ) → DoesSome store_meaning s (start t n tx_limit) book (asked_of s lines)
  pub leaves : LeavesCommits t n every book old new

-- they did all of them: one book shows this text, and its commits are durable
pub record WorkedAll (t : Tree) (n every : ℕ) (lines : List (Line BookCall)) (old new : Pair) (bytes : List ℕ) : Type 0 where
  pub book : Book BookCall
  pub legal : IsBookFrom IsValidStoreCall store_meaning t n tx_limit book
  pub text : List LineReply
  pub shows : IsShownBy store_meaning t n tx_limit book lines text
  pub bytes_are : bytes ≡ replies_text text
  pub leaves : LeavesCommits t n every book old new
  pub all : HasCommits t n every book new

-- Known files that stood for the tree and the number at the start: the lines were done, and all is durable.
-- Or a disk failed, or memory was wanting, before the last line was done or behind it.
abbrev pub ScriptDone : {T : Type 0} → Tree → ℕ → ℕ → List (Line BookCall) → Pair → Pair → (T → List ℕ) → Result T Status → Type 0
ScriptDone t n every lines old new bytes (Ok text) = WorkedAll t n every lines old new (bytes text)
ScriptDone t n every lines old new bytes (Err DiskFault) = WorkedSome t n every lines old new
ScriptDone t n every lines old new bytes (Err NoMemory) = WorkedSome t n every lines old new
ScriptDone t n every lines old new bytes (Err status) = ⊥

-- with this input; where it can't be had no line is done. `whole`: that the input was read to its end
abbrev pub InputFailed : Tree → ℕ → ℕ → List ℕ → Type 0 → Pair → Pair → Status → Type 0
InputFailed t n every read whole old new DiskFault = (too_long read ≡ None) × WorkedSome t n every (lines_in (entries_of read)) old new
InputFailed t n every read whole old new NoMemory = (new ≡ old) ⊎ (whole × WorkedSome t n every (lines_in (entries_of read)) old new)
InputFailed t n every read whole old new (LineTooLong line) = (too_long read ≡ Some line) × (new ≡ old)
InputFailed t n every read whole old new ReadFault = (too_long read ≡ None) × (new ≡ old)
InputFailed t n every read whole old new status = ⊥

abbrev pub InputWorked : {T : Type 0} → Tree → ℕ → ℕ → List ℕ → Type 0 → Pair → Pair → (T → List ℕ) → Result T Status → Type 0
InputWorked t n every read whole old new bytes (Ok text) = (too_long read ≡ None) × WorkedAll t n every (lines_in (entries_of read)) old new (bytes text)
InputWorked t n every read whole old new bytes (Err status) = InputFailed t n every read whole old new status

-- workers did these lines over a base, from its tree
abbrev pub WorksOver : {J P : Type 0} → DiskOf J → DiskOf P → List (Line BookCall) → JournalView → Base P → Checkpoints P → ℕ → WorkedOver J P → Type 0
WorksOver j p lines journal base k n worked = FromSettled j p (contents_of p.is_known p.history base) n (files_beside p.history journal base k)
    (λ t. ScriptDone t n k.every lines (files_beside p.history journal base k) (files_left p.history worked) (λ text. text.items) worked.text)

-- they did the lines of the whole input
abbrev pub WorksInput : {J P : Type 0} → DiskOf J → DiskOf P → Through Input → JournalView → Base P → Checkpoints P → ℕ → WorkedOver J P → Type 0
WorksInput j p input journal base k n worked = HasReadWhole input (λ read. FromSettled j p (contents_of p.is_known p.history base) n (files_beside p.history journal base k)
    (λ t. InputWorked t n k.every read (IfSome input.now.left (λ rest. rest ≡ [])) (files_beside p.history journal base k) (files_left p.history worked) (λ text. text.items) worked.text))

-- so it is where lines were done
abbrev pub IfWorked : {T : Type 0} → Result T Status → Type 0 → Type 0
IfWorked (Ok text) P = P
IfWorked (Err DiskFault) P = P
IfWorked (Err status) P = Unit {0}

-- ---- why there is no text

-- why lines that were read aren't done to their end; damage only where a page file may be lost
abbrev pub IsWorkersStop : Bool → Status → Type 0
IsWorkersStop lost DiskFault = Unit {0}
IsWorkersStop lost NoMemory = Unit {0}
IsWorkersStop lost (Damaged place) = IsTrue lost
IsWorkersStop lost status = ⊥

-- why nothing is written
abbrev pub IsWorkersFault : Bool → Status → Type 0
IsWorkersFault lost (Damaged place) = IsTrue lost
IsWorkersFault lost status = IsUnwritten status
