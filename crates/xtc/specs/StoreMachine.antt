-- A store's sessions over its two disks as a machine that does the lines of a script.
use Rattle.std.specs.Prelude.{◌≡◌, ◌≤◌, ◌+◌, ℕ, Bool, true, false, not, ◌&&◌, IsTrue, [], ◌++◌, Option, Some, None, IfSome}
use Rattle.outside_traits.specs.DiskPairs.{pair_of}
use Rattle.outside_traits.specs.Moments.{History, IsAllSynced}
use Rattle.tree_model.specs.Entries.{Entries}
use Rattle.tree_model.specs.Tree.{Tree}
use Rattle.node_seq.specs.Trees.{StandsFor}
use Rattle.overlays.specs.Layered.{Stack}
use Rattle.overlays.specs.Views.{contents_after}
use Rattle.paged_seq.specs.PagedFiles.{PagedView}
use Rattle.paged_seq.specs.PagedMaps.{map_of_file}
use Rattle.journal.specs.Views.{JournalView}
use Rattle.checkpoint.specs.Bases.{contents_of, count_of, is_paged}
use Rattle.checkpoint.specs.Renewals.{MayRenew, pages_of as base_pages}
use Rattle.checkpoint.specs.declared.base.Base.{Base}
use Rattle.script_runs.specs.Machine.{Machine}
use Rattle.call_contract.specs.Books.{Book, IsBookFrom}
use Rattle.call_contract.specs.Sessions.{commits_in}
use Rattle.call_contract.specs.States.{State}
use Rattle.session_driver.specs.Asking.{BookCall}
use Rattle.session_driver.specs.Progress.{Progress}
use Rattle.tx_core.specs.Cores.{CoreView}
use Rattle.store_calls.specs.StoreCalls.{IsValidStoreCall, store_meaning}
use Rattle.xtc.specs.Book.{done_by, replies_text, IsValidLine}
use Rattle.durable_sessions.specs.Durable.{HoldState, HoldsAll}
use Rattle.durable_sessions.specs.Standing as standing
use Rattle.xtc.specs.Checkpoints.{HoldFirst, is_positive, is_tried, last_made}
use Rattle.xtc.specs.ScriptLine.{line_of}
use Rattle.xtc.specs.declared.checkpoints.Checkpoints.{Checkpoints}

-- ---- what sessions are laid over

-- the commits of the journal as layers over the pages, whose disk is such a one
abbrev pub Held : Type 0 → Type 0
Held P = Stack (PagedView P)

-- the history of the page file
abbrev pub pages_of : {P : Type 0} → (P → History) → Held P → History
pages_of history held = history held.base.disk

-- the map that pages and layers make together, where the page file is known
abbrev pub told : {P : Type 0} → Bool → (P → History) → Held P → Option Entries
told is_known history held = contents_after held.layers.changes (map_of_file is_known (history held.base.disk).now.reads)

-- a value where it is known
abbrev pub if_known : {A : Type 0} → Bool → A → Option A
if_known true a = Some a
if_known false a = None

-- ---- the store

-- what is kept of a store: the core of its sessions, the journal, and its checkpoints
pub record KeptStore (P : Type 0) : Type 0 where
  pub core : CoreView BookCall (Base P)
  pub journal : JournalView
  pub checkpoints : Checkpoints P

-- the page file: that of the base, or that of the pages which a checkpoint that failed has handed out
abbrev pub file_of : {P : Type 0} → (P → History) → Base P → Option P → History
file_of history base None = base_pages history base
file_of history base (Some pages) = history pages

-- and its count of faults
abbrev pub faults_of : {P : Type 0} → (P → ℕ) → Base P → Option P → ℕ
faults_of faults base None = count_of faults base
faults_of faults base (Some pages) = faults pages

-- the pages are in the base, or were handed out
abbrev pub HasPages : {P : Type 0} → Base P → Option P → Type 0
HasPages base None = IsTrue (is_paged base)
HasPages base (Some pages) = Unit {0}

abbrev pub file_in : {P : Type 0} → (P → History) → KeptStore P → History
file_in history k = file_of history k.core.base k.checkpoints.pages

-- the state that its core stands in
abbrev pub Stands : {P : Type 0} → Bool → (P → History) → CoreView BookCall (Base P) → State BookCall → Type 0
Stands is_known history core s = standing.Stands store_meaning (contents_of is_known history) core s

-- ---- its checkpoints

-- the pages hold what the last checkpoint behind the first k commits has made of them
abbrev pub HoldMade : {P : Type 0} → Bool → (P → History) → CoreView BookCall (Base P) → ℕ → ℕ → Type 0
HoldMade is_known history core every k = IsTrue is_known → IsTrue (is_positive every) → (t : Tree) → StandsFor (contents_of is_known history core.opening) t
    → IfSome (last_made (is_tried every) t core.number core.book k) (λ m. HoldFirst t core.number core.book m (base_pages history core.base).now.reads)

-- behind a line: a checkpoint may be made, and it was looked at whether one is due behind each commit but the last; where the pages are known, the core stands in a state
pub record HasAnswered {P : Type 0} (is_known : Bool) (history : P → History) (k : KeptStore P) : Type 0 where
  pub stands : IsTrue is_known → (s : State BookCall) × Stands is_known history k.core s
  pub may : MayRenew is_known history k.core k.journal
  pub inside : k.checkpoints.pages ≡ None
  pub legal : (t : Tree) → StandsFor (contents_of is_known history k.core.opening) t → IsBookFrom IsValidStoreCall store_meaning t k.core.number k.core.limit k.core.book
  pub opened : k.checkpoints.opened ≡ k.core.number
  pub seen : k.checkpoints.seen ≤ commits_in k.core.book
  pub last : commits_in k.core.book ≤ k.checkpoints.seen + 1
  pub made : HoldMade is_known history k.core k.checkpoints.every k.checkpoints.seen

-- before a line: behind the last one, too
pub record HasRested {P : Type 0} (is_known : Bool) (history : P → History) (k : KeptStore P) : Type 0 where
  pub answered : HasAnswered is_known history k
  pub all : k.checkpoints.seen ≡ commits_in k.core.book

-- ---- the machine

-- a state, the book that has led to it, and what it has begun with: the base and the number of the opening, and how often checkpoints are made
pub record Booked (P : Type 0) : Type 0 where
  pub state : State BookCall
  pub book : Book BookCall
  pub opening : Base P
  pub number : ℕ
  pub every : ℕ

-- before the first entry
abbrev pub begun_at : {P : Type 0} → State BookCall → Base P → ℕ → ℕ → Booked P
begun_at s opening number every = record { state = s; book = []; opening = opening; number = number; every = every }

-- with the entries of what was done
abbrev pub with_done : {P : Type 0} → Booked P → Progress BookCall → Booked P
with_done b done = record b { state = done.state; book = b.book ++ done.book }

-- the store is where the book has led
pub record IsBooked {P : Type 0} (is_known : Bool) (history : P → History) (k : KeptStore P) (b : Booked P) : Type 0 where
  pub stands : Stands is_known history k.core b.state
  pub book : k.core.book ≡ b.book
  pub opening : k.core.opening ≡ b.opening
  pub number : k.core.number ≡ b.number
  pub every : k.checkpoints.every ≡ b.every

-- a crash leaves of each file what a read gives, and they stand for what is committed in the core's state
pub record IsSettledStore {P : Type 0} (is_known : Bool) (history : P → History) (k : KeptStore P) : Type 0 where
  pub pages : IsAllSynced (file_in history k)
  pub holds : (s : State BookCall) → Stands is_known history k.core s → HoldsAll s (file_in history k).now.reads k.journal.history

-- it makes checkpoints, or none
abbrev pub MakesAs : {P : Type 0} → Bool → KeptStore P → Type 0
MakesAs makes k = is_positive k.checkpoints.every ≡ makes

-- Over a journal and pages that are known or not, these with such histories and counts of faults; `makes`: it makes checkpoints.
-- No line writes the pages but by these; and only where nothing is known of them one may find them damaged.
abbrev pub store_machine : {P : Type 0} → Bool → Bool → Bool → (P → History) → (P → ℕ) → Machine (KeptStore P)
store_machine {P} journal_known pages_known makes history faults = record {
  State = Booked P;
  text = λ b n line. replies_text (done_by b.state n (line_of line)).lines;
  next = λ b line. with_done b (done_by b.state 0 (line_of line));
  valid = λ line. IsValidLine (line_of line);
  holds = λ b. HoldState b.state;
  stands = λ k b. IsBooked pages_known history k b;
  usable = λ k. HasRested pages_known history k × MakesAs makes k;
  answered = λ k. HasAnswered pages_known history k × MakesAs makes k;
  settled = λ k. IsSettledStore pages_known history k;
  Fixed = Option History;
  fixed = λ k. if_known (pages_known && not makes) (file_in history k);
  damages = IsTrue makes × (IsTrue pages_known → ⊥);
  is_known = journal_known && pages_known;
  disks = λ k. pair_of k.journal.history (file_in history k);
  faults = λ k. record { journal = k.journal.faults; pages = faults_of faults k.core.base k.checkpoints.pages };
}
