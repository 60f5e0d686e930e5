-- Checkpoints under the sessions of a store.
use Rattle.std.specs.Prelude.{◌≡◌, ◌&&◌, ◌%◌, ◌==◌, ℕ, Bool, true, false, IsTrue, nat_le, nat_lt, Option, None, Result, Ok, Err, OnOk}
use Rattle.outside_traits.specs.DiskPairs.{Pair, PairsLeave, pair_of}
use Rattle.outside_traits.specs.Moments.{History, IsAllSynced}
use Rattle.outside_traits.specs.declared.disk.Disk.{Ghosts as DiskOf}
use Rattle.tree_model.specs.Tree.{map_of}
use Rattle.node_pages.specs.PageFiles.{contents_of_file}
use Rattle.node_records.specs.declared.open_error.OpenError.{OpenError}
use Rattle.node_records.specs.declared.open_error.OpenError.TheVariants.{Damaged}
use Rattle.node_records.specs.declared.open_error.Place.{Place}
use Rattle.checkpoint.specs.Bases.{contents_of}
use Rattle.checkpoint.specs.Renewals.{pages_of as base_pages}
use Rattle.checkpoint.specs.declared.base.Base.{Base}
use Rattle.journal.specs.Appends.{groups_in}
use Rattle.journal.specs.Journals.{read}
use Rattle.journal.specs.Views.{JournalView}
use Rattle.script_runs.specs.Counts.{Counts, DisksCountedWhere}
use Rattle.call_contract.specs.Sessions.{commits_in}
use Rattle.call_contract.specs.States.{State}
use Rattle.session_driver.specs.Asking.{BookCall}
use Rattle.durable_sessions.specs.Durable.{HoldState}
use Rattle.tx_core.specs.Cores.{CoreView, over, with_committed}
use Rattle.xtc.specs.Checkpoints.{fits, is_positive}
use Rattle.xtc.specs.StoreMachine.{HasPages, KeptStore, Stands, faults_of, file_in}
use Rattle.xtc.specs.declared.checkpoints.Checkpoints.{Checkpoints}
use Rattle.xtc.specs.inside.Asking.{EachState}

-- one is due behind so many commits
abbrev pub is_due : {P : Type 0} → Checkpoints P → ℕ → Bool
is_due k commits = is_positive k.every && (nat_lt k.seen commits && (commits % k.every == 0))

-- behind the commits of this core
abbrev pub is_due_behind : {P : Type 0} → Checkpoints P → CoreView BookCall (Base P) → Bool
is_due_behind k core = is_due k (commits_in core.book)

-- and at the end of a command, which tries one alone
abbrev pub is_due_at_end : {P : Type 0} → Checkpoints P → ℕ → Bool
is_due_at_end k commits = is_positive k.every && nat_le k.every commits

abbrev pub kept : {P : Type 0} → CoreView BookCall (Base P) → JournalView → Checkpoints P → KeptStore P
kept core journal k = record { core = core; journal = journal; checkpoints = k }

-- the files of such a store, and the faults of their disks
abbrev pub files_of : {P : Type 0} → (P → History) → KeptStore P → Pair
files_of history k = pair_of k.journal.history (file_in history k)

abbrev pub counts_in : {P : Type 0} → (P → ℕ) → KeptStore P → Counts
counts_in faults k = record { journal = k.journal.faults; pages = faults_of faults k.core.base k.checkpoints.pages }

-- a disk of such a store has counted a fault where this is so, and none where it isn't
abbrev pub StoreCounts : {P : Type 0} → (P → ℕ) → Type 0 → KeptStore P → KeptStore P → Type 0
StoreCounts faults this old new = DisksCountedWhere this (counts_in faults old) (counts_in faults new)

-- two files of which a crash leaves what a read gives stand for what is committed in this state
pub record StandFor (s : State BookCall) (files : Pair) : Type 0 where
  pub journal : IsAllSynced files.journal
  pub pages : IsAllSynced files.pages
  pub holds : HoldState s files.journal.now.reads files.pages.now.reads

-- a crash at any moment leaves files that stand for it; at the end, where no error came, both do by themselves
pub record LeftStanding {E : Type 0} (s : State BookCall) (old new : Pair) (result : Result (Unit {0}) E) : Type 0 where
  pub any_moment : PairsLeave (HoldState s) old new
  pub at_end : OnOk result (StandFor s new)

-- so it is from a state in which the core stands, where both disks are known and their files stand for it
abbrev pub FromState : {P : Type 0} → Bool → Bool → (P → History) → KeptStore P → (State BookCall → Type 0) → Type 0
FromState journal_known pages_known history k Q = IsTrue journal_known → IsTrue pages_known → (s : State BookCall) → Stands pages_known history k.core s → StandFor s (files_of history k) → Q s

-- such a store's files go on standing for that state
abbrev pub KeepsStanding : {J P E : Type 0} → DiskOf J → DiskOf P → KeptStore P → KeptStore P → Result (Unit {0}) E → Type 0
KeepsStanding j p old new result = FromState j.is_known p.is_known p.history old (λ s. LeftStanding s (files_of p.history old) (files_of p.history new) result)

-- the pages alone hold what is committed in this state, where the tree fits into those of a checkpoint; else they are as they were
abbrev pub IsMadeAs : Bool → State BookCall → History → History → Type 0
IsMadeAs true s old new = contents_of_file new.now.reads ≡ Ok (map_of s.tree, s.number)
IsMadeAs false s old new = new ≡ old

-- so it is where one was due
abbrev pub IsMadeWhere : Bool → State BookCall → History → History → Type 0
IsMadeWhere due s old new = IsMadeAs (due && fits s.tree s.number) s old new

-- so it is of known pages, from each state that the core stood in
abbrev pub MadeFromEach : {P : Type 0} → DiskOf P → Bool → (core core_now : CoreView BookCall (Base P)) → Type 0
MadeFromEach p due core core_now = IsTrue p.is_known
    → EachState (contents_of p.is_known p.history) core (λ s. IsMadeWhere due s (base_pages p.history core.base) (base_pages p.history core_now.base))

-- where a journal may be used and holds no images, it is read as commits
abbrev pub ReadsGroups : Bool → JournalView → Type 0
ReadsGroups is_known journal = IsTrue is_known → journal.failed ≡ false → journal.has_images ≡ false
    → (read journal.history.now.reads ≡ Ok (groups_in journal.history)) × ((groups_in journal.history).images ≡ None)

-- ---- what stays

-- of the core only the base changes, with what it and the layers make of the committed map, and nothing where none was due
pub record LeftAsBefore {P : Type 0} (due : Bool) (core core_now : CoreView BookCall (Base P)) (journal journal_now : JournalView) (pages pages_now : Option P) : Type 0 where
  pub same_core : core_now ≡ with_committed (over core core_now.base) core_now.committed
  pub none : due ≡ false → (core_now ≡ core) × (journal_now ≡ journal) × (pages_now ≡ pages)
  pub has_pages : HasPages core_now.base pages_now

-- damage is found where one was due, and nothing is known of the pages
abbrev pub DamagedWhere : Bool → Bool → Result (Unit {0}) OpenError → Type 0
DamagedWhere due is_known result = (place : Place) → result ≡ Err (Damaged place) → IsTrue due × (IsTrue is_known → ⊥)
