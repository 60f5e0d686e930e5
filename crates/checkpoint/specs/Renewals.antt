-- What a checkpoint under a core leaves of the core, the journal and the pages (docs/FILE_FORMAT.md, "Checkpoints").
use Rattle.std.specs.Prelude.{◌≡◌, ◌≤◌, ◌⊎◌, ℕ, ◌+◌, Bool, not, IsTrue, [], Option, is_none, is_some, option_map, unwrap_or, Result, Ok, Err, IfErr, OnOk}
use Rattle.outside_traits.specs.DiskPairs.{Pair, PairsLeave, pair_of}
use Rattle.outside_traits.specs.Disks.{all_synced}
use Rattle.outside_traits.specs.Faults.{FaultCounted}
use Rattle.outside_traits.specs.Moments.{History, IsAllSynced}
use Rattle.tree_model.specs.Entries.{Entries}
use Rattle.tree_model.specs.Tree.{map_of}
use Rattle.node_records.specs.declared.open_error.OpenError.TheVariants.{Damaged, DiskFault}
use Rattle.node_records.specs.declared.open_error.Place.{Place}
use Rattle.journal.specs.Groups.{is_next}
use Rattle.journal.specs.Views.{JournalView, TakesGroups}
use Rattle.store_contents.specs.Contents.{Contents}
use Rattle.call_contract.specs.Calls.{CallMeaning}
use Rattle.call_contract.specs.Sessions.{commits_in}
use Rattle.call_contract.specs.States.{State}
use Rattle.tx_core.specs.Cores.{CoreView, InState, next_number, over, with_committed}
use Rattle.checkpoint.specs.Bases.{contents_of, count_of, is_paged}
use Rattle.checkpoint.specs.Checkpoints.{HoldsAs, IsCleared, OpenAs}
use Rattle.checkpoint.specs.declared.base.Base.{Base}
use Rattle.checkpoint.specs.declared.base.Base.TheVariants.{Paged, Copied}
use Rattle.checkpoint.specs.declared.made.Made.{Made}
use Rattle.checkpoint.specs.declared.made.Made.TheVariants.{Yes, No}
use Rattle.checkpoint.specs.declared.renew_fault.RenewFault.{RenewFault}

-- ---- what is committed

-- this holds of the state that a core's book has led to, where it was opened over the map of a tree, and its pages are known
abbrev pub InKnownState : {C P : Type 0} → CallMeaning C → Bool → (P → History) → CoreView C (Base P) → (State C → Type 0) → Type 0
InKnownState m is_known history core Q = IsTrue is_known → InState m (contents_of is_known history) core Q

-- the map of what is committed in a state, and the last commit's number
abbrev pub committed_in : {C : Type 0} → State C → Contents
committed_in s = record { entries = map_of s.tree; number = s.number }

-- the number of the last commit
abbrev pub last_number : {C B : Type 0} → CoreView C B → ℕ
last_number core = core.number + commits_in core.book

-- ---- the pages

-- a file that was never written
abbrev pub no_pages : History
no_pages = record { now = all_synced []; past = [] }

-- what becomes of the pages under a base; a copy has none
abbrev pub pages_of : {P : Type 0} → (P → History) → Base P → History
pages_of history (Paged held) = history held.base.disk
pages_of history (Copied seq faults) = no_pages

-- the same of the pages that were handed out, where they were
abbrev pub pages_left : {A P : Type 0} → (P → History) → Result A (RenewFault P) → Base P → History
pages_left history (Ok made) base = pages_of history base
pages_left history (Err refused) base = unwrap_or (option_map history refused.pages) (pages_of history base)

-- their count of faults
abbrev pub faults_left : {A P : Type 0} → (P → ℕ) → Result A (RenewFault P) → Base P → ℕ
faults_left faults (Ok made) base = count_of faults base
faults_left faults (Err refused) base = unwrap_or (option_map faults refused.pages) (count_of faults base)

-- ---- before it, and after it

-- a core lies over pages, as when it was opened; all of these is synced, and the journal takes the core's next commit
pub record MayRenew {C P : Type 0} (is_known : Bool) (history : P → History) (core : CoreView C (Base P)) (journal : JournalView) : Type 0 where
  pub opened : IsTrue (is_paged core.opening)
  pub paged : IsTrue (is_paged core.base)
  pub synced : IsTrue is_known → IsAllSynced (pages_of history core.base)
  pub usable : TakesGroups journal
  pub next : IsTrue (is_next journal.last (next_number core))

-- the two disks stand for this map with this number, and all of both is synced: a crash now leaves these
pub record IsSettledWith (contents : Contents) (pair : Pair) : Type 0 where
  pub opens : OpenAs contents pair.journal.now.reads pair.pages.now.reads
  pub journal_synced : IsAllSynced pair.journal
  pub pages_synced : IsAllSynced pair.pages

-- of a core only the base changes, with what it and the layers make of the committed map; an error hands the pages out exactly where that base is a copy, and after Ok the next checkpoint may come
pub record LeavesCore {A C P : Type 0} (is_known : Bool) (history : P → History) (old new : CoreView C (Base P)) (journal : JournalView) (result : Result A (RenewFault P)) : Type 0 where
  pub state : new ≡ with_committed (over old new.base) new.committed
  pub handed_out : IfErr result (λ refused. is_some refused.pages ≡ not (is_paged new.base))
  pub again : OnOk result (MayRenew is_known history new journal)

-- what a core has committed is in the pages alone, with the last commit's number: known pages hold exactly it, and the journal has no group
pub record IsCommittedInPages {C B : Type 0} (m : CallMeaning C) (contents : B → Option Entries) (core : CoreView C B) (journal_known pages_known : Bool) (journal : JournalView) (file : History) : Type 0 where
  pub cleared : IsCleared journal_known (last_number core) journal
  pub pages : IsTrue pages_known → InState m contents core (λ s. HoldsAs s.tree s.number file.now.reads)

-- what a core had committed before a checkpoint is in the pages alone that it lies over after it
abbrev pub IsMoved : {C P : Type 0} → CallMeaning C → Bool → Bool → (P → History) → CoreView C (Base P) → CoreView C (Base P) → JournalView → Type 0
IsMoved m journal_known pages_known history old new journal =
    IsCommittedInPages m (contents_of pages_known history) old journal_known pages_known journal (pages_of history new.base)

-- where two disks stood for this map with this number, all synced: a crash at any moment leaves files that do, after an error too, and after Ok both do, all synced
pub record StandThroughout {A P : Type 0} (contents : Contents) (result : Result A (RenewFault P)) (old new : Pair) : Type 0 where
  pub phases : IsSettledWith contents old → PairsLeave (OpenAs contents) old new
  pub settled : OnOk result (IsSettledWith contents old → IsSettledWith contents new)

-- known disks stand throughout for what a core has committed: the journal's, and that of the pages under the core, or that were handed out
abbrev pub KeepCommitted : {A C P : Type 0} → CallMeaning C → Bool → Bool → (P → History) → CoreView C (Base P) → CoreView C (Base P) → JournalView → JournalView → Result A (RenewFault P) → Type 0
KeepCommitted m journal_known pages_known history old new journal journal_now result =
    IsTrue journal_known → InKnownState m pages_known history old (λ s. StandThroughout (committed_in s) result
    (pair_of journal.history (pages_of history old.base)) (pair_of journal_now.history (pages_left history result new.base)))

-- no checkpoint was made, or an error came while the core lay over its pages
abbrev pub IsUnbegun : {P : Type 0} → Result Made (RenewFault P) → Type 0
IsUnbegun (Ok Yes) = ⊥
IsUnbegun (Ok (No count)) = Unit {0}
IsUnbegun (Err refused) = IsTrue (is_none refused.pages)

-- ---- why none was made

-- neither count fell; the journal's or the pages' rose where a disk's fault is answered, and none after Ok
pub record HasDiskCause {A P : Type 0} (journal journal_now pages pages_now : ℕ) (result : Result A (RenewFault P)) : Type 0 where
  pub later_journal : journal ≤ journal_now
  pub later_pages : pages ≤ pages_now
  pub fault : IfErr result (λ refused. refused.fault ≡ DiskFault → FaultCounted journal journal_now ⊎ FaultCounted pages pages_now)
  pub exact : OnOk result ((journal_now ≡ journal) × (pages_now ≡ pages))

-- damage is answered where this holds
abbrev pub DamagedOnly : {A P : Type 0} → Result A (RenewFault P) → Type 0 → Type 0
DamagedOnly result Q = IfErr result (λ refused. (place : Place) → refused.fault ≡ Damaged place → Q)
