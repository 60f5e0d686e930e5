-- The steps of a checkpoint under a core.
use Rattle.std.specs.Prelude.{◌≡◌, ◌≤◌, ℕ, Bool, false, IsTrue, List, Result, Ok, Err, is_some, IfErr, OnOk}
use Rattle.outside_traits.specs.DiskPairs.{pair_of}
use Rattle.outside_traits.specs.Faults.{FaultCounted}
use Rattle.outside_traits.specs.Moments.{History}
use Rattle.tree_model.specs.Tree.{Tree, map_of}
use Rattle.tree_model.specs.ValidTrees.{IsValidTree}
use Rattle.node_records.specs.declared.open_error.OpenError.TheVariants.{DiskFault}
use Rattle.node_pages.specs.PageFiles.{contents_of_file}
use Rattle.journal.specs.Views.{JournalView}
use Rattle.call_contract.specs.Calls.{CallMeaning}
use Rattle.tx_core.specs.Cores.{CoreView, over, with_committed}
use Rattle.checkpoint.specs.Bases.{count_of, is_paged}
use Rattle.checkpoint.specs.Checkpoints.{LeaveOpen}
use Rattle.checkpoint.specs.Renewals.{InKnownState, pages_left}
use Rattle.checkpoint.specs.declared.base.Base.{Base}
use Rattle.checkpoint.specs.declared.renew_fault.RenewFault.{RenewFault}
use Rattle.checkpoint.specs.inside.Phases.{stored}

-- a core that was opened over pages lies over a copy, and the copy's count is no more than that of this disk
pub record IsOverCopy {C P : Type 0} (faults : P → ℕ) (core : CoreView C (Base P)) (pages : P) : Type 0 where
  pub opened : IsTrue (is_paged core.opening)
  pub copied : is_paged core.base ≡ false
  pub later : count_of faults core.base ≤ faults pages

-- the core lies over pages again; after an error it is as it was, and the pages' disk is handed out
abbrev pub IsOverAgain : {A C P : Type 0} → CoreView C (Base P) → CoreView C (Base P) → Result A (RenewFault P) → Type 0
IsOverAgain old new (Ok done) = (new ≡ with_committed (over old new.base) new.committed) × IsTrue (is_paged new.base)
IsOverAgain old new (Err refused) = (new ≡ old) × IsTrue (is_some refused.pages)

-- a file of pages holds this valid tree, with some number
pub record HoldsTree (t : Tree) (file : List ℕ) : Type 0 where
  pub valid : IsValidTree t
  pub number : ℕ
  pub hold : contents_of_file file ≡ Ok (map_of t, number)

-- a known journal and these pages, known too, that stand for what a core has committed, with this number: a crash at any moment leaves files that do
abbrev pub LeaveCommitted : {A C P : Type 0} → CallMeaning C → Bool → Bool → (P → History) → ℕ → P → CoreView C (Base P) → CoreView C (Base P) → JournalView → JournalView → Result A (RenewFault P) → Type 0
LeaveCommitted m journal_known pages_known history number pages old new journal journal_now result =
    IsTrue journal_known → InKnownState m pages_known history old (λ s. LeaveOpen (stored s.tree number)
    (pair_of journal.history (history pages)) (pair_of journal_now.history (pages_left history result new.base)))

-- the pages' count didn't fall; it rose where a fault is answered, and is as it was after Ok
pub record HasPagesCause {A P : Type 0} (pages pages_now : ℕ) (result : Result A (RenewFault P)) : Type 0 where
  pub later : pages ≤ pages_now
  pub fault : IfErr result (λ refused. refused.fault ≡ DiskFault → FaultCounted pages pages_now)
  pub exact : OnOk result (pages_now ≡ pages)
