-- What a checkpoint under a store's sessions leaves of its files.
use Rattle.std.proofs.Common.{◌≡◌, Bool, true, refl, ap, subst}
use Rattle.std.specs.Prelude.{Option, None, Some, option_map, unwrap_or, Result, Ok, Err}
use Rattle.outside_traits.specs.DiskPairs.{Pair, PairsLeave}
use Rattle.outside_traits.specs.Moments.{History}
use Rattle.tree_model.specs.Tree.{map_of}
use Rattle.node_records.specs.declared.open_error.OpenError.{OpenError}
use Rattle.node_pages.specs.Cuts.{cut_of, data_of}
use Rattle.node_pages.specs.PageFiles.{contents_of_file}
use Rattle.checkpoint.specs.Bases.{contents_of}
use Rattle.checkpoint.specs.Checkpoints.{OpenAs, made_of}
use Rattle.checkpoint.specs.Renewals.{IsSettledWith, IsUnbegun, committed_in, pages_of}
use Rattle.checkpoint.specs.declared.base.Base.{Base}
use Rattle.checkpoint.specs.declared.made.Made.{Made}
use Rattle.checkpoint.specs.declared.made.Made.TheVariants.{Yes, No}
use Rattle.checkpoint.specs.declared.renew_fault.RenewFault.{RenewFault}
use Rattle.call_contract.specs.States.{State}
use Rattle.session_driver.specs.Asking.{BookCall}
use Rattle.store_calls.specs.StoreCalls.{store_meaning}
use Rattle.tx_core.specs.Cores.{CoreView, InState}
use Rattle.xtc.specs.Checkpoints.{is_made}
use Rattle.xtc.specs.StoreMachine.{Stands, file_of}
use Rattle.xtc.specs.inside.Renewing.{IsMadeAs, IsMadeWhere, LeftStanding, StandFor}

-- the file that a base and pages that were handed out have between them
pub file_left : {P : Type 0} (history : P → History) (base : Base P) (pages : Option P) → unwrap_or (option_map history pages) (pages_of history base) ≡ file_of history base pages
file_left history base None = refl
file_left history base (Some disk) = refl

-- ---- what a crash leaves

module _ {P : Type 0} (is_known : Bool) (history : P → History) (core : CoreView BookCall (Base P)) (s : State BookCall) (stands : Stands is_known history core s) where
  -- what holds of the state that a book has led to holds of that in which the core stands
  pub in_state : (Q : State BookCall → Type 0) → InState store_meaning (contents_of is_known history) core Q → Q s
  in_state Q holds = subst Q stands.state (holds stands.tree stands.opened)

  module _ (old new : Pair) (phases : InState store_meaning (contents_of is_known history) core (λ x. IsSettledWith (committed_in x) old → PairsLeave (OpenAs (committed_in x)) old new)) (files : StandFor s old) where
    settled : IsSettledWith (committed_in s) old
    settled = record { opens = files.holds; journal_synced = files.journal; pages_synced = files.pages }

    moments : PairsLeave (OpenAs (committed_in s)) old new
    moments = in_state (λ x. IsSettledWith (committed_in x) old → PairsLeave (OpenAs (committed_in x)) old new) phases settled

    -- after Ok, and after an error
    pub left_standing : InState store_meaning (contents_of is_known history) core (λ x. IsSettledWith (committed_in x) old → IsSettledWith (committed_in x) new) → LeftStanding {E = OpenError} s old new (Ok tt)
    left_standing at_end =
        let now : IsSettledWith (committed_in s) new = in_state (λ x. IsSettledWith (committed_in x) old → IsSettledWith (committed_in x) new) at_end settled in
        record { any_moment = moments; at_end = record { journal = now.journal_synced; pages = now.pages_synced; holds = now.opens } }

    pub left_by_error : (e : OpenError) → LeftStanding s old new (Err e)
    left_by_error e = record { any_moment = moments; at_end = tt }

  -- where one was due the pages are what it has made of them
  pub made_there : (old new : History) (made : Made) → InState store_meaning (contents_of is_known history) core (λ x. made ≡ made_of (cut_of x.number (data_of (map_of x.tree))))
      → (◌≡◌ {A = Result Made (RenewFault P)} (Ok made) (Ok Yes) → InState store_meaning (contents_of is_known history) core (λ x. contents_of_file new.now.reads ≡ Ok (map_of x.tree, x.number)))
      → (IsUnbegun {P = P} (Ok made) → new ≡ old) → IsMadeWhere true s old new
  made_there old new Yes is pages same =
      subst (λ (b : Bool). IsMadeAs b s old new) (ap is_made (in_state (λ x. Yes ≡ made_of (cut_of x.number (data_of (map_of x.tree)))) is))
      (in_state (λ x. contents_of_file new.now.reads ≡ Ok (map_of x.tree, x.number)) (pages refl))
  made_there old new (No count) is pages same =
      subst (λ (b : Bool). IsMadeAs b s old new) (ap is_made (in_state (λ x. No count ≡ made_of (cut_of x.number (data_of (map_of x.tree)))) is)) (same tt)
