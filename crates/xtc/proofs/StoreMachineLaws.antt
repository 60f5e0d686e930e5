-- What a store's own clauses say of it as a machine.
use Rattle.std.proofs.Common.{◌≡◌, ℕ, List, Bool, true, false, ◌&&◌, IsTrue, inl, inr, refl, ap, subst, sym}
use Rattle.std.specs.Prelude.{Some}
use Rattle.std.proofs.lemmas.Option.{same_Some}
use Rattle.outside_traits.specs.CrashImages.{IsImage}
use Rattle.outside_traits.specs.Disks.{DiskState}
use Rattle.outside_traits.specs.DiskPairs.{PairsLeave}
use Rattle.outside_traits.specs.Moments.{History, IsAllSynced, LeavesOnly}
use Rattle.outside_traits.proofs.ImageLaws.{image-all_synced}
use Rattle.outside_traits.proofs.MomentLaws.{weaker}
use Rattle.outside_traits.proofs.PairLaws.{journal_phase}
use Rattle.script_runs.specs.Counts.{Counts, DisksCountedWhere}
use Rattle.script_runs.specs.Machine.{IsSettled, Machine, HoldsEither as EitherHolds}
use Rattle.call_contract.specs.States.{State}
use Rattle.session_driver.specs.Asking.{BookCall}
use Rattle.checkpoint.specs.Bases.{contents_of}
use Rattle.xtc.specs.StoreMachine.{Booked, KeptStore, Stands, file_in, if_known, store_machine}
use Rattle.xtc.specs.inside.Renewing.{StandFor, files_of}
use Rattle.durable_sessions.specs.Durable.{HoldState, HoldsAll, HoldsEither}
use Rattle.durable_sessions.proofs.InTurnLaws.{image_holds}
use Rattle.durable_sessions.proofs.StandingLaws.{stands_once}
use Rattle.store_calls.specs.StoreCalls.{IsValidStoreCall, store_meaning}
use Rattle.store_calls.proofs.StoreCallLaws.{store_laws}

-- both disks are known, or each of both
pub both_known : (a b : Bool) → IsTrue a → IsTrue b → IsTrue (a && b)
both_known true b p q = q
both_known false b p q = p

pub first_known : (a b : Bool) → IsTrue (a && b) → IsTrue a
first_known true b h = refl
first_known false b h = h

pub second_known : (a b : Bool) → IsTrue (a && b) → IsTrue b
second_known true b h = h
second_known false b h = absurd cc

-- what is the same where it is known
pub known_same : {A : Type 0} (is_known : Bool) (x y : A) → (IsTrue is_known → x ≡ y) → if_known is_known x ≡ if_known is_known y
known_same true x y same = ap Some (same refl)
known_same false x y same = refl

pub same_known : {A : Type 0} (is_known : Bool) (x y : A) → IsTrue is_known → if_known is_known x ≡ if_known is_known y → x ≡ y
same_known true x y known same = same_Some x y same
same_known false x y known same = absurd cc

-- a crash leaves of a file that is all synced what a read gives
pub image_same : (h : History) → IsAllSynced h → (image : List ℕ) → IsImage h.now image → image ≡ h.now.reads
image_same h synced image is = image-all_synced h.now.reads image (subst (λ (d : DiskState). IsImage d image) synced is)

-- two such files stand for what is committed, and so do their images
pub images_hold : (s : State BookCall) (journal pages : History) → HoldsAll s pages.now.reads journal → IsAllSynced pages → (image beside : List ℕ) → IsImage journal.now image → IsImage pages.now beside → HoldState s image beside
images_hold s journal pages settled synced image beside of_journal of_pages =
    subst (HoldState s image) (sym (image_same pages synced beside of_pages)) (image_holds s pages.now.reads journal settled image of_journal)

-- a fault is counted for one thing as for another
pub counted_out : {There Here : Type 0} (before now : Counts) → DisksCountedWhere There before now → (Here → There) → ((Here → ⊥) → There → ⊥) → DisksCountedWhere Here before now
counted_out before now c leads apart = record { counted = λ is. c.counted (leads is); exact = λ never. c.exact (apart never) }

module _ {P : Type 0} (journal_known pages_known makes : Bool) (history : P → History) (faults : P → ℕ) where
  abbrev machine : Machine (KeptStore P)
  machine = store_machine journal_known pages_known makes history faults

  -- beside its pages the journal of a settled store stands for what is committed
  pub settled_in : (k : KeptStore P) (b : Booked P) → Stands pages_known history k.core b.state → IsSettled machine k b → HoldsAll b.state (file_in history k).now.reads k.journal.history
  settled_in k b stands settled = settled.kept.holds b.state stands

  pub settled_out : (k : KeptStore P) (b : Booked P) → IsTrue (journal_known && pages_known) → Stands pages_known history k.core b.state → HoldsAll b.state (file_in history k).now.reads k.journal.history
      → IsAllSynced (file_in history k) → IsSettled machine k b
  settled_out k b known stands settled synced = record {
    is_known = known;
    kept = record {
      pages = synced;
      holds = λ u other. subst (λ (x : State BookCall). HoldsAll x (file_in history k).now.reads k.journal.history)
          (stands_once IsValidStoreCall store_meaning store_laws (contents_of pages_known history) k.core b.state u stands other) settled;
    };
    holds = images_hold b.state k.journal.history (file_in history k) settled synced;
  }

  -- a settled store is two files that stand for its state, and the other way
  pub standing_of : (k : KeptStore P) (b : Booked P) → Stands pages_known history k.core b.state → IsSettled machine k b → StandFor b.state (files_of history k)
  standing_of k b stands settled =
      let holds : HoldsAll b.state (file_in history k).now.reads k.journal.history = settled_in k b stands settled in
      record { journal = holds.synced; pages = settled.kept.pages; holds = holds.holds }

  pub settled_of : (k : KeptStore P) (b : Booked P) → IsTrue (journal_known && pages_known) → Stands pages_known history k.core b.state → StandFor b.state (files_of history k) → IsSettled machine k b
  settled_of k b known stands files = settled_out k b known stands (record { synced = files.journal; holds = files.holds }) files.pages

  pub moments_out : (b c : Booked P) (old new : KeptStore P) → file_in history new ≡ file_in history old → IsAllSynced (file_in history old)
      → LeavesOnly (HoldsEither b.state c.state (file_in history old).now.reads) old.journal.history new.journal.history → PairsLeave (EitherHolds machine b c) (machine.disks old) (machine.disks new)
  moments_out b c old new still synced run = journal_phase _ _ _ (record {
    leaves = weaker _ _ old.journal.history new.journal.history (λ journal either pages is. both journal pages (image_same (file_in history old) synced pages is) either) run;
    still = still;
  })
    where
      both : (journal pages : List ℕ) → pages ≡ (file_in history old).now.reads → HoldsEither b.state c.state (file_in history old).now.reads journal → EitherHolds machine b c journal pages
      both journal pages same (inl holds) = inl (subst (HoldState b.state journal) (sym same) holds)
      both journal pages same (inr holds) = inr (subst (HoldState c.state journal) (sym same) holds)
