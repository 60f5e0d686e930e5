-- What the steps of a checkpoint under a core answer, and which of the counts rose.
use Rattle.std.proofs.Common.{◌≡◌, ◌≤◌, inr, ℕ, Bool, true≢false, IsTrue, List, Option, Result, Ok, Err, refl, sym, ap, subst, ◌∙◌, le_of_eq, arith}
use Rattle.std.specs.Prelude.{OnOk}
use Rattle.std.specs.Result.{IsErrAnd}
use Rattle.outside_traits.specs.Faults.{FaultCounted, HasCause}
use Rattle.outside_traits.specs.Moments.{History}
use Rattle.node_records.specs.declared.open_error.OpenError.{OpenError}
use Rattle.node_records.specs.declared.open_error.OpenError.TheVariants as errors
use Rattle.node_records.specs.declared.open_error.Place.{Place}
use Rattle.node_seq.specs.declared.node_read.SeqError.{SeqError}
use Rattle.node_seq.specs.declared.node_read.SeqError.TheVariants as seq
use Rattle.tree_model.specs.Entries.{Entries}
use Rattle.tree_model.specs.Tree.{Tree}
use Rattle.paged_seq.specs.PagedFiles.{BreaksPages, HasReason}
use Rattle.tx_core.specs.Cores.{CoreView, over, with_committed}
use Rattle.checkpoint.specs.Bases.{is_paged}
use Rattle.checkpoint.specs.Renewals.{HasDiskCause, pages_left, pages_of}
use Rattle.checkpoint.specs.declared.base.Base.{Base}
use Rattle.checkpoint.specs.declared.base.Base.TheVariants.{Copied}
use Rattle.checkpoint.specs.declared.renew_fault.RenewFault.{RenewFault}
use Rattle.checkpoint.specs.inside.Phases.{HasTwoCauses}
use Rattle.checkpoint.specs.inside.Renewing.{HasPagesCause, HoldsTree}

-- a fault is as an opening says it: never damage
pub never_damage : (fault : SeqError) (said : OpenError) (place : Place) → (fault ≡ seq.DiskFault → said ≡ errors.DiskFault) → (fault ≡ seq.NoMemory → said ≡ errors.NoMemory) → said ≡ errors.Damaged place → ⊥
never_damage seq.DiskFault said place disk memory is = let e = disk refl in cc
never_damage seq.NoMemory said place disk memory is = let e = memory refl in cc

-- and a disk's fault is one
pub was_fault : (fault : SeqError) (said : OpenError) → (fault ≡ seq.NoMemory → said ≡ errors.NoMemory) → said ≡ errors.DiskFault → fault ≡ seq.DiskFault
was_fault seq.DiskFault said memory is = refl
was_fault seq.NoMemory said memory is = let e = memory refl in cc

-- ---- bases

pub copy_not_paged : {P : Type 0} (x : Base P) (es : Entries) (count : ℕ) → x ≡ Copied es count → IsTrue (is_paged x) → ⊥
copy_not_paged x es count is paged = true≢false (sym paged ∙ ap is_paged is)

module _ {C P : Type 0} where
  -- a core over the base that it was given
  pub rebased : (v w : CoreView C (Base P)) (base : Base P) → w ≡ with_committed (over v base) w.committed → w ≡ with_committed (over v w.base) w.committed
  rebased v w base same = same ∙ (λ i. with_committed (over v ((sym same i).base)) w.committed)

  pub base_is : (v w : CoreView C (Base P)) (base : Base P) → w ≡ with_committed (over v base) w.committed → w.base ≡ base
  base_is v w base same = ap (λ (x : CoreView C (Base P)). x.base) same

-- ---- what an answer leaves

module _ {A P : Type 0} where
  pub always : (r : Result A (RenewFault P)) (Q : Type 0) → Q → OnOk r Q
  always (Ok a) Q q = q
  always (Err e) Q q = tt

  -- after Ok the pages lie under the base
  pub under : (history : P → History) (r : Result A (RenewFault P)) (base : Base P) (is_known : Type 0) (now : History) (Q : History → Type 0)
      → (is_known → pages_left history r base ≡ now) → (is_known → Q now) → OnOk r (is_known → Q (pages_of history base))
  under history (Ok a) base is_known now Q same holds = λ known. subst Q (sym (same known)) (holds known)
  under history (Err e) base is_known now Q same holds = tt

-- pages that hold a tree break no rule
pub none_broken : (is_known : Bool) (file : List ℕ) (t : Tree) (cause : Type 0) (fault : OpenError) (place : Place)
    → IsTrue is_known → HoldsTree t file → HasReason (BreaksPages is_known file) cause fault → fault ≡ errors.Damaged place → ⊥
none_broken is_known file t cause (errors.Damaged p) place known holds reason is = let never = sym holds.hold ∙ reason.2 known in cc
none_broken is_known file t cause errors.DiskFault place known holds reason is = cc
none_broken is_known file t cause errors.NoMemory place known holds reason is = cc

-- a fault has been counted
pub counted : (damage : Place → Type 0) (cause : Type 0) (fault : OpenError) → HasReason damage cause fault → fault ≡ errors.DiskFault → cause
counted damage cause (errors.Damaged p) reason is = cc
counted damage cause errors.DiskFault reason is = reason
counted damage cause errors.NoMemory reason is = cc

-- ---- counts

-- a map was read, and answered this
pub map_cause : {T U : Type 0} (r : Result T SeqError) (q : Result U SeqError) (x : SeqError) (a b : ℕ) → IsErrAnd q (λ y. y ≡ x) → r ≡ Err x → HasCause seq.DiskFault a b r → HasCause seq.DiskFault a b q
map_cause r (Ok u) x a b is was cause = absurd is
map_cause r (Err y) x a b is was cause = record {
  later = cause.later;
  failed = λ e. let fault : y ≡ seq.DiskFault = cc in cause.failed (was ∙ (λ i. Err ((sym is ∙ fault) i)));
  exact = tt;
}

-- a copy, which counts no fault, was read behind it
pub copy_cause : {T U : Type 0} (r : Result T SeqError) (q : Result U SeqError) (x : SeqError) (a b : ℕ) → IsErrAnd q (λ y. y ≡ x) → r ≡ Err x → HasCause seq.DiskFault 0 0 r → b ≡ a → HasCause seq.DiskFault a b q
copy_cause r (Ok u) x a b is was cause same = absurd is
copy_cause r (Err y) x a b is was cause same = record {
  later = le_of_eq (sym same);
  failed = λ e. let fault : y ≡ seq.DiskFault = cc in absurd (none_counted (cause.failed (was ∙ (λ i. Err ((sym is ∙ fault) i)))));
  exact = tt;
}
  where
    none_counted : FaultCounted 0 0 → ⊥
    none_counted counted = omega (arith, counted)

module _ {A P : Type 0} where
  -- the disks were written, which stopped with this fault
  pub written_cause : {T : Type 0} (r : Result T SeqError) (fault : SeqError) (said : OpenError) (pages : Option P) (j k p q : ℕ) → r ≡ Err fault → (fault ≡ seq.NoMemory → said ≡ errors.NoMemory)
      → HasTwoCauses seq.DiskFault j k p q r → HasDiskCause {A = A} {P = P} j k p q (Err (record { fault = said; pages = pages }))
  written_cause r fault said pages j k p q is memory two = record {
    later_journal = two.later_journal;
    later_pages = two.later_pages;
    fault = λ e. two.counted (is ∙ (λ i. Err (was_fault fault said memory e i)));
    exact = tt;
  }

  -- they were written, and the pages opened behind it
  pub opened_cause : (r : Result A (RenewFault P)) (j k p q n : ℕ) → k ≡ j → q ≡ p → HasPagesCause q n r → HasDiskCause j k p n r
  opened_cause (Ok a) j k p q n journal pages behind = record {
    later_journal = le_of_eq (sym journal);
    later_pages = le_of_eq (sym pages ∙ sym behind.exact);
    fault = tt;
    exact = (journal, behind.exact ∙ pages);
  }
  opened_cause (Err e) j k p q n journal pages behind = record {
    later_journal = le_of_eq (sym journal);
    later_pages = subst (λ (m : ℕ). m ≤ n) pages behind.later;
    fault = λ is. inr (subst (λ (m : ℕ). FaultCounted m n) pages (behind.fault is));
    exact = tt;
  }
