-- Answers that are an error, and which of the counts rose.
use Rattle.std.proofs.Common.{◌≡◌, ◌⊎◌, inl, inr, ℕ, Result, Ok, Err, refl, sym, ◌∙◌, le_refl, arith}
use Rattle.std.specs.Prelude.{IfOk, OnOk}
use Rattle.std.specs.Result.{IsErrAnd}
use Rattle.outside_traits.specs.Faults.{FaultCounted, HasCause}
use Rattle.node_seq.specs.declared.node_read.SeqError.{SeqError}
use Rattle.node_seq.specs.declared.node_read.SeqError.TheVariants.{DiskFault, NoMemory}
use Rattle.checkpoint.specs.Checkpoints.{HasOneCause, IsUnwritten, counts_of}
use Rattle.checkpoint.specs.declared.made.Made.{Made}
use Rattle.checkpoint.specs.inside.Phases.{HasTwoCauses}

-- nothing is said of what isn't answered
pub not_ok : {T : Type 0} (P : T → Type 0) (r : Result T SeqError) (x : SeqError) → IsErrAnd r (λ y. y ≡ x) → IfOk r P
not_ok P (Ok v) x is = absurd is
not_ok P (Err y) x is = tt

pub none_ok : {T : Type 0} (P : Type 0) (r : Result T SeqError) (x : SeqError) → IsErrAnd r (λ y. y ≡ x) → OnOk r P
none_ok P (Ok v) x is = absurd is
none_ok P (Err y) x is = tt

pub never_ok : {T : Type 0} (r : Result T SeqError) (x : SeqError) (v : T) → IsErrAnd r (λ y. y ≡ x) → r ≡ Ok v → ⊥
never_ok (Ok w) x v is e = is
never_ok (Err y) x v is e = cc

-- what isn't written where memory is wanting
pub unwritten_err : (fault : SeqError) (S : Type 0) → (fault ≡ NoMemory → S) → IsUnwritten (Err fault) → S
unwritten_err DiskFault S leads is = absurd is
unwritten_err NoMemory S leads is = leads refl

-- ---- two counts

-- the pages' disk was read, and answered this
pub read_refused : {T U : Type 0} (r : Result T SeqError) (q : Result U SeqError) (x : SeqError) (j a b : ℕ) → IsErrAnd q (λ y. y ≡ x) → r ≡ Err x → HasCause DiskFault a b r → HasTwoCauses DiskFault j j a b q
read_refused r (Ok u) x j a b is was cause = absurd is
read_refused r (Err y) x j a b is was cause = record {
  later_journal = le_refl j;
  later_pages = cause.later;
  counted = λ e. let fault : y ≡ DiskFault = cc in inr (cause.failed (was ∙ (λ i. Err ((sym is ∙ fault) i))));
  exact = tt;
}

-- memory was wanting
pub memory_refused : {U : Type 0} (q : Result U SeqError) (j k a b : ℕ) → IsErrAnd q (λ y. y ≡ NoMemory) → k ≡ j → b ≡ a → HasTwoCauses DiskFault j k a b q
memory_refused (Ok u) j k a b is journal pages = absurd is
memory_refused (Err y) j k a b is journal pages = record {
  later_journal = omega (arith, journal);
  later_pages = omega (arith, pages);
  counted = λ e. let fault : y ≡ DiskFault = cc in cc;
  exact = tt;
}

-- all was written
pub all_written_cause : (j k a b : ℕ) → k ≡ j → b ≡ a → HasTwoCauses {T = Unit {0}} {E = SeqError} DiskFault j k a b (Ok tt)
all_written_cause j k a b journal pages = record {
  later_journal = omega (arith, journal);
  later_pages = omega (arith, pages);
  counted = λ e. cc;
  exact = (journal, pages);
}

-- ---- three counts

-- the map was read, and answered this
pub map_refused : {T : Type 0} (r : Result T SeqError) (q : Result Made SeqError) (x : SeqError) (j p a b : ℕ) → IsErrAnd q (λ y. y ≡ x) → r ≡ Err x → HasCause DiskFault a b r → HasOneCause (counts_of j p a) (counts_of j p b) q
map_refused r (Ok u) x j p a b is was cause = absurd is
map_refused r (Err y) x j p a b is was cause = record {
  later_journal = le_refl j;
  later_pages = le_refl p;
  later_map = cause.later;
  fault = λ e. let fault : y ≡ DiskFault = cc in inr (inr (cause.failed (was ∙ (λ i. Err ((sym is ∙ fault) i)))));
  exact = tt;
}

-- the two disks were written behind it, and answered this
pub disks_refused : {T : Type 0} (r : Result T SeqError) (fault : SeqError) (j k p q a b : ℕ) → r ≡ Err fault → b ≡ a → HasTwoCauses DiskFault j k p q r → HasOneCause {T = Made} (counts_of j p a) (counts_of k q b) (Err fault)
disks_refused r fault j k p q a b is map two = record {
  later_journal = two.later_journal;
  later_pages = two.later_pages;
  later_map = omega (arith, map);
  fault = λ e. let same : fault ≡ DiskFault = cc in either (two.counted (is ∙ (λ i. Err (same i))));
  exact = tt;
}
  where
    either : FaultCounted j k ⊎ FaultCounted p q → FaultCounted j k ⊎ FaultCounted p q ⊎ FaultCounted a b
    either (inl rose) = inl rose
    either (inr rose) = inr (inl rose)

pub none_rose : (made : Made) (j k p q a b : ℕ) → k ≡ j → q ≡ p → b ≡ a → HasOneCause {T = Made} (counts_of j p a) (counts_of k q b) (Ok made)
none_rose made j k p q a b journal pages map = record {
  later_journal = omega (arith, journal);
  later_pages = omega (arith, pages);
  later_map = omega (arith, map);
  fault = λ e. cc;
  exact = (λ i. counts_of (journal i) (pages i) (map i));
}
