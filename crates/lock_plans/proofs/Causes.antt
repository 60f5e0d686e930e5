-- The cause of a call's answer, behind reads that left the count of faults as it was.
use Rattle.std.proofs.Common.{◌≡◌, ℕ, Result, Ok, Err, IsErrAnd, refl, subst}
use Rattle.std.proofs.Math.Nat.{le_refl}
use Rattle.outside_traits.specs.Faults.{HasCause}
use Rattle.node_seq.specs.declared.node_read.SeqError.{SeqError}
use Rattle.node_seq.specs.declared.node_read.SeqError.TheVariants.{DiskFault, NoMemory}

-- of what the call of the rest answers
pub rest_cause : {A : Type 0} {a b c : ℕ} (r : Result A SeqError) → b ≡ a → HasCause DiskFault b c r → HasCause DiskFault a c r
rest_cause {c = c} r h g = subst (λ (k : ℕ). HasCause DiskFault k c r) h g

-- of a success
pub answer_cause : {A : Type 0} {a b : ℕ} (x : A) → b ≡ a → HasCause DiskFault a b (Ok x)
answer_cause {b = b} x h = rest_cause (Ok x) h (record {
  later = le_refl b;
  failed = λ e. cc;
  exact = refl;
})

-- of one more read's error
pub fault_cause : {A B : Type 0} {a b c : ℕ} {e : SeqError} (r : Result A SeqError) → b ≡ a → HasCause {T = B} DiskFault b c (Err e) → IsErrAnd r (λ d. d ≡ e) → HasCause DiskFault a c r
fault_cause (Ok x) h g q = absurd q
fault_cause (Err d) h g q = rest_cause (Err d) h (record {
  later = g.later;
  failed = λ e. g.failed cc;
  exact = tt;
})

-- where memory runs out
pub memory_cause : {A : Type 0} {a b : ℕ} (r : Result A SeqError) → b ≡ a → IsErrAnd r (λ d. d ≡ NoMemory) → HasCause DiskFault a b r
memory_cause (Ok x) h q = absurd q
memory_cause {A} {b = b} (Err d) h q = rest_cause (Err d) h (record {
  later = le_refl b;
  failed = λ e. absurd (other q e);
  exact = tt;
})
  where
    other : d ≡ NoMemory → ◌≡◌ {A = Result A SeqError} (Err d) (Err DiskFault) → ⊥
    other q e = cc
