-- What a call over a core that isn't answered tells of the counts of faults.
use Rattle.std.proofs.Common.{◌≡◌, ℕ, ◌+◌, ◌≤◌, ◌==◌, Bool, cond, inl, inr, refl, sym, ap, ◌∙◌, arith}
use Rattle.std.proofs.lemmas.Bool.{cases_eq, cases_order, eq-eqb, ne_eqb}
use Rattle.std.specs.Prelude.{Result, Ok, Err}
use Rattle.std.specs.Result.{IsErrAnd}
use Rattle.outside_traits.specs.Faults.{FaultCounted}
use Rattle.script_runs.specs.Counts.{Counts, DisksCountedWhere}
use Rattle.tx_core.specs.declared.errors.CallError.{CallError}
use Rattle.tx_core.specs.declared.errors.CallError.TheVariants as call_error
use Rattle.durable_sessions.specs.declared.halt.Halt.{Halt}
use Rattle.durable_sessions.specs.declared.halt.Halt.TheVariants.{DiskFault, NoMemory}
use Rattle.durable_sessions.specs.InTurn.{stop_of}
use Rattle.durable_sessions.specs.declared.in_turn.Stop.{Stop}
use Rattle.durable_sessions.specs.declared.in_turn.Stop.TheVariants as stop
use Rattle.durable_sessions.specs.inside.Halts.{halt_of}

-- a count that isn't what it was has risen
rose : (before now : ℕ) → before ≤ now → (before ≡ now → ⊥) → FaultCounted before now
rose before now later other = elim (cases_order before now) [
  | inl equal ↦ absurd (other equal)
  | inr (inl below) ↦ omega (arith, below)
  | inr (inr above) ↦ omega (arith, later, above)
]

-- no count moved
pub uncounted : (this : Type 0) (before now : Counts) → now ≡ before → (this → ⊥) → DisksCountedWhere this before now
uncounted this before now same never = record { counted = λ is. absurd (never is); exact = λ _. same }

-- the journal's disk failed
pub journal_counted : (this : Type 0) (before now pages pages_now : ℕ) → this → FaultCounted before now → before ≤ now → pages_now ≡ pages
    → DisksCountedWhere this (record { journal = before; pages = pages }) (record { journal = now; pages = pages_now })
journal_counted this before now pages pages_now is counted later same = record {
  counted = λ _. record { one = inl counted; journal = later; pages = omega (arith, same) };
  exact = λ never. absurd (never is);
}

-- the base failed
base_counted : (this : Type 0) (journal journal_now before now : ℕ) → this → FaultCounted before now → before ≤ now → journal_now ≡ journal
    → DisksCountedWhere this (record { journal = journal; pages = before }) (record { journal = journal_now; pages = now })
base_counted this journal journal_now before now is counted later same = record {
  counted = λ _. record { one = inr counted; journal = omega (arith, same); pages = later };
  exact = λ never. absurd (never is);
}

-- it is told by the count, whatever the error
by_count : (this : Type 0) (h : Halt) (journal journal_now before now : ℕ) → (this → h ≡ DiskFault) → (h ≡ DiskFault → this) → h ≡ cond (before == now) NoMemory DiskFault → journal_now ≡ journal
    → before ≤ now → DisksCountedWhere this (record { journal = journal; pages = before }) (record { journal = journal_now; pages = now })
by_count this h journal journal_now before now out into is same later = elim (cases_eq before now) [
  | inl equal ↦
      let wants : h ≡ NoMemory = is ∙ ap (λ (b : Bool). cond b NoMemory DiskFault) (eq-eqb before now equal) in
      uncounted this _ _ (λ i. record { journal = same i; pages = sym equal i }) (λ it. cc (out it, wants))
  | inr other ↦
      let fails : h ≡ DiskFault = is ∙ ap (λ (b : Bool). cond b NoMemory DiskFault) (ne_eqb before now other) in
      base_counted this journal journal_now before now (into fails) (rose before now later other) later same
]

-- the journal's count is as it was, and of the base's a call tells
pub halted : (this : Type 0) (h : Halt) (e : CallError) (journal journal_now before now : ℕ) → (this → h ≡ DiskFault) → (h ≡ DiskFault → this) → h ≡ halt_of e before now → journal_now ≡ journal
    → (e ≡ call_error.DiskFault → FaultCounted before now) → before ≤ now → DisksCountedWhere this (record { journal = journal; pages = before }) (record { journal = journal_now; pages = now })
halted this h call_error.DiskFault journal journal_now before now out into is same failed later = base_counted this journal journal_now before now (into is) (failed refl) later same
halted this h (call_error.Session why) journal journal_now before now out into is same failed later = by_count this h journal journal_now before now out into is same later
halted this h call_error.NoMemory journal journal_now before now out into is same failed later = by_count this h journal journal_now before now out into is same later

-- ---- why no more is asked

abbrev halted_as : (U : Type 0) → Halt → Result U Halt
halted_as U h = Err h

-- the count says of the one error what it says of the other
pub stop_counts : {T U : Type 0} (r : Result T Stop) (h : Halt) (before now : Counts) → IsErrAnd r (λ e. e ≡ stop_of h) → DisksCountedWhere (halted_as U h ≡ Err DiskFault) before now
    → DisksCountedWhere (r ≡ Err stop.DiskFault) before now
stop_counts (Ok x) h before now none c = absurd none
stop_counts (Err e) DiskFault before now told c = record { counted = λ is. c.counted refl; exact = λ no. absurd (no (ap Err told)) }
stop_counts (Err e) NoMemory before now told c = record { counted = λ is. absurd (cc (is, told)); exact = λ no. c.exact (λ is. cc) }
