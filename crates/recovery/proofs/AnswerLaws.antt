-- Why a store isn't opened, and what its opening leaves as it was.
use Rattle.std.proofs.Common.{◌≡◌, ◌≤◌, ◌+◌, ℕ, Bool, true, false, List, [], ◌∷◌, ◌++◌, Option, Some, None, Err, IsTrue, if◌then◌else◌, refl, sym, ◌∙◌, ap, subst, arith}
use Rattle.std.proofs.lemmas.Bool.{eq-eqb}
use Rattle.outside_traits.specs.Faults.{FaultCounted}
use Rattle.outside_traits.specs.Moments.{History}
use Rattle.node_records.specs.declared.open_error.OpenError.{OpenError}
use Rattle.node_records.specs.declared.open_error.OpenError.TheVariants.{Damaged, DiskFault, NoMemory}
use Rattle.node_records.specs.declared.open_error.Place.{Place}
use Rattle.node_records.specs.declared.open_error.File.TheVariants.{Journal}
use Rattle.journal.specs.Appends.{last_number}
use Rattle.journal.specs.Groups.{is_next}
use Rattle.journal.specs.Journals.{header, read, is_fresh}
use Rattle.journal.specs.Refusals.{BreaksJournal, HasReason, UnlessFault}
use Rattle.journal.specs.declared.group.Group.{Group}
use Rattle.store_contents.specs.Contents.{place_in, last_of, first_broken}
use Rattle.recovery.specs.Openings.{journal_made}
use Rattle.recovery.specs.inside.Firsts.{IsFirst}

last_same : (groups : List Group) (n : ℕ) → last_number (Some n) groups ≡ Some (last_of groups n)
last_same [] n = refl
last_same (g ∷ groups) n = last_same groups g.number

-- the number behind the last one comes next
pub follows : (groups : List Group) (base : ℕ) → is_next (last_number None groups) (last_of groups base + 1) ≡ true
follows [] base = refl
follows (g ∷ groups) base = ap (λ (o : Option ℕ). is_next o (last_of groups g.number + 1)) (last_same groups g.number) ∙ eq-eqb (last_of groups g.number + 1) (last_of groups g.number + 1) refl

-- one reason by two others
pub reason_then : (A B C : Place → Type 0) (cause more : Type 0) (fault : OpenError) → HasReason A cause fault → HasReason B (Unit {0}) fault
    → ((place : Place) → A place → B place → C place) → (cause → more) → HasReason C more fault
reason_then A B C cause more (Damaged place) a b both rose = both place a b
reason_then A B C cause more DiskFault a b both rose = rose a
reason_then A B C cause more NoMemory a b both rose = tt

pub rose_later : (a b d : ℕ) → a ≤ b → FaultCounted b d → FaultCounted a d
rose_later a b d later rose = omega (arith, later, rose)

pub rose_sooner : (a b d : ℕ) → b ≤ d → FaultCounted a b → FaultCounted a d
rose_sooner a b d later rose = omega (arith, later, rose)

-- the reason of what is answered, by the one that the journal's opening had
pub first_reason : (is_known : Bool) (base : Option ℕ) (t u : History) (a b d : ℕ) (found fault : OpenError) (P : Place → Type 0)
    → ((at : ℕ) → IsTrue is_known → read t.now.reads ≡ Err at → P (place_in Journal (first_broken base t.now.reads at)))
    → IsFirst (IsTrue is_known) base u.now.reads (FaultCounted b d) found fault
    → HasReason (BreaksJournal is_known (read t.now.reads)) (FaultCounted a b) found
    → UnlessFault found (IsTrue is_known → u ≡ t) → a ≤ b → b ≤ d
    → HasReason (λ place. IsTrue is_known → P place) (FaultCounted a d) fault
first_reason is_known base t u a b d (Damaged p) (Damaged q) P is first damaged same before later = λ known.
    subst P (sym (first known ∙ ap (λ (v : History). place_in Journal (first_broken base v.now.reads p.at)) (same known))) (is p.at known (damaged.1 known))
first_reason is_known base t u a b d (Damaged p) DiskFault P is first damaged same before later = rose_later a b d before first
first_reason is_known base t u a b d (Damaged p) NoMemory P is first damaged same before later = absurd first
first_reason is_known base t u a b d DiskFault fault P is first rose same before later =
    subst (λ (f : OpenError). HasReason (λ place. IsTrue is_known → P place) (FaultCounted a d) f) (sym first) (rose_sooner a b d later rose)
first_reason is_known base t u a b d NoMemory fault P is first free same before later =
    subst (λ (f : OpenError). HasReason (λ place. IsTrue is_known → P place) (FaultCounted a d) f) (sym first) tt

-- ---- what an opening leaves as it was

pub unless_of : (P : Type 0) (fault : OpenError) → P → UnlessFault fault P
unless_of P (Damaged place) h = h
unless_of P DiskFault h = tt
unless_of P NoMemory h = h

pub unless_then : (P Q : Type 0) (fault : OpenError) → (P → Q) → UnlessFault fault P → UnlessFault fault Q
unless_then P Q (Damaged place) f h = f h
unless_then P Q DiskFault f h = tt
unless_then P Q NoMemory f h = f h

pub unless_both : (P Q R : Type 0) (fault : OpenError) → (P → Q → R) → UnlessFault fault P → UnlessFault fault Q → UnlessFault fault R
unless_both P Q R (Damaged place) f h g = f h g
unless_both P Q R DiskFault f h g = tt
unless_both P Q R NoMemory f h g = f h g

-- where the journal's own fault was none of the disk, and the one that is answered is none either
pub unless_first : (P : Type 0) (is_known : Type 0) (base : Option ℕ) (journal : List ℕ) (cause : Type 0) (found fault : OpenError)
    → IsFirst is_known base journal cause found fault → UnlessFault found P → UnlessFault fault P
unless_first P is_known base journal cause (Damaged p) fault first h = unless_of P fault h
unless_first P is_known base journal cause DiskFault fault first h = subst (λ (f : OpenError). UnlessFault f P) (sym first) tt
unless_first P is_known base journal cause NoMemory fault first h = unless_of P fault h

pub made_or_same : (t u : History) → (is_fresh t.now.reads ≡ true → u.now.reads ≡ header ++ 0 ∷ []) → (is_fresh t.now.reads ≡ false → u ≡ t) → u.now.reads ≡ journal_made t.now.reads
made_or_same t u fresh same = elim (is_fresh t.now.reads) as (λ (b : Bool). is_fresh t.now.reads ≡ b → u.now.reads ≡ (if b then header ++ 0 ∷ [] else t.now.reads)) [
  | true ↦ λ e. fresh e
  | false ↦ λ e. ap (λ (v : History). v.now.reads) (same e)
] refl
