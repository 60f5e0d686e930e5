-- Counts of faults in a core's book, and the base's own.
use Rattle.std.proofs.Common.{◌≡◌, ℕ, ◌≤◌, [], ◌∷◌, ◌++◌, arith, Option, None, Some, refl, sym, ap, subst, ◌∙◌}
use Rattle.outside_traits.specs.Faults.{FaultCounted}
use Rattle.call_contract.specs.Books.{Book, FaultsRise, last_fault, fault_in, latest, IsAbove, IsAtMost}
use Rattle.call_contract.specs.declared.events.Noted.{Noted}
use Rattle.call_contract.proofs.Appends.{faults_append}
use Rattle.tx_core.specs.declared.parts.Parts.{Parts}
use Rattle.tx_core.specs.inside.Kept.{CountsFaults}

pub last_fault_append : {C : Type 0} (f : Option ℕ) (b : Book C) (n : Noted C) → last_fault f (b ++ n ∷ []) ≡ latest (last_fault f b) (fault_in n.event)
last_fault_append f [] n = refl
last_fault_append f (x ∷ b) n = last_fault_append (latest f (fault_in x.event)) b n

-- counts that rise above one rise
pub from_any : {C : Type 0} (f : ℕ) (b : Book C) → FaultsRise (Some f) b → FaultsRise None b
from_any f [] is = tt
from_any f (n ∷ ns) is = go (fault_in n.event) (λ rest. from_any f ns rest) is
  where
    go : (x : Option ℕ) → (FaultsRise (Some f) ns → FaultsRise None ns) → (IsAbove (Some f) x × FaultsRise (latest (Some f) x) ns) → IsAbove None x × FaultsRise (latest None x) ns
    go None on is = (tt, on is.1)
    go (Some k) on is = (tt, is.1)

-- what a call's entry tells of faults, by the base's counts before and after the call: nothing, or the count that it came to by one
abbrev pub IsTold : Option ℕ → ℕ → ℕ → Type 0
IsTold None before now = before ≤ now
IsTold (Some f) before now = (f ≡ now) × (before ≤ now) × FaultCounted before now

told_above : (l x : Option ℕ) (before now : ℕ) → IsAtMost l before → IsTold x before now → IsAbove l x
told_above l None before now most told = tt
told_above None (Some f) before now most told = tt
told_above (Some k) (Some f) before now most told = subst (FaultCounted k) (sym told.0) (omega (arith, most, told.2))

told_most : (l x : Option ℕ) (before now : ℕ) → IsAtMost l before → IsTold x before now → IsAtMost (latest l x) now
told_most None None before now most told = tt
told_most (Some k) None before now most told = omega (arith, most, told)
told_most l (Some f) before now most told = omega (arith, told.0)

module _ {C B : Type 0} (count : B → ℕ) (opening : B) where
  -- a further entry
  pub counts_go : (p q : Parts C B) (n : Noted C) → q.book.items ≡ p.book.items ++ n ∷ [] → IsTold (fault_in n.event) (count p.base) (count q.base) → CountsFaults count opening p → CountsFaults count opening q
  counts_go p q n adds told is = record {
    rise = subst (FaultsRise (Some (count opening))) (sym adds)
        (faults_append (Some (count opening)) p.book.items (n ∷ []) is.rise (told_above (last_fault (Some (count opening)) p.book.items) (fault_in n.event) (count p.base) (count q.base) is.counted told, tt));
    counted = subst (λ (l : Option ℕ). IsAtMost l (count q.base)) (sym (ap (last_fault (Some (count opening))) adds ∙ last_fault_append (Some (count opening)) p.book.items n))
        (told_most (last_fault (Some (count opening)) p.book.items) (fault_in n.event) (count p.base) (count q.base) is.counted told);
  }

  -- none
  pub counts_stay : (p q : Parts C B) → q.book.items ≡ p.book.items → count p.base ≤ count q.base → CountsFaults count opening p → CountsFaults count opening q
  counts_stay p q same later is = record {
    rise = subst (FaultsRise (Some (count opening))) (sym same) is.rise;
    counted = subst (λ (b : Book C). IsAtMost (last_fault (Some (count opening)) b) (count q.base)) (sym same)
        (told_most (last_fault (Some (count opening)) p.book.items) None (count p.base) (count q.base) is.counted later);
  }

  -- over the same base
  pub same_count : (p q : Parts C B) → q.base ≡ p.base → count p.base ≤ count q.base
  same_count p q same = omega (arith, ap count same)
