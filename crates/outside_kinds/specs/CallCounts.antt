-- Calls that are counted from 1, of which those in a list fail (docs/PROFILE.md, "Kinds in memory").
use Rattle.std.specs.Prelude.{◌≡◌, ℕ, ◌+◌, ◌-◌, ◌^◌, min, List, Bool, true, false, nat_eq, if◌then◌else◌, Result, OnOk, OnErr}
use Rattle.std.specs.List.{list_any}

-- how many calls were made; which are to fail; how many failed; how many of these for running out of memory
pub record CallCount : Type 0 where
  pub calls : ℕ
  pub fails : List ℕ
  pub faults : ℕ
  pub refused : ℕ

-- one more, in 64 bits that stay at their last value
abbrev pub counted : ℕ → ℕ
counted n = min (n + 1) (2 ^ 64 - 1)

-- whether the next call is to fail
abbrev pub fails_next : CallCount → Bool
fails_next c = list_any (λ number. nat_eq number (counted c.calls)) c.fails

-- after a call that was done
abbrev pub done : CallCount → CallCount
done c = record { calls = counted c.calls; fails = c.fails; faults = c.faults; refused = c.refused }

-- after one that the list let fail
abbrev pub failed : CallCount → CallCount
failed c = record { calls = counted c.calls; fails = c.fails; faults = counted c.faults; refused = c.refused }

-- after one that failed for running out of memory
abbrev pub refused : CallCount → CallCount
refused c = record { calls = counted c.calls; fails = c.fails; faults = counted c.faults; refused = counted c.refused }

-- A call fails exactly where the list says so.
pub record FailsAsListed {T E : Type 0} (old new : CallCount) (result : Result T E) : Type 0 where
  pub ok : OnOk result ((fails_next old ≡ false) × (new ≡ done old))
  pub err : OnErr result ((fails_next old ≡ true) × (new ≡ failed old))

-- A call fails where the list says so, and else at most for running out of memory.
pub record FailsAsListedOrRefused {T E : Type 0} (old new : CallCount) (result : Result T E) : Type 0 where
  pub ok : OnOk result ((fails_next old ≡ false) × (new ≡ done old))
  pub err : OnErr result (new ≡ (if fails_next old then failed old else refused old))
