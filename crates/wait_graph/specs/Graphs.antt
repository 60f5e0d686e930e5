-- Who waits with which request, and so for whom: the wait-for graph (docs/PROFILE.md, "Holding and waiting").
use Rattle.std.specs.Prelude.{ℕ, Bool, false, ◌==◌, cond, List, Option, Some, None, is_some}
use Rattle.std.specs.BTreeMap.{is_at}
use Rattle.std.specs.Map.{lookup}
use Rattle.std.specs.Ordering.{nat_cmp}
use Rattle.lock_resources.specs.declared.request.Request.{Request}
use Rattle.lock_table.specs.Tables.{Table, bars}
use Rattle.wait_cycles.specs.Cycles.{HasNone, HasNoneThrough, IsCycleThrough}

-- for each owner that has a place the request with which it waits, if it does, in the order of owners
abbrev pub Graph : Type 0
Graph = List (ℕ × Option Request)

-- the request in a place, if there is one
abbrev pub request_in : Option (Option Request) → Option Request
request_in None = None
request_in (Some q) = q

-- the place of an owner
abbrev pub place : Graph → ℕ → Option (Option Request)
place g o = lookup (is_at (nat_cmp o)) g

-- the request with which an owner waits
abbrev pub waits : Graph → ℕ → Option Request
waits g o = request_in (place g o)

-- whether an owner has a place
abbrev pub has_place : Graph → ℕ → Bool
has_place g o = is_some (place g o)

-- whether an owner that waits with this waits for the other: the other holds an incompatible mode there
abbrev pub asks : Table → ℕ → Option Request → ℕ → Bool
asks t s None u = false
asks t s (Some q) u = bars t s q u

-- whether the first owner waits for the second, by what each waits with and by what each holds
abbrev pub waits_for : (ℕ → Option Request) → Table → ℕ → ℕ → Bool
waits_for w t s u = asks t s (w s) u

-- as before, but this owner waits with this request
abbrev pub with_request : (ℕ → Option Request) → ℕ → Option Request → ℕ → Option Request
with_request w owner q o = cond (owner == o) q (w o)

-- waiting for the request closes no cycle
abbrev pub ClosesNone : Graph → ℕ → Request → Table → Type 0
ClosesNone g owner q t = HasNoneThrough (waits_for (with_request (waits g) owner (Some q)) t) owner

-- the cycle that is shown where waiting for the request would close one: a shortest one, and of these the least; or none
abbrev pub IsClosedCycle : Graph → ℕ → Request → Table → Option (List ℕ) → Type 0
IsClosedCycle g owner q t = IsCycleThrough (waits_for (with_request (waits g) owner (Some q)) t) owner

-- the owners that wait form no cycle
abbrev pub HasNoCycle : Graph → Table → Type 0
HasNoCycle g t = HasNone (waits_for (waits g) t)

-- where they form none while this is held, they form none while that is
abbrev pub KeepsNoCycle : Graph → Table → Table → Type 0
KeepsNoCycle g t u = HasNoCycle g t → HasNoCycle g u
