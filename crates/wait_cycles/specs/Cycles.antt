-- Cycles: lists of numbers, each of which waits for the next and the last for the first.
use Rattle.std.specs.Prelude.{◌≡◌, ◌≤◌, ℕ, zero, suc, Bool, true, false, ◌&&◌, ◌==◌, List, [], ◌∷◌, length, Option, Some, None}
use Rattle.wait_cycles.specs.Walks.{leads, has, is_less, is_distinct, walk}

-- a list of different numbers that begins with s, each of which waits for the next and the last for s
abbrev pub is_cycle : (ℕ → ℕ → Bool) → ℕ → List ℕ → Bool
is_cycle R s [] = false
is_cycle R s (x ∷ us) = (x == s) && (is_distinct (x ∷ us) && leads R x us x)

-- ---- which cycle is shown

-- one list isn't longer than the other, and where it is as long it isn't greater
pub record IsUpTo (vs us : List ℕ) : Type 0 where
  pub short : length vs ≤ length us
  pub least : length us ≡ length vs → is_less us vs ≡ false

-- a shortest cycle through s, and among the shortest the least
pub record IsFirst (R : ℕ → ℕ → Bool) (s : ℕ) (vs : List ℕ) : Type 0 where
  pub cycle : is_cycle R s vs ≡ true
  pub first : (us : List ℕ) → is_cycle R s us ≡ true → IsUpTo vs us

-- no cycle goes through s
abbrev pub HasNoneThrough : (ℕ → ℕ → Bool) → ℕ → Type 0
HasNoneThrough R s = (us : List ℕ) → is_cycle R s us ≡ false

-- there is no cycle
abbrev pub HasNone : (ℕ → ℕ → Bool) → Type 0
HasNone R = (s : ℕ) → HasNoneThrough R s

-- the first cycle through s, or none where there is none
abbrev pub IsCycleThrough : (ℕ → ℕ → Bool) → ℕ → Option (List ℕ) → Type 0
IsCycleThrough R s None = HasNoneThrough R s
IsCycleThrough R s (Some vs) = IsFirst R s vs

-- ---- the same by a search, which computes

-- with s before it, if it was found, or else what follows
abbrev pub closed_by : ℕ → Option (List ℕ) → Option (List ℕ) → Option (List ℕ)
closed_by s None rest = rest
closed_by s (Some us) rest = Some (s ∷ us)

-- the first length, of n from k on, at which a walk leads from s to itself
abbrev pub cycle_from : (ℕ → ℕ → Bool) → List ℕ → ℕ → ℕ → ℕ → Option (List ℕ)
cycle_from R cs zero k s = None
cycle_from R cs (suc n) k s = closed_by s (walk R cs k s s) (cycle_from R cs n (suc k) s)

-- the cycle through s that is shown, where the numbers that wait are among these
abbrev pub shown_cycle : (ℕ → ℕ → Bool) → List ℕ → ℕ → Option (List ℕ)
shown_cycle R cs s = cycle_from R cs (length cs) 1 s

-- whoever waits is among these
abbrev pub AreAmong : (ℕ → ℕ → Bool) → List ℕ → Type 0
AreAmong R cs = (u v : ℕ) → R u v ≡ true → has u cs ≡ true

-- nobody waits for himself
abbrev pub IsIrreflexive : (ℕ → ℕ → Bool) → Type 0
IsIrreflexive R = (u : ℕ) → R u u ≡ false
