-- Walks along a relation between numbers: each waits for the next.
use Rattle.std.specs.Prelude.{◌≡◌, ℕ, zero, suc, Bool, true, false, not, ◌&&◌, ◌||◌, ◌==◌, nat_lt, List, [], ◌∷◌, Option, Some, None, if◌then◌else◌}
use Rattle.std.specs.List.{AllByRecursion}

-- s waits for the first of these, each for the next, and the last for e
abbrev pub leads : (ℕ → ℕ → Bool) → ℕ → List ℕ → ℕ → Bool
leads R s [] e = R s e
leads R s (u ∷ us) e = R s u && leads R u us e

-- s is one of these
abbrev pub has : ℕ → List ℕ → Bool
has s [] = false
has s (x ∷ xs) = (x == s) || has s xs

-- all of the first list are in the second
abbrev pub all_in : List ℕ → List ℕ → Bool
all_in [] cs = true
all_in (u ∷ us) cs = has u cs && all_in us cs

-- none stands twice
abbrev pub is_distinct : List ℕ → Bool
is_distinct [] = true
is_distinct (x ∷ xs) = not (has x xs) && is_distinct xs

-- the first list is less than the second, of the same length
abbrev pub is_less : List ℕ → List ℕ → Bool
is_less [] vs = false
is_less (u ∷ us) [] = false
is_less (u ∷ us) (v ∷ vs) = nat_lt u v || ((u == v) && is_less us vs)

-- the numbers rise
abbrev pub Rises : List ℕ → Type 0
Rises [] = Unit {0}
Rises (c ∷ cs) = AllByRecursion (λ d. nat_lt c d ≡ true) cs × Rises cs

-- one number before a walk, or else the walk that follows
abbrev pub first_of : ℕ → Option (List ℕ) → Option (List ℕ) → Option (List ℕ)
first_of u None rest = rest
first_of u (Some us) rest = Some (u ∷ us)

-- the walk by the first of these numbers from which one goes on
abbrev pub first_walk : (ℕ → Option (List ℕ)) → List ℕ → Option (List ℕ)
first_walk f [] = None
first_walk f (u ∷ us) = first_of u (f u) (first_walk f us)

-- the least list of k of these numbers by which s leads to e, if there is one
abbrev pub walk : (ℕ → ℕ → Bool) → List ℕ → ℕ → ℕ → ℕ → Option (List ℕ)
walk R cs zero s e = if R s e then Some [] else None
walk R cs (suc k) s e = first_walk (λ u. if R s u then walk R cs k u e else None) cs
