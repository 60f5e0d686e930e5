-- What one step takes off the front of lists.
use Rattle.std.specs.Prelude.{◌≡◌, ◌≤◌, ◌<◌, ℕ, List, [], ◌∷◌, Option, MatchOption}

-- the first of the list and what is left behind it; none where the list is empty
abbrev pub TakesHead : {A : Type 0} → Option A → List A → List A → Type 0
TakesHead first old new = MatchOption first (old ≡ []) (λ a. old ≡ a ∷ new)

-- with one that is taken fewer are left than there were
abbrev pub TakesOff : {A : Type 0} → Option A → ℕ → ℕ → Type 0
TakesOff first old new = MatchOption first (new ≤ old) (λ _. new < old)
