-- How many runs changes are kept in: each is far longer than the next, so they are few.
use Rattle.std.specs.Prelude.{◌*◌, ◌≤◌, List, [], ◌∷◌, length}
use Rattle.std.specs.List.{AllByRecursion}
use Rattle.tree_model.specs.declared.change.Change.{Change}

-- a run has changes
abbrev pub IsFilled : List Change → Type 0
IsFilled run = 1 ≤ length run

-- each run is at least four times as long as the next
abbrev pub FallByFour : List (List Change) → Type 0
FallByFour [] = Unit {0}
FallByFour (r ∷ []) = Unit {0}
FallByFour (r ∷ (s ∷ rs)) = (4 * length s ≤ length r) × FallByFour (s ∷ rs)

-- the runs without the newest
abbrev pub but_newest : List (List Change) → List (List Change)
but_newest [] = []
but_newest (r ∷ []) = []
but_newest (r ∷ (s ∷ rs)) = r ∷ but_newest (s ∷ rs)

-- no run is empty, and each but the newest is at least four times as long as the next of these
pub record AreFew (runs : List (List Change)) : Type 0 where
  pub filled : AllByRecursion IsFilled runs
  pub fall : FallByFour (but_newest runs)
