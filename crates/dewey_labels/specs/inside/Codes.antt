-- Codes within the limits, of which the calls for new labels are put together.
use Rattle.std.specs.Prelude.{ℕ, ◌≤◌, List, IsTrue}
use Rattle.std.specs.List.{AllByRecursion}
use Rattle.dewey_labels.specs.Labels.{greatest, is_code}

-- a code with no division above the greatest
abbrev pub IsCode : List ℕ → Type 0
IsCode c = IsTrue (is_code c) × AllByRecursion (λ d. d ≤ greatest) c
