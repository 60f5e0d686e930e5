-- Texts cut between characters.
use Rattle.std.specs.Prelude.{◌≡◌, false, List, ℕ}
use Rattle.tree_model.specs.Texts.{data_before, data_from, is_past}

-- a text that is long enough is cut behind its first characters: what stands before the cut, and behind it
abbrev pub IsCutAt : ℕ → List ℕ → List ℕ → List ℕ → Type 0
IsCutAt characters d before behind = (is_past characters d ≡ false) × (before ≡ data_before characters d) × (behind ≡ data_from characters d)
