-- What is said of a journal's disk where its states are known (docs/PROFILE.md, "Known or not").
use Rattle.std.specs.Prelude.{ℕ, Bool, IsTrue, List, ◌++◌, length, take, drop}
use Rattle.outside_traits.specs.Moments.{History}

-- where the disk's states are known, this holds of those before and of those now
abbrev pub WhereKnown : {J : Type 0} → Bool → (J → History) → (History → History → Type 0) → J → J → Type 0
WhereKnown is_known history P old new = IsTrue is_known → P (history old) (history new)

-- the first bytes of a file that were read, and so many more of it behind them
abbrev pub read_on : List ℕ → ℕ → List ℕ → List ℕ
read_on bytes count file = bytes ++ take count (drop (length bytes) file)
