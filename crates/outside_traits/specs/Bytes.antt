-- What a source gave and what a sink took, where their bytes are known (docs/PROFILE.md, "Known or not").
use Rattle.std.specs.Prelude.{◌≡◌, ◌<◌, ℕ, List, ◌++◌, Option}
use Rattle.std.specs.List.{AllByRecursion}
use Rattle.std.specs.Option.{option_map}

-- each number of the list is a byte
abbrev pub IsBytes : List ℕ → Type 0
IsBytes bytes = AllByRecursion (λ b. b < 256) bytes

-- what was left before is these bytes, and then what is left now
abbrev pub Gave : Option (List ℕ) → Option (List ℕ) → List ℕ → Type 0
Gave before now bytes = before ≡ option_map (λ rest. bytes ++ rest) now

-- what is held now is what was held before, and then these bytes
abbrev pub Took : Option (List ℕ) → Option (List ℕ) → List ℕ → Type 0
Took before now bytes = now ≡ option_map (λ held. held ++ bytes) before

-- the sink took the text but for its end `rest`
pub record TookAllBut (before now : Option (List ℕ)) (text rest : List ℕ) : Type 0 where
  pub prefix : List ℕ
  pub took : Took before now prefix
  pub all : prefix ++ rest ≡ text

-- the sink took some prefix of the text
abbrev pub TookPrefix : Option (List ℕ) → Option (List ℕ) → List ℕ → Type 0
TookPrefix before now text = (rest : List ℕ) × TookAllBut before now text rest
