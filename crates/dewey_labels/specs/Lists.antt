-- Words on lists and numbers of which several crates speak.
use Rattle.std.specs.Prelude.{◌≡◌, ℕ, Bool, true, false, List, [], ◌∷◌, ◌++◌, ◌==◌, Option, Some, None}

-- a list without items
abbrev pub is_empty : {A : Type 0} → List A → Bool
is_empty [] = true
is_empty (x ∷ xs) = false

-- the number 1, where there is a number
abbrev pub is_one : Option ℕ → Bool
is_one None = false
is_one (Some n) = n == 1

-- `new` is `old` with some prefix of `whole` behind it
pub record AppendsPrefix {A : Type 0} (whole old new : List A) : Type 0 where
  pub prefix : List A
  pub rest : List A
  pub cut : whole ≡ prefix ++ rest
  pub put : new ≡ old ++ prefix
