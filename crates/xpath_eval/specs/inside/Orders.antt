-- Sorted positions without doubles.
use Rattle.std.specs.Prelude.{Bool, false, if◌then◌else◌, List, [], ◌∷◌, reverse}
use Rattle.path_model.specs.Positions.{Position, is_same}

-- a position before others, unless the first of these has its key
abbrev pub put_before : Position → List Position → List Position
put_before n [] = n ∷ []
put_before n (m ∷ ms) = if is_same n m then m ∷ ms else n ∷ m ∷ ms

-- of neighbours with one key the last alone
abbrev pub thinned : List Position → List Position
thinned [] = []
thinned (n ∷ ns) = put_before n (thinned ns)

-- the first position has the key of another one
abbrev pub is_first_same : List Position → Position → Bool
is_first_same [] n = false
is_first_same (m ∷ ms) n = is_same n m

-- the last of those that are kept has the key of the position
abbrev pub is_double : List Position → Position → Bool
is_double ms n = is_first_same (reverse ms) n
