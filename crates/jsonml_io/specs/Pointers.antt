-- JSON pointers (RFC 6901): the way from a value to one inside, a step for each level.
use Rattle.std.specs.Prelude.{ℕ, List, [], ◌∷◌, ◌==◌, if◌then◌else◌}
use Rattle.std.specs.List.{flat_map}
use Rattle.std.specs.Fmt.{decimal}

-- a byte of a member's name: `~` is written `~0`, and `/` is written `~1` (section 3)
abbrev pub escaped_byte : ℕ → List ℕ
escaped_byte b = if b == 126 then 126 ∷ 48 ∷ [] else if b == 47 then 126 ∷ 49 ∷ [] else b ∷ []

abbrev pub escaped : List ℕ → List ℕ
escaped name = flat_map escaped_byte name

-- the step to an object's member
abbrev pub step_to_member : List ℕ → List ℕ
step_to_member name = 47 ∷ escaped name

-- the step to an array's item, counted from 0 (section 4)
abbrev pub step_to_item : ℕ → List ℕ
step_to_item index = 47 ∷ decimal index
