-- Numbers among the words (docs/MANUAL.md, "Words").
use Rattle.std.specs.Prelude.{◌&&◌, ◌*◌, ◌+◌, ◌-◌, ℕ, Bool, nat_le, [], ◌∷◌, length, if◌then◌else◌, Option, Some, None}
use Rattle.std.specs.List.{list_all}
use Rattle.command_words.specs.Arguments.{Word}

abbrev pub is_digit : ℕ → Bool
is_digit b = nat_le 48 b && nat_le b 57

-- the number that decimal digits write behind those of n
abbrev pub value_behind : ℕ → Word → ℕ
value_behind n [] = n
value_behind n (b ∷ rest) = value_behind (n * 10 + (b - 48)) rest

-- 1 to 10 decimal digits
abbrev pub is_number : Word → Bool
is_number w = nat_le 1 (length w) && nat_le (length w) 10 && list_all is_digit w

-- the number that the word writes, from `least` to `most`
abbrev pub number_in : ℕ → ℕ → Word → Option ℕ
number_in least most w =
    if is_number w && nat_le least (value_behind 0 w) && nat_le (value_behind 0 w) most then Some (value_behind 0 w) else None
