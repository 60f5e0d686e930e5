-- The limits that a tree keeps beside those on divisions (docs/PROFILE.md, "Limits").
use Rattle.std.specs.Prelude.{ℕ, Bool, List, length, nat_lt}

-- the greatest level of a node; the root has level 0 and a document level 1
abbrev pub deepest_level : ℕ
deepest_level = 101

-- the most bytes of a name
abbrev pub most_name_bytes : ℕ
most_name_bytes = 1_024

-- the most bytes of a text's data, and of an attribute's value
abbrev pub most_text_bytes : ℕ
most_text_bytes = 1_048_576

-- data or a value past that limit
abbrev pub is_too_long : List ℕ → Bool
is_too_long d = nat_lt most_text_bytes (length d)
