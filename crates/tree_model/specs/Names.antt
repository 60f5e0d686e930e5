-- Names of elements, attributes and documents (XML 1.0, fifth edition, section 2.3: NameStartChar, NameChar, Name), and how long they may be.
use Rattle.std.specs.Prelude.{ℕ, Bool, false, ◌&&◌, ◌||◌, List, [], ◌∷◌, length, nat_le}
use Rattle.std.specs.List.{list_all, list_any}
use Rattle.std.specs.Str.{chars, is_utf8}
use Rattle.tree_model.specs.Limits.{most_name_bytes}

-- a name as contracts see it: its bytes in UTF-8
abbrev pub Name : Type 0
Name = List ℕ

-- the first and the last character of each range of NameStartChar
abbrev pub start_ranges : List (ℕ × ℕ)
start_ranges =
    (0x3A, 0x3A)
    ∷ (0x41, 0x5A)
    ∷ (0x5F, 0x5F)
    ∷ (0x61, 0x7A)
    ∷ (0xC0, 0xD6)
    ∷ (0xD8, 0xF6)
    ∷ (0xF8, 0x2FF)
    ∷ (0x370, 0x37D)
    ∷ (0x37F, 0x1FFF)
    ∷ (0x200C, 0x200D)
    ∷ (0x2070, 0x218F)
    ∷ (0x2C00, 0x2FEF)
    ∷ (0x3001, 0xD7FF)
    ∷ (0xF900, 0xFDCF)
    ∷ (0xFDF0, 0xFFFD)
    ∷ (0x1_0000, 0xE_FFFF)
    ∷ []

-- the ranges that NameChar adds
abbrev pub further_ranges : List (ℕ × ℕ)
further_ranges = (0x2D, 0x2E) ∷ (0x30, 0x39) ∷ (0xB7, 0xB7) ∷ (0x300, 0x36F) ∷ (0x203F, 0x2040) ∷ []

-- whether a character lies in one of the ranges
abbrev pub is_in_ranges : List (ℕ × ℕ) → ℕ → Bool
is_in_ranges ranges c = list_any (λ r. nat_le r.0 c && nat_le c r.1) ranges

-- NameStartChar
unfoldable pub is_start_char : ℕ → Bool
is_start_char c = is_in_ranges start_ranges c

-- NameChar
unfoldable pub is_name_char : ℕ → Bool
is_name_char c = is_start_char c || is_in_ranges further_ranges c

-- whether there is a first character, and it is a NameStartChar
abbrev pub begins_name : List ℕ → Bool
begins_name [] = false
begins_name (c ∷ cs) = is_start_char c

-- Name: a NameStartChar, then NameChars, each NameStartChar being one
abbrev pub are_name_chars : List ℕ → Bool
are_name_chars cs = begins_name cs && list_all is_name_char cs

-- the UTF-8 of a Name that isn't too long
unfoldable pub is_name : Name → Bool
is_name n = nat_le (length n) most_name_bytes && (is_utf8 n && are_name_chars (chars n))
