-- The functions on strings (XPath 1.0, section 4.2). A string is its bytes in UTF-8.
use Rattle.std.specs.Prelude.{ℕ, ◌+◌, ◌+ℤ◌, Bool, true, false, ◌&&◌, if◌then◌else◌, ◌==◌, ℤ, pos, int_le, int_lt, List, [], ◌∷◌, ◌++◌, length, drop, encode_utf8_all, is_some, Option, None, Some}
use Rattle.std.specs.Str.{chars}
use Rattle.path_model.specs.Numbers.{Num, is_space, without_front}
use Rattle.path_model.specs.Values.{is_filled}

-- ---- parts of strings

abbrev pub joined : List (List ℕ) → List ℕ
joined [] = []
joined (s ∷ ss) = s ++ joined ss

abbrev pub begins_with : List ℕ → List ℕ → Bool
begins_with [] s = true
begins_with (b ∷ bs) [] = false
begins_with (b ∷ bs) (c ∷ cs) = (b == c) && begins_with bs cs

abbrev pub behind_one : ℕ → Option (List ℕ × List ℕ) → Option (List ℕ × List ℕ)
behind_one c None = None
behind_one c (Some p) = Some (c ∷ p.0, p.1)

-- what stands before the first occurrence, and behind it
abbrev pub cut_at : List ℕ → List ℕ → Option (List ℕ × List ℕ)
cut_at part [] = if is_filled part then None else Some ([], [])
cut_at part (c ∷ cs) = if begins_with part (c ∷ cs) then Some ([], drop (length part) (c ∷ cs)) else behind_one c (cut_at part cs)

abbrev pub before_part : Option (List ℕ × List ℕ) → List ℕ
before_part None = []
before_part (Some p) = p.0

abbrev pub behind_part : Option (List ℕ × List ℕ) → List ℕ
behind_part None = []
behind_part (Some p) = p.1

abbrev pub contains_text : List ℕ → List ℕ → Bool
contains_text s part = is_some (cut_at part s)

abbrev pub is_before : ℕ → Option ℤ → Bool
is_before p None = true
is_before p (Some e) = int_lt (pos p) e

-- the characters whose position is at least n, and below the end where there is one
abbrev pub kept_chars : ℕ → ℤ → Option ℤ → List ℕ → List ℕ
kept_chars p n end [] = []
kept_chars p n end (c ∷ cs) = if int_le n (pos p) && is_before p end then c ∷ kept_chars (p + 1) n end cs else kept_chars (p + 1) n end cs

abbrev pub substring_from : List ℕ → Num → List ℕ
substring_from s None = []
substring_from s (Some n) = encode_utf8_all (kept_chars 1 n None (chars s))

abbrev pub substring_within : List ℕ → Num → Num → List ℕ
substring_within s (Some n) (Some m) = encode_utf8_all (kept_chars 1 n (Some (n +ℤ m)) (chars s))
substring_within s n m = []

-- runs of white space become one space, none at the ends
abbrev pub normal_from : Bool → List ℕ → List ℕ
normal_from is_open [] = []
normal_from is_open (b ∷ bs) =
    if is_space b then (if is_filled (without_front bs) && is_open then 32 ∷ normal_from false bs else normal_from false bs)
    else b ∷ normal_from true bs
