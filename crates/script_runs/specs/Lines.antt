-- The lines of a script: each ends with LF, and the last may end with the input (docs/MANUAL.md, "Script lines").
use Rattle.std.specs.Prelude.{ℕ, ◌+◌, ◌≤◌, List, [], ◌∷◌, ◌++◌, length, if◌then◌else◌, ◌==◌, nat_lt, Option, Some, None}

-- the most bytes of a line before its end
abbrev pub line_limit : ℕ
line_limit = 1048576

-- the lines that end within the bytes, each without its LF; `line` is what has come of the first before them
abbrev pub ended : List ℕ → List ℕ → List (List ℕ)
ended line [] = []
ended line (b ∷ bytes) = if b == 10 then line ∷ ended [] bytes else ended (line ++ b ∷ []) bytes

-- what has come, after the bytes, of a line that hasn't ended
abbrev pub unended : List ℕ → List ℕ → List ℕ
unended line [] = line
unended line (b ∷ bytes) = if b == 10 then unended [] bytes else unended (line ++ b ∷ []) bytes

-- the line that ends with the input, if there is one
abbrev pub last_line : List ℕ → List (List ℕ)
last_line [] = []
last_line (b ∷ line) = (b ∷ line) ∷ []

-- all lines of a whole input
abbrev pub lines_of : List ℕ → List (List ℕ)
lines_of bytes = ended [] bytes ++ last_line (unended [] bytes)

-- each line has at most `limit` bytes
abbrev pub AllShort : ℕ → List (List ℕ) → Type 0
AllShort limit [] = Unit {0}
AllShort limit (line ∷ lines) = (length line ≤ limit) × AllShort limit lines

-- the number of the first line of more than `limit` bytes, where the first is line `n`
abbrev pub first_long : ℕ → ℕ → List (List ℕ) → Option ℕ
first_long limit n [] = None
first_long limit n (line ∷ lines) = if nat_lt limit (length line) then Some n else first_long limit (n + 1) lines
