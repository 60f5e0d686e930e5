-- The rest of a script from a place on.
use Rattle.std.specs.Prelude.{◌+◌, ◌-◌, ◌*◌, ◌/◌, ◌==◌, ◌<◌, ◌≤◌, nat_lt, ℕ, List, ◌++◌, drop, if◌then◌else◌, Option, Some, None}
use Rattle.workload_gen.specs.declared.line.Line.{Line}
use Rattle.workload_gen.specs.declared.line.Step.TheVariants.{Begin, Commit, Create, Book, Children, Find, Drop}
use Rattle.workload_gen.specs.declared.place.Place.{Place}
use Rattle.workload_gen.specs.declared.place.Place.TheVariants as place
use Rattle.workload_gen.specs.Scripts.{book, books, closing, line, opening, price, review, round, rounds, session_of}

-- ---- the lines of a part, by their places

abbrev pub opening_line : ℕ → Line
opening_line q = if q == 0 then line 1 Begin else if q == 1 then line 1 Create else line 1 Commit

abbrev pub book_line : ℕ → ℕ → ℕ → Line
book_line seed i q =
    if q == 0 then line (session_of i) Begin
    else if q == 1 then line (session_of i) (Book i (price seed i))
    else line (session_of i) Commit

abbrev pub round_line : ℕ → ℕ → ℕ → Line
round_line seed r q =
    if nat_lt q 8 then line (q + 1) Begin
    else if nat_lt q 16 then review seed r (q - 7)
    else if q == 16 then line 1 (Children (8 * r + 2))
    else if nat_lt q 24 then line (q - 15) Commit
    else line 1 Commit

abbrev pub closing_line : ℕ → Line
closing_line q = if q == 0 then line 1 Begin else if q == 1 then line 1 Find else if q == 2 then line 1 Drop else line 1 Commit

-- ---- places

abbrev pub IsPlace : ℕ → Place → Type 0
IsPlace count (place.Opening q) = q < 3
IsPlace count (place.Book i q) = (0 < i) × (i ≤ count) × (q < 3)
IsPlace count (place.Round r q) = (r < count / 8) × (q < 25)
IsPlace count (place.Closing q) = q ≤ 4

abbrev pub behind_books : ℕ → ℕ → List Line
behind_books seed count = rounds seed 0 (count / 8) ++ closing

abbrev pub rest : ℕ → ℕ → Place → List Line
rest seed count (place.Opening q) = drop q opening ++ (books seed 1 count ++ behind_books seed count)
rest seed count (place.Book i q) = drop q (book seed i) ++ (books seed (i + 1) (count - i) ++ behind_books seed count)
rest seed count (place.Round r q) = drop q (round seed r) ++ (rounds seed (r + 1) (count / 8 - (r + 1)) ++ closing)
rest seed count (place.Closing q) = drop q closing

abbrev pub line_at : ℕ → Place → Option Line
line_at seed (place.Opening q) = Some (opening_line q)
line_at seed (place.Book i q) = Some (book_line seed i q)
line_at seed (place.Round r q) = Some (round_line seed r q)
line_at seed (place.Closing q) = if nat_lt q 4 then Some (closing_line q) else None

abbrev pub after : ℕ → Place → Place
after count (place.Opening q) = if q == 2 then place.Book 1 0 else place.Opening (q + 1)
after count (place.Book i q) =
    if nat_lt q 2 then place.Book i (q + 1)
    else if nat_lt i count then place.Book (i + 1) 0
    else if nat_lt count 8 then place.Closing 0
    else place.Round 0 0
after count (place.Round r q) =
    if nat_lt q 24 then place.Round r (q + 1)
    else if nat_lt (r + 1) (count / 8) then place.Round (r + 1) 0
    else place.Closing 0
after count (place.Closing q) = place.Closing (q + 1)
