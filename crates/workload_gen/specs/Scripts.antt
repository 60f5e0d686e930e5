-- The script of the generator (docs/PROFILE.md, "The generator").
use Rattle.std.specs.Prelude.{◌+◌, ◌-◌, ◌*◌, ◌/◌, ◌%◌, ℕ, zero, suc, List, [], ◌∷◌, ◌++◌, map}
use Rattle.workload_gen.specs.declared.line.Line.{Line}
use Rattle.workload_gen.specs.declared.line.Step.{Step}
use Rattle.workload_gen.specs.declared.line.Step.TheVariants.{Begin, Commit, Create, Book, Review, Children, Find, Drop}

abbrev pub line : ℕ → Step → Line
line s step = record { session = s; step = step }

-- a first transaction makes the catalogue
abbrev pub opening : List Line
opening = line 1 Begin ∷ line 1 Create ∷ line 1 Commit ∷ []

-- the session that appends the book of this number
abbrev pub session_of : ℕ → ℕ
session_of i = (i - 1) % 8 + 1

abbrev pub price : ℕ → ℕ → ℕ
price seed i = (seed + 37 * i) % 10000

-- a transaction appends a book
abbrev pub book : ℕ → ℕ → List Line
book seed i =
    line (session_of i) Begin
    ∷ line (session_of i) (Book i (price seed i))
    ∷ line (session_of i) Commit
    ∷ []

-- so many books from this number on
unfoldable pub books : ℕ → ℕ → ℕ → List Line
books seed i zero = []
books seed i (suc more) = book seed i ++ books seed (i + 1) more

abbrev pub stars : ℕ → ℕ → ℕ → ℕ
stars seed r s = 1 + (seed + (8 * r + s)) % 5

abbrev pub review : ℕ → ℕ → ℕ → Line
review seed r s = line s (Review (8 * r + s) (stars seed r s))

-- a round: eight transactions side by side, of which the first asks for what the second changes
abbrev pub round : ℕ → ℕ → List Line
round seed r =
    map (λ s. line s Begin) (1 ∷ 2 ∷ 3 ∷ 4 ∷ 5 ∷ 6 ∷ 7 ∷ 8 ∷ [])
    ++ (map (review seed r) (1 ∷ 2 ∷ 3 ∷ 4 ∷ 5 ∷ 6 ∷ 7 ∷ 8 ∷ [])
    ++ (line 1 (Children (8 * r + 2)) ∷ map (λ s. line s Commit) (2 ∷ 3 ∷ 4 ∷ 5 ∷ 6 ∷ 7 ∷ 8 ∷ 1 ∷ [])))

-- so many rounds from this one on
unfoldable pub rounds : ℕ → ℕ → ℕ → List Line
rounds seed r zero = []
rounds seed r (suc more) = round seed r ++ rounds seed (r + 1) more

-- a last transaction finds books by their reviews, and drops the document
abbrev pub closing : List Line
closing = line 1 Begin ∷ line 1 Find ∷ line 1 Drop ∷ line 1 Commit ∷ []

abbrev pub script : ℕ → ℕ → List Line
script seed count = opening ++ (books seed 1 count ++ (rounds seed 0 (count / 8) ++ closing))
