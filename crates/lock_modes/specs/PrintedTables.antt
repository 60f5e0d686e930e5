-- Which lock modes go together, as the tables for people print it (docs/PROFILE.md, "Lock modes").
use Rattle.std.specs.Prelude.{ℕ, suc, zero, Bool, true, false, List, [], ◌∷◌}
use Rattle.lock_modes.specs.declared.mode.Mode.{Mode}
use Rattle.lock_modes.specs.declared.mode.Mode.TheVariants.{IR, NR, LR, SR, IX, LRIX, SRIX, CX, LRCX, SRCX, SX}
use Rattle.lock_modes.specs.declared.edge_mode.EdgeMode.{EdgeMode}
use Rattle.lock_modes.specs.declared.edge_mode.EdgeMode.TheVariants.{ER, EX}

-- the mark of modes that go together
abbrev y : Bool
y = true

-- the mark of modes that don't
abbrev n : Bool
n = false

-- the number of a mode's column
abbrev pub column : Mode → ℕ
column IR = 0
column NR = 1
column LR = 2
column SR = 3
column IX = 4
column LRIX = 5
column SRIX = 6
column CX = 7
column LRCX = 8
column SRCX = 9
column SX = 10

-- the row of a mode, in the order of the columns
abbrev pub row : Mode → List Bool
row IR = y ∷ y ∷ y ∷ y ∷ y ∷ y ∷ y ∷ y ∷ y ∷ y ∷ n ∷ []
row NR = y ∷ y ∷ y ∷ y ∷ y ∷ y ∷ y ∷ y ∷ y ∷ y ∷ n ∷ []
row LR = y ∷ y ∷ y ∷ y ∷ y ∷ y ∷ y ∷ n ∷ n ∷ n ∷ n ∷ []
row SR = y ∷ y ∷ y ∷ y ∷ n ∷ n ∷ n ∷ n ∷ n ∷ n ∷ n ∷ []
row IX = y ∷ y ∷ y ∷ n ∷ y ∷ y ∷ n ∷ y ∷ y ∷ n ∷ n ∷ []
row LRIX = y ∷ y ∷ y ∷ n ∷ y ∷ y ∷ n ∷ n ∷ n ∷ n ∷ n ∷ []
row SRIX = y ∷ y ∷ y ∷ n ∷ n ∷ n ∷ n ∷ n ∷ n ∷ n ∷ n ∷ []
row CX = y ∷ y ∷ n ∷ n ∷ y ∷ n ∷ n ∷ y ∷ n ∷ n ∷ n ∷ []
row LRCX = y ∷ y ∷ n ∷ n ∷ y ∷ n ∷ n ∷ n ∷ n ∷ n ∷ n ∷ []
row SRCX = y ∷ y ∷ n ∷ n ∷ n ∷ n ∷ n ∷ n ∷ n ∷ n ∷ n ∷ []
row SX = n ∷ n ∷ n ∷ n ∷ n ∷ n ∷ n ∷ n ∷ n ∷ n ∷ n ∷ []

-- the mark in a row's column
abbrev pub mark : List Bool → ℕ → Bool
mark [] c = n
mark (m ∷ ms) zero = m
mark (m ∷ ms) (suc c) = mark ms c

-- the mark of two modes
abbrev pub printed : Mode → Mode → Bool
printed m k = mark (row m) (column k)

-- the row of a mode of edges, whose columns are ER and EX
abbrev pub edge_row : EdgeMode → List Bool
edge_row ER = y ∷ n ∷ []
edge_row EX = n ∷ n ∷ []

-- the number of its column
abbrev pub edge_column : EdgeMode → ℕ
edge_column ER = 0
edge_column EX = 1

-- the mark of two modes of edges
abbrev pub printed_edge : EdgeMode → EdgeMode → Bool
printed_edge m k = mark (edge_row m) (edge_column k)
