-- The names of lock modes as replies show them (docs/PROFILE.md, "Lock modes").
use Rattle.std.specs.Prelude.{ℕ, List, codes}
use Rattle.lock_modes.specs.declared.ask.Ask.{Ask}
use Rattle.lock_modes.specs.declared.ask.Ask.TheVariants.{Node, Edge}
use Rattle.lock_modes.specs.declared.mode.Mode.{Mode}
use Rattle.lock_modes.specs.declared.mode.Mode.TheVariants.{IR, NR, LR, SR, IX, LRIX, SRIX, CX, LRCX, SRCX, SX}
use Rattle.lock_modes.specs.declared.edge_mode.EdgeMode.{EdgeMode}
use Rattle.lock_modes.specs.declared.edge_mode.EdgeMode.TheVariants.{ER, EX}

-- the name of a mode of nodes and attributes
abbrev pub mode_name : Mode → List ℕ
mode_name IR = codes "IR"
mode_name NR = codes "NR"
mode_name LR = codes "LR"
mode_name SR = codes "SR"
mode_name IX = codes "IX"
mode_name LRIX = codes "LRIX"
mode_name SRIX = codes "SRIX"
mode_name CX = codes "CX"
mode_name LRCX = codes "LRCX"
mode_name SRCX = codes "SRCX"
mode_name SX = codes "SX"

-- the name of a mode of edges
abbrev pub edge_mode_name : EdgeMode → List ℕ
edge_mode_name ER = codes "ER"
edge_mode_name EX = codes "EX"

-- the name of the mode that is asked
abbrev pub ask_name : Ask → List ℕ
ask_name (Node m) = mode_name m
ask_name (Edge m) = edge_mode_name m
