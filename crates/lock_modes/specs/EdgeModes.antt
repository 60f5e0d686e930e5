-- The lock modes of edges (docs/PROFILE.md, "Lock modes").
use Rattle.std.specs.Prelude.{Bool, true, false}
use Rattle.lock_modes.specs.declared.edge_mode.EdgeMode.{EdgeMode}
use Rattle.lock_modes.specs.declared.edge_mode.EdgeMode.TheVariants.{ER, EX}

-- the greater of two modes of an edge, ER < EX
abbrev pub edge_join : EdgeMode → EdgeMode → EdgeMode
edge_join ER n = n
edge_join EX n = EX

-- whether two owners may hold these modes at one edge: only where both read it
abbrev pub edge_compatible : EdgeMode → EdgeMode → Bool
edge_compatible ER ER = true
edge_compatible ER EX = false
edge_compatible EX n = false
