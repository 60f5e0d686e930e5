-- Modes as they are asked: their joins, and which go together (docs/PROFILE.md, "Lock modes").
use Rattle.std.specs.Prelude.{◌≡◌, Bool, false, not, Option, Some, None}
use Rattle.lock_modes.specs.declared.ask.Ask.{Ask}
use Rattle.lock_modes.specs.declared.ask.Ask.TheVariants as ask
use Rattle.lock_modes.specs.declared.mode.Mode.TheVariants.{SX}
use Rattle.lock_modes.specs.Modes.{join, compatible}
use Rattle.lock_modes.specs.EdgeModes.{edge_join, edge_compatible}

-- the join of two modes; of a mode of nodes and one of edges, which no resource has both, SX
abbrev pub join_asks : Ask → Ask → Ask
join_asks (ask.Node m) (ask.Node n) = ask.Node (join m n)
join_asks (ask.Edge e) (ask.Edge f) = ask.Edge (edge_join e f)
join_asks a b = ask.Node SX

-- whether two owners may hold these modes at one resource; a mode of nodes and one of edges never
abbrev pub are_compatible : Ask → Ask → Bool
are_compatible (ask.Node m) (ask.Node n) = compatible m n
are_compatible (ask.Edge e) (ask.Edge f) = edge_compatible e f
are_compatible a b = false

-- what is held after one more grant
abbrev pub join_with : Ask → Option Ask → Ask
join_with a None = a
join_with a (Some h) = join_asks a h

-- what is held has the mode already
abbrev pub Covers : Option Ask → Ask → Type 0
Covers h a = h ≡ Some (join_with a h)

-- what is held bars this mode
abbrev pub is_barred_by : Ask → Option Ask → Bool
is_barred_by a None = false
is_barred_by a (Some h) = not (are_compatible a h)

-- what one owner holds bars what another one holds
abbrev pub is_barred : Option Ask → Option Ask → Bool
is_barred None h = false
is_barred (Some a) h = is_barred_by a h
