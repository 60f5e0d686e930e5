-- What a mode that is asked lets its owner do, by its parts (docs/PROFILE.md, "Lock modes" and "Covers").
-- Each is a test of a part against the order of parts, and no mode is named, so a further read part is one more row of that order.
use Rattle.std.specs.Prelude.{Bool, true, false, nat_le, Option, None, Some}
use Rattle.lock_modes.specs.declared.part.ReadPart.{ReadPart}
use Rattle.lock_modes.specs.declared.part.ReadPart.TheVariants as read
use Rattle.lock_modes.specs.declared.part.WritePart.TheVariants as write
use Rattle.lock_modes.specs.declared.ask.Ask.{Ask}
use Rattle.lock_modes.specs.declared.ask.Ask.TheVariants as ask
use Rattle.lock_modes.specs.declared.edge_mode.EdgeMode.TheVariants.{ER, EX}
use Rattle.lock_modes.specs.Parts.{read_rank, write_rank}
use Rattle.lock_modes.specs.Modes.{Parts, parts}

-- ---- what it reads

-- the read part is this one or more; what is above all reads all
abbrev pub part_reads : ReadPart → Option Parts → Bool
part_reads r None = true
part_reads r (Some p) = nat_le (read_rank r) (read_rank p.0)

abbrev pub reads_part : ReadPart → Ask → Bool
reads_part r (ask.Node m) = part_reads r (parts m)
reads_part r (ask.Edge m) = false

-- the node: N or more
abbrev pub reads_node : Ask → Bool
reads_node a = reads_part read.N a

-- its level: L or more
abbrev pub reads_level : Ask → Bool
reads_level a = reads_part read.L a

-- its subtree: S or more
abbrev pub reads_subtree : Ask → Bool
reads_subtree a = reads_part read.S a

-- an edge: ER or EX
abbrev pub reads_edge : Ask → Bool
reads_edge (ask.Node m) = false
reads_edge (ask.Edge m) = true

-- ---- what it changes

-- the mode is above all
abbrev pub is_none : Option Parts → Bool
is_none None = true
is_none (Some p) = false

-- the whole subtree: SX
abbrev pub is_exclusive : Ask → Bool
is_exclusive (ask.Node m) = is_none (parts m)
is_exclusive (ask.Edge m) = false

-- a child: the write part CX
abbrev pub part_changes_child : Option Parts → Bool
part_changes_child None = false
part_changes_child (Some p) = nat_le (write_rank write.CX) (write_rank p.1)

abbrev pub changes_child : Ask → Bool
changes_child (ask.Node m) = part_changes_child (parts m)
changes_child (ask.Edge m) = false

-- something below: a write part, or SX
abbrev pub part_changes_below : Option Parts → Bool
part_changes_below None = true
part_changes_below (Some p) = nat_le (write_rank write.IX) (write_rank p.1)

abbrev pub changes_below : Ask → Bool
changes_below (ask.Node m) = part_changes_below (parts m)
changes_below (ask.Edge m) = false

-- an edge: EX
abbrev pub changes_edge : Ask → Bool
changes_edge (ask.Node m) = false
changes_edge (ask.Edge ER) = false
changes_edge (ask.Edge EX) = true
