-- The lock modes by their parts: joins, and which modes go together (docs/PROFILE.md, "Lock modes").
use Rattle.std.specs.Prelude.{Bool, false, ◌&&◌, ◌==◌, Option, Some, None}
use Rattle.lock_modes.specs.declared.part.ReadPart.{ReadPart}
use Rattle.lock_modes.specs.declared.part.ReadPart.TheVariants as read
use Rattle.lock_modes.specs.declared.part.WritePart.{WritePart}
use Rattle.lock_modes.specs.declared.part.WritePart.TheVariants as write
use Rattle.lock_modes.specs.declared.mode.Mode.{Mode}
use Rattle.lock_modes.specs.declared.mode.Mode.TheVariants.{IR, NR, LR, SR, IX, LRIX, SRIX, CX, LRCX, SRCX, SX}
use Rattle.lock_modes.specs.Parts.{write_rank, greater_read, greater_write, admits}

-- a read part and a write part
abbrev pub Parts : Type 0
Parts = ReadPart × WritePart

-- the parts of each mode; SX, which is above all, has none
abbrev pub parts : Mode → Option Parts
parts IR = Some (read.I, write.NoWrite)
parts NR = Some (read.N, write.NoWrite)
parts LR = Some (read.L, write.NoWrite)
parts SR = Some (read.S, write.NoWrite)
parts IX = Some (read.N, write.IX)
parts LRIX = Some (read.L, write.IX)
parts SRIX = Some (read.S, write.IX)
parts CX = Some (read.N, write.CX)
parts LRCX = Some (read.L, write.CX)
parts SRCX = Some (read.S, write.CX)
parts SX = None

-- whether these parts change nothing below
abbrev pub only_reads : Option Parts → Bool
only_reads None = false
only_reads (Some p) = write_rank p.1 == 0

-- a read mode: one whose write part is none
abbrev pub is_read_mode : Mode → Bool
is_read_mode m = only_reads (parts m)

-- the mode with these parts; what has a write part reads its node at least
abbrev pub with_parts : ReadPart → WritePart → Mode
with_parts read.I write.NoWrite = IR
with_parts read.N write.NoWrite = NR
with_parts read.L write.NoWrite = LR
with_parts read.S write.NoWrite = SR
with_parts read.I write.IX = IX
with_parts read.N write.IX = IX
with_parts read.L write.IX = LRIX
with_parts read.S write.IX = SRIX
with_parts read.I write.CX = CX
with_parts read.N write.CX = CX
with_parts read.L write.CX = LRCX
with_parts read.S write.CX = SRCX

-- the mode with these parts, or SX, which has none
abbrev pub mode_of : Option Parts → Mode
mode_of None = SX
mode_of (Some p) = with_parts p.0 p.1

-- the greater of each part; what is above all stays above all
abbrev pub greater_parts : Option Parts → Option Parts → Option Parts
greater_parts None q = None
greater_parts (Some p) None = None
greater_parts (Some p) (Some q) = Some (greater_read p.0 q.0, greater_write p.1 q.1)

-- the join of two modes: the greater of each part, and SX with anything is SX
abbrev pub join : Mode → Mode → Mode
join m n = mode_of (greater_parts (parts m) (parts n))

-- whether the parts of two owners go together: each one's write part admits the other's read part, and what is above all goes with nothing
abbrev pub go_together : Option Parts → Option Parts → Bool
go_together None q = false
go_together (Some p) None = false
go_together (Some p) (Some q) = admits p.1 q.0 && admits q.1 p.0

-- whether two owners may hold these modes at one resource
abbrev pub compatible : Mode → Mode → Bool
compatible m n = go_together (parts m) (parts n)
