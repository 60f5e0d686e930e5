-- The parts of a lock mode: their orders, and which go together (docs/PROFILE.md, "Lock modes").
use Rattle.std.specs.Prelude.{ℕ, Bool, true, false, if◌then◌else◌, nat_le}
use Rattle.lock_modes.specs.declared.part.ReadPart.{ReadPart}
use Rattle.lock_modes.specs.declared.part.ReadPart.TheVariants.{I, N, L, S}
use Rattle.lock_modes.specs.declared.part.WritePart.{WritePart}
use Rattle.lock_modes.specs.declared.part.WritePart.TheVariants.{NoWrite, IX, CX}

-- the order of read parts: I < N < L < S
abbrev pub read_rank : ReadPart → ℕ
read_rank I = 0
read_rank N = 1
read_rank L = 2
read_rank S = 3

-- the order of write parts: none < IX < CX
abbrev pub write_rank : WritePart → ℕ
write_rank NoWrite = 0
write_rank IX = 1
write_rank CX = 2

-- the greater of two read parts
abbrev pub greater_read : ReadPart → ReadPart → ReadPart
greater_read r s = if nat_le (read_rank r) (read_rank s) then s else r

-- the greater of two write parts
abbrev pub greater_write : WritePart → WritePart → WritePart
greater_write w v = if nat_le (write_rank w) (write_rank v) then v else w

-- whether one owner may have this write part where another has that read part, a group of rows for each read part:
-- who reads a level admits no change of a child, who reads a subtree no change below
abbrev pub admits : WritePart → ReadPart → Bool
admits w I = true
admits w N = true
admits NoWrite L = true
admits IX L = true
admits CX L = false
admits NoWrite S = true
admits IX S = false
admits CX S = false
