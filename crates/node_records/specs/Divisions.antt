-- The bytes of a division (docs/FILE_FORMAT.md, "Divisions").
use Rattle.std.specs.Prelude.{ℕ, ◌+◌, ◌-◌, nat_lt, ◌==◌, if◌then◌else◌, List, [], ◌∷◌, Option, Some, None}
use Rattle.byteorder.specs.Endian.{big_bytes}
use Rattle.node_records.specs.Reads.{◌>>=◌, number_in}

-- one byte below 128; two from 80 00 on; three from C0 00 00 on; otherwise E0 and the division itself in four
abbrev pub division_bytes : ℕ → List ℕ
division_bytes d =
    if nat_lt d 128 then d ∷ [] else
    if nat_lt d 16_512 then big_bytes 2 (0x8000 + (d - 128)) else
    if nat_lt d 2_113_664 then big_bytes 3 (0xC0_0000 + (d - 16_512)) else
    0xE0 ∷ big_bytes 4 d

-- the division at the start: its first byte says which form it has; five bytes aren't for one that has a shorter form
abbrev pub division_in : List ℕ → Option (ℕ × ℕ)
division_in [] = None
division_in (b ∷ bs) =
    if nat_lt b 0x80 then Some (b, 1) else
    if nat_lt b 0xC0 then (number_in 2 (b ∷ bs) >>= λ n. Some (n - 0x8000 + 128, 2)) else
    if nat_lt b 0xE0 then (number_in 3 (b ∷ bs) >>= λ n. Some (n - 0xC0_0000 + 16_512, 3)) else
    if b == 0xE0 then (number_in 4 bs >>= λ n. if nat_lt n 2_113_664 then None else Some (n, 5)) else
    None
