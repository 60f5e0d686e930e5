-- A map with the number of reads that were made of it.
use Rattle.std.specs.Prelude.{ℕ, ◌+◌, ◌-◌, ◌^◌, min}

-- the map, and how many reads were made of it
pub record Counting (S : Type 0) : Type 0 where
  pub seq : S
  pub calls : ℕ

-- a count after one more read; it stays at the greatest number
abbrev pub one_more : ℕ → ℕ
one_more n = min (n + 1) (2 ^ 64 - 1)
