-- A count that stays below a bound.
use Rattle.std.specs.Prelude.{ℕ, if◌then◌else◌, nat_lt}

abbrev pub at_most : ℕ → ℕ → ℕ
at_most most n = if nat_lt most n then most else n
