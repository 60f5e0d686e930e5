-- The places of characters (XPath 1.0, section 4.2, `substring`).
use Rattle.std.specs.Prelude.{ℕ, ◌-◌, ℤ, pos, negsuc}

-- how many places, counted from 1, stand before a bound
abbrev pub places_before : ℤ → ℕ
places_before (pos n) = n - 1
places_before (negsuc n) = 0
