-- Levels of nested parts.
use Rattle.std.proofs.Common.{◌≡◌, ℕ, zero, suc, ◌-◌, ◌<◌, refl, ap, arith}
use Rattle.xpath_parser.specs.Grammar.{expression, expression_of, inside}

pub expression_is : (room level : ℕ) → expression room level ≡ expression_of room (inside room) level
unfolding expression
expression_is zero level = refl
expression_is (suc room) level = refl

pub inside_is : (room level : ℕ) → 0 < room → inside room level ≡ expression (room - 1) level
inside_is zero level h = absurd (omega arith)
inside_is (suc room) level h = let e : room ≡ suc room - 1 = omega arith in ap (λ r. expression r level) e
