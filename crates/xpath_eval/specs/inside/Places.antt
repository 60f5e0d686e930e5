-- Numbers as predicates: places, counted from 1.
use Rattle.std.specs.Prelude.{◌≡◌, ℕ, zero, suc, List, [], take, drop, ℤ, pos, negsuc}
use Rattle.path_model.specs.Evaluation.{filtered, kept_by, value}
use Rattle.path_model.specs.Paths.{Expr, Exprs, number}
use Rattle.path_model.specs.Positions.{Position}

-- the place that a number is; 0 is none
abbrev pub place_of : ℤ → ℕ
place_of (pos n) = n
place_of (negsuc n) = 0

-- what stands at a place
abbrev pub at_place : ℕ → List Position → List Position
at_place zero ns = []
at_place (suc p) ns = take 1 (drop p ns)

-- predicates keep of the first so many nodes of a row what they keep of all
abbrev pub IsEnough : ℕ → Exprs → Type 0
IsEnough p es = (ns : List Position) → filtered es (take p ns) ≡ filtered es ns

-- as a predicate it keeps of each row what the number keeps
abbrev pub KeepsAsNumber : ℤ → Expr → Type 0
KeepsAsNumber z e = (size p : ℕ) (ns : List Position) → kept_by (λ c. value e c) size p ns ≡ kept_by (λ c. value (number z) c) size p ns
