-- Operators with a value on their left, and chains of them, evaluated from left to right.
use Rattle.std.specs.Prelude.{Bool, false, not, if◌then◌else◌, List, [], ◌∷◌, map}
use Rattle.path_model.specs.declared.path.Expr as declared
use Rattle.path_model.specs.declared.path.Op.{Op}
use Rattle.path_model.specs.declared.path.Op.TheVariants as op
use Rattle.path_model.specs.Evaluation.{value, applied}
use Rattle.path_model.specs.Functions.{Value, Context}
use Rattle.path_model.specs.Paths.{Expr}
use Rattle.path_model.specs.PlainPaths.{chained, plain}
use Rattle.path_model.specs.Programs.{Program, ends, and_then}
use Rattle.path_model.specs.Values.{flag, truth}

-- the value on its left decides what the operator answers
abbrev pub is_decided : Op → Value → Bool
is_decided op.Or v = truth v
is_decided op.And v = not (truth v)
is_decided o v = false

-- an operator on two values, of which the first one doesn't decide
abbrev pub both : Op → Value → Value → Context → Program Value
both op.Or v u c = ends (flag (truth u))
both op.And v u c = ends (flag (truth u))
both o v u c = applied o (v ∷ u ∷ []) c

-- an operator on a value and the operand behind it, which `or` and `and` may leave out
abbrev pub linked : Op → Value → Expr → Context → Program Value
linked o v e c = if is_decided o v then ends (flag (truth v)) else and_then (value e c) (λ u. both o v u c)

-- further operators and operands, from the value of what stands on their left
abbrev pub chain_from : Value → List Op → List Expr → Context → Program Value
chain_from v [] es c = ends v
chain_from v (o ∷ ops) [] c = ends v
chain_from v (o ∷ ops) (e ∷ es) c = and_then (linked o v e c) (λ u. chain_from u ops es c)

-- the chain that is meant
abbrev pub chain_of : List declared.Expr → List Op → Context → Program Value
chain_of es ops c = value (chained (map plain es) ops) c
