-- Location paths and their expressions (XPath 1.0, sections 2 and 3).
use Rattle.std.specs.Prelude.{ℕ, ℤ, Bool, List}
use Rattle.path_model.specs.declared.path.Axis.{Axis}
use Rattle.path_model.specs.declared.path.NodeTest.{NodeTest}
use Rattle.path_model.specs.declared.path.Op.{Op}

mutual
  -- a path, which may begin at the document; a number; a literal; an operator or function with its operands
  pub data Expr : Type 0 where
    path : Bool → Steps → Expr
    number : ℤ → Expr
    literal : List ℕ → Expr
    apply : Op → Exprs → Expr

  pub data Exprs : Type 0 where
    no_more : Exprs
    then_expr : Expr → Exprs → Exprs

  -- steps from left to right, each with its axis, node test and predicates
  pub data Steps : Type 0 where
    no_steps : Steps
    step : Axis → NodeTest → Exprs → Steps → Steps

-- a step without predicates, and none behind it
abbrev pub bare_step : Axis → NodeTest → Steps
bare_step axis test = step axis test no_more no_steps

-- a path by itself
pub record Path : Type 0 where
  pub is_absolute : Bool
  pub steps : Steps

-- an operator with two operands
abbrev pub binary : Op → Expr → Expr → Expr
binary op a b = apply op (then_expr a (then_expr b no_more))
