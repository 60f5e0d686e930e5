-- The paths of the program as they are meant.
use Rattle.std.specs.Prelude.{List, [], ◌∷◌, map}
use Rattle.path_model.specs.declared.path.Expr.{Expr, fold-Expr}
use Rattle.path_model.specs.declared.path.Expr.TheOpen.{Expr-F, Step-F, XPath-F}
use Rattle.path_model.specs.declared.path.Step.{Step, fold-Step}
use Rattle.path_model.specs.declared.path.XPath.{XPath, fold-XPath}
use Rattle.path_model.specs.declared.path.Op.{Op}
use Rattle.path_model.specs.Paths as paths
use Rattle.path_model.specs.Paths.{Exprs, no_more, then_expr, Steps, no_steps, Path, binary}

-- expressions one behind another
abbrev pub row : List paths.Expr → Exprs
row [] = no_more
row (e ∷ es) = then_expr e (row es)

-- steps one before another, each as it puts itself before others
abbrev pub way : List (Steps → Steps) → Steps
way [] = no_steps
way (s ∷ ss) = s (way ss)

-- further operands, each behind its operator, grouped to the left
abbrev pub grouped : paths.Expr → List Op → List paths.Expr → paths.Expr
grouped e [] es = e
grouped e (op ∷ ops) [] = e
grouped e (op ∷ ops) (x ∷ es) = grouped (binary op e x) ops es

-- a chain has a first operand
abbrev pub chained : List paths.Expr → List Op → paths.Expr
chained [] ops = paths.literal []
chained (e ∷ es) ops = grouped e ops es

abbrev pub of_expr : Expr-F paths.Expr (Steps → Steps) Path → paths.Expr
of_expr (Expr-F.Path p) = paths.path p.is_absolute p.steps
of_expr (Expr-F.Number z) = paths.number z
of_expr (Expr-F.Literal s) = paths.literal s
of_expr (Expr-F.Chain es ops) = chained es ops
of_expr (Expr-F.Apply op es) = paths.apply op (row es)

abbrev pub of_step : Step-F paths.Expr (Steps → Steps) Path → Steps → Steps
of_step s ss = paths.step s.axis s.test (row s.tests) ss

abbrev pub of_path : XPath-F paths.Expr (Steps → Steps) Path → Path
of_path p = record { is_absolute = p.absolute; steps = way p.steps }

-- an expression, a step before others, a path
abbrev pub plain : Expr → paths.Expr
plain = fold-Expr paths.Expr (Steps → Steps) Path of_expr of_step of_path

abbrev pub plain_step : Step → Steps → Steps
plain_step = fold-Step paths.Expr (Steps → Steps) Path of_expr of_step of_path

abbrev pub plain_path : XPath → Path
plain_path = fold-XPath paths.Expr (Steps → Steps) Path of_expr of_step of_path

-- those of lists
abbrev pub plain_row : List Expr → Exprs
plain_row es = row (map plain es)

abbrev pub plain_way : List Step → Steps
plain_way ss = way (map plain_step ss)
