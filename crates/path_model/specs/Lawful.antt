-- Which paths are lawful: operands, numbers and nested parts are as the profile has them (docs/PROFILE.md, "Paths").
use Rattle.std.specs.Prelude.{ℕ, suc, max, ◌+◌, Bool, true, false, not, ◌&&◌, ◌||◌, ◌==◌, nat_le, nat_lt, List, [], ◌∷◌, length, map, Option, None, Some, is_some}
use Rattle.std.specs.List.{list_all}
use Rattle.path_model.specs.Numbers.{in_range}
use Rattle.path_model.specs.declared.path.Expr.{Expr, fold-Expr}
use Rattle.path_model.specs.declared.path.Expr.TheOpen.{Expr-F, Step-F, XPath-F}
use Rattle.path_model.specs.declared.path.Op.{Op}
use Rattle.path_model.specs.declared.path.Op.TheVariants as op
use Rattle.path_model.specs.declared.path.Step.{Step, fold-Step}
use Rattle.path_model.specs.declared.path.XPath.{XPath, fold-XPath}

-- ---- what operators and functions take

-- the least and the most operands, and whether they are location paths alone
pub record Operands : Type 0 where
  pub least : ℕ
  pub most : Option ℕ
  pub are_paths : Bool

abbrev pub from_to : ℕ → ℕ → Operands
from_to least most = record { least = least; most = Some most; are_paths = false }

abbrev pub paths_from_to : ℕ → ℕ → Operands
paths_from_to least most = record { least = least; most = Some most; are_paths = true }

abbrev pub takes : Op → Operands
takes op.Negate = from_to 1 1
takes op.Position = from_to 0 0
takes op.Last = from_to 0 0
takes op.Count = paths_from_to 1 1
takes op.Sum = paths_from_to 1 1
takes op.NameOf = paths_from_to 0 1
takes op.StringOf = from_to 0 1
takes op.Concat = record { least = 2; most = None; are_paths = false }
takes op.StartsWith = from_to 2 2
takes op.Contains = from_to 2 2
takes op.SubstringBefore = from_to 2 2
takes op.SubstringAfter = from_to 2 2
takes op.Substring = from_to 2 3
takes op.StringLength = from_to 0 1
takes op.NormalizeSpace = from_to 0 1
takes op.BooleanOf = from_to 1 1
takes op.Not = from_to 1 1
takes op.TrueOf = from_to 0 0
takes op.FalseOf = from_to 0 0
takes op.NumberOf = from_to 0 1
takes binary = from_to 2 2

-- the level of precedence of a binary operator, 1 being the tightest, and 0 of the rest
abbrev pub precedence : Op → ℕ
precedence op.Mul = 1
precedence op.Add = 2
precedence op.Sub = 2
precedence op.Lt = 3
precedence op.Le = 3
precedence op.Gt = 3
precedence op.Ge = 3
precedence op.Eq = 4
precedence op.Ne = 4
precedence op.And = 5
precedence op.Or = 6
precedence o = 0

abbrev pub at_most : Option ℕ → ℕ → Bool
at_most None n = true
at_most (Some most) n = nat_le n most

-- so many operands are neither too few nor too many
abbrev pub admits : Operands → ℕ → Bool
admits takes n = nat_le takes.least n && at_most takes.most n

-- a chain has one operator at least, all are binary and of one level, and there is one operand more
abbrev pub links : ℕ → List Op → Bool
links operands [] = false
links operands (o ∷ ops) = operands == length ops + 2 && (nat_lt 0 (precedence o) && list_all (λ p. precedence p == precedence o) ops)

-- ---- how deep parts nest

-- the greatest, or 0 where there is none
abbrev pub deepest : List ℕ → ℕ
deepest [] = 0
deepest (n ∷ ns) = max n (deepest ns)

abbrev pub depth_of_expr : Expr-F ℕ ℕ ℕ → ℕ
depth_of_expr (Expr-F.Path p) = p
depth_of_expr (Expr-F.Number z) = 0
depth_of_expr (Expr-F.Literal s) = 0
depth_of_expr (Expr-F.Chain es ops) = deepest es
depth_of_expr (Expr-F.Apply op es) = suc (deepest es)

-- each predicate is a nested part
abbrev pub depth_of_step : Step-F ℕ ℕ ℕ → ℕ
depth_of_step s = deepest (map suc s.tests)

abbrev pub depth_of_path : XPath-F ℕ ℕ ℕ → ℕ
depth_of_path p = deepest p.steps

-- the nested predicates, calls and unary minuses at the deepest place
abbrev pub depth : Expr → ℕ
depth = fold-Expr ℕ ℕ ℕ depth_of_expr depth_of_step depth_of_path

abbrev pub step_depth : Step → ℕ
step_depth = fold-Step ℕ ℕ ℕ depth_of_expr depth_of_step depth_of_path

abbrev pub path_depth : XPath → ℕ
path_depth = fold-XPath ℕ ℕ ℕ depth_of_expr depth_of_step depth_of_path

-- ---- how expressions are formed

-- an expression that may be a location path, and whether all in it is formed as it must be
pub record Form : Type 0 where
  pub is_path : Bool
  pub is_formed : Bool

-- a call or a unary minus; binary operators stand in chains
abbrev pub applies : Op → List Form → Bool
applies op es = precedence op == 0 && (admits (takes op) (length es) && (not (takes op).are_paths || list_all (λ e. e.is_path) es))

abbrev pub form_of_expr : Expr-F Form Bool Bool → Form
form_of_expr (Expr-F.Path p) = record { is_path = true; is_formed = p }
form_of_expr (Expr-F.Number z) = record { is_path = false; is_formed = is_some (in_range z) }
form_of_expr (Expr-F.Literal s) = record { is_path = false; is_formed = true }
form_of_expr (Expr-F.Chain es ops) = record { is_path = false; is_formed = links (length es) ops && list_all (λ e. e.is_formed) es }
form_of_expr (Expr-F.Apply op es) = record { is_path = false; is_formed = applies op es && list_all (λ e. e.is_formed) es }

abbrev pub formed_step : Step-F Form Bool Bool → Bool
formed_step s = list_all (λ e. e.is_formed) s.tests

abbrev pub formed_path : XPath-F Form Bool Bool → Bool
formed_path p = list_all (λ s. s) p.steps

abbrev pub form : Expr → Form
form = fold-Expr Form Bool Bool form_of_expr formed_step formed_path

abbrev pub is_formed_step : Step → Bool
is_formed_step = fold-Step Form Bool Bool form_of_expr formed_step formed_path

abbrev pub is_formed_path : XPath → Bool
is_formed_path = fold-XPath Form Bool Bool form_of_expr formed_step formed_path

-- ---- lawful paths

abbrev pub most_nested : ℕ
most_nested = 50

abbrev pub is_lawful : XPath → Bool
is_lawful p = is_formed_path p && nat_le (path_depth p) most_nested
