-- Tokens that no rule has a case of its own for.
use Rattle.std.proofs.Common.{rules, arith, ◌≡◌, ◌≢◌, ℕ, [], false, Option, None}
use Rattle.std.proofs.lemmas.Grind.{common_steps}
use Rattle.path_model.specs.declared.path.Axis.TheVariants as axis
use Rattle.path_model.specs.declared.path.Expr.{Expr}
use Rattle.path_model.specs.declared.path.Expr.TheVariants as e
use Rattle.xpath_parser.specs.declared.lex.Kind.{Kind}
use Rattle.xpath_parser.specs.declared.lex.Kind.TheVariants as k
use Rattle.xpath_parser.specs.declared.refusal.What.{What}
use Rattle.xpath_parser.specs.Grammar.{step_by, step_along, path_by, steps_on, path, operand_by, make_path}
use Rattle.xpath_parser.specs.Input.{Parser, ◌>>=◌, pure}

pub other_step : (room : ℕ) (inner : ℕ → Parser Expr) (call : Option What) (kind : Kind) → kind ≢ k.Dot → kind ≢ k.DoubleDot → kind ≢ k.At → kind ≢ k.Name → step_by room inner call kind ≡ step_along room inner axis.Child
other_step room inner call kind a b c d = first_of (search rules, grind (arith, common_steps))

pub other_path : (room : ℕ) (inner : ℕ → Parser Expr) (call : Option What) (kind : Kind) → kind ≢ k.Slash → kind ≢ k.DoubleSlash → path_by room inner call kind ≡ steps_on room inner call [] >>= (λ ss. pure (make_path false ss))
other_path room inner call kind a b = first_of (search rules, grind (arith, common_steps))

pub other_operand : (room : ℕ) (inner : ℕ → Parser Expr) (kind : Kind) → kind ≢ k.Number → kind ≢ k.Literal → kind ≢ k.Open → kind ≢ k.Name → kind ≢ k.Fraction → kind ≢ k.Variable → operand_by room inner kind ≡ path room inner None >>= (λ p. pure (e.Path p))
other_operand room inner kind a b c d e f = first_of (search rules, grind (arith, common_steps))
