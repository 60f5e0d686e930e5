-- A function value that parses the expressions in a nested part.
use Rattle.std.specs.Prelude.{ℕ, ◌<◌, ◌-◌, Result}
use Rattle.std.specs.declared.alloc.Global.{Global}
use denote.Ref.{MutBor}
use Rattle.path_model.specs.declared.path.Expr.{Expr}
use Rattle.xpath_parser.specs.declared.refusal.Refusal.{Refusal}
use Rattle.xpath_parser.specs.Grammar.{expression}
use Rattle.xpath_parser.specs.Input.{Reads}
use Rattle.xpath_parser.specs.Lex.{Text}

pub record Nests (room : ℕ) (pre : Global → MutBor Text → ℕ → ℕ → Type 0)
    (post : Global → MutBor Text → ℕ → ℕ → Result Expr Refusal → MutBor Text → Type 0) : Type 0 where
  pub callable : (alloc : Global) (old : MutBor Text) (level : ℕ) → 0 < room → pre alloc old (room - 1) level
  pub reads : (alloc : Global) (old new : MutBor Text) (level : ℕ) (r : Result Expr Refusal) → post alloc old (room - 1) level r new
      → Reads (expression (room - 1) level old.now) r new.now
