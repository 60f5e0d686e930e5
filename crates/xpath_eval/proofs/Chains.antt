-- Chains of binary operators, from the value of what stands on their left.
use Rattle.std.proofs.Common.{◌≡◌, Bool, true, false, not, if◌then◌else◌, List, [], ◌∷◌, refl, sym, ap, ◌∙◌}
use Rattle.path_model.specs.declared.path.Op.{Op}
use Rattle.path_model.specs.declared.path.Op.TheVariants as op
use Rattle.path_model.specs.Evaluation.{value, operands, applied}
use Rattle.path_model.specs.Functions.{Value, Context}
use Rattle.path_model.specs.Paths.{Expr, Exprs, apply, no_more, then_expr, binary}
use Rattle.path_model.specs.PlainPaths.{grouped}
use Rattle.path_model.specs.Programs.{Program, ends, and_then}
use Rattle.path_model.specs.Values.{flag, truth, same_flag}
use Rattle.xpath_axes.proofs.Running.{and_then-ends, and_then-and_then}
use Rattle.xpath_eval.specs.inside.Chains.{both, linked, chain_from}

-- of two operands, the first of which has its value
two_operands : (e x : Expr) (c : Context) (f : List Value → Program Value)
    → and_then (operands (then_expr e (then_expr x no_more)) c) f ≡ and_then (value e c) (λ v. and_then (value x c) (λ u. f (v ∷ u ∷ [])))
two_operands e x c f =
    and_then-and_then (value e c) (λ v. and_then (operands (then_expr x no_more) c) (λ vs. ends (v ∷ vs))) f
    ∙ (λ i. and_then (value e c) (λ v. inner v i))
  where
    inner : (v : Value) → and_then (and_then (operands (then_expr x no_more) c) (λ vs. ends (v ∷ vs))) f ≡ and_then (value x c) (λ u. f (v ∷ u ∷ []))
    inner v = and_then-and_then (operands (then_expr x no_more) c) (λ vs. ends (v ∷ vs)) f ∙ and_then-and_then (value x c) (λ u. ends (u ∷ [])) (λ vs. f (v ∷ vs))

-- what the right side answers is its boolean
abbrev F : Bool → Program Value
F b = ends (flag b)

by_or : (b : Bool) → (if same_flag true b then F true else F (not true)) ≡ F b
by_or true = refl
by_or false = refl

by_and : (b : Bool) → (if same_flag false b then F false else F (not false)) ≡ F b
by_and true = refl
by_and false = refl

or_is : (b : Bool) (p q : Program Value) → p ≡ q → (if same_flag true b then F true else p) ≡ (if b then F b else q)
or_is true p q h = refl
or_is false p q h = h

and_is : (b : Bool) (p q : Program Value) → p ≡ q → (if same_flag false b then F false else p) ≡ (if not b then F b else q)
and_is true p q h = h
and_is false p q h = refl

binary_is : (o : Op) (e x : Expr) (c : Context) → value (binary o e x) c ≡ and_then (value e c) (λ v. linked o v x c)
binary_is op.Or e x c = λ i. and_then (value e c) (λ v. or_is (truth v) _ _ (λ j. and_then (value x c) (λ u. by_or (truth u) j)) i)
binary_is op.And e x c = λ i. and_then (value e c) (λ v. and_is (truth v) _ _ (λ j. and_then (value x c) (λ u. by_and (truth u) j)) i)
binary_is o e x c = two_operands e x c (λ vs. applied o vs c)

pub grouped_is : (e : Expr) (ops : List Op) (es : List Expr) (c : Context) → value (grouped e ops es) c ≡ and_then (value e c) (λ v. chain_from v ops es c)
grouped_is e [] es c = sym (and_then-ends (value e c))
grouped_is e (o ∷ ops) [] c = sym (and_then-ends (value e c))
grouped_is e (o ∷ ops) (x ∷ es) c =
    grouped_is (binary o e x) ops es c
    ∙ ap (λ p. and_then p (λ u. chain_from u ops es c)) (binary_is o e x c)
    ∙ and_then-and_then (value e c) (λ v. linked o v x c) (λ u. chain_from u ops es c)

-- operators that leave no operand out
pub apply_is : (o : Op) (es : Exprs) (c : Context) → (o ≡ op.Or → ⊥) → (o ≡ op.And → ⊥) → and_then (operands es c) (λ us. applied o us c) ≡ value (apply o es) c
apply_is op.Or es c h g = absurd (h refl)
apply_is op.And es c h g = absurd (g refl)
apply_is o es c h g = refl

pub both_is : (o : Op) (v u : Value) (c : Context) → (o ≡ op.Or → ⊥) → (o ≡ op.And → ⊥) → applied o (v ∷ u ∷ []) c ≡ both o v u c
both_is op.Or v u c h g = absurd (h refl)
both_is op.And v u c h g = absurd (g refl)
both_is o v u c h g = refl
