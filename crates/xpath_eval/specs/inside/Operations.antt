-- Operators and functions, by what they take.
use Rattle.std.specs.Prelude.{ℕ, Bool, true, false, List}
use Rattle.path_model.specs.Evaluation.{in_numbers, in_texts}
use Rattle.path_model.specs.Functions.{Value, first_or_context}
use Rattle.path_model.specs.Numbers.{Num, plus, minus, times}
use Rattle.path_model.specs.Programs.{Program}
use Rattle.path_model.specs.Texts.{begins_with, contains_text, cut_at, before_part, behind_part}
use Rattle.path_model.specs.Values.{nodes, text, flag}
use Rattle.xpath_eval.specs.declared.context.Context.{Context}
use Rattle.xpath_eval.specs.declared.operations.Calculation.{Calculation}
use Rattle.xpath_eval.specs.declared.operations.Calculation.TheVariants.{Plus, Minus, Times}
use Rattle.xpath_eval.specs.declared.operations.TextFunction.{TextFunction}
use Rattle.xpath_eval.specs.declared.operations.TextFunction.TheVariants.{StartsWith, Contains, Before, After}
use Rattle.xpath_eval.specs.declared.value.XValue.{XValue}
use Rattle.xpath_eval.specs.Values.{all_meant}
use Rattle.xpath_eval.specs.inside.Contexts.{stands}

-- of two numbers
abbrev pub calculation : Calculation → Num → Num → Num
calculation Plus = plus
calculation Minus = minus
calculation Times = times

-- of a string and a part of it
abbrev pub text_function : TextFunction → List ℕ → List ℕ → Value
text_function StartsWith = λ s p. flag (begins_with p s)
text_function Contains = λ s p. flag (contains_text s p)
text_function Before = λ s p. text (before_part (cut_at p s))
text_function After = λ s p. text (behind_part (cut_at p s))

-- a calculation, and a function of strings, on two values
abbrev pub calculated : Calculation → Value → Value → Program Value
calculated by v u = in_numbers (calculation by) v u

abbrev pub by_texts : TextFunction → Value → Value → Program Value
by_texts by v u = in_texts (text_function by) v u

-- the operand that is written, or else the context node
abbrev pub own_operand : List XValue → Context → Value
own_operand operands c = first_or_context (all_meant operands) (stands c)

-- one is a node set and the other one a boolean
abbrev pub is_set_with_flag : Value → Value → Bool
is_set_with_flag (nodes ns) (flag b) = true
is_set_with_flag (flag b) (nodes ns) = true
is_set_with_flag v u = false
