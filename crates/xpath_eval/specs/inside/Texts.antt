-- String-values, and what is made of values by them.
use Rattle.std.specs.Prelude.{List, [], ℕ}
use Rattle.tree_model.specs.declared.record.Record.TheVariants.{Text}
use Rattle.path_model.specs.Evaluation.{with_first}
use Rattle.path_model.specs.Functions.{Value}
use Rattle.path_model.specs.Numbers.{Num}
use Rattle.path_model.specs.Positions.{Position, a_node}
use Rattle.path_model.specs.Programs.{Program, ends, and_then}
use Rattle.path_model.specs.Values.{text_in, number_in}

-- the data of a text; of another position none
abbrev pub data_of : Position → List ℕ
data_of (a_node l (Text d)) = d
data_of n = []

-- a value as a string, and as a number
abbrev pub as_text : Value → Program (List ℕ)
as_text v = and_then (with_first v) (λ x. ends (text_in x))

abbrev pub as_number : Value → Program Num
as_number v = and_then (with_first v) (λ x. ends (number_in x))
