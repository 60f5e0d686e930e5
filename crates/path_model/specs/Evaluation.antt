-- The evaluation of a path as one program: what is looked at, in which order (docs/PROFILE.md, "Paths").
use Rattle.std.specs.Prelude.{ℕ, ◌+◌, Bool, true, false, not, if◌then◌else◌, List, [], ◌∷◌, drop, length, Some}
use Rattle.std.specs.List.{filter}
use Rattle.std.specs.Str.{chars}
use Rattle.tree_model.specs.declared.record.Record.TheVariants.{Text}
use Rattle.tree_model.specs.Keys.{key_cmp}
use Rattle.tree_model.specs.Orders.{by_order}
use Rattle.path_model.specs.declared.path.CompareOp.{CompareOp}
use Rattle.path_model.specs.declared.path.CompareOp.TheVariants as compared_by
use Rattle.path_model.specs.declared.path.Op.{Op}
use Rattle.path_model.specs.declared.path.Op.TheVariants as op
use Rattle.path_model.specs.Axes.{document_of}
use Rattle.path_model.specs.AxisPrograms.{along}
use Rattle.path_model.specs.Functions.{Value, Context, first_of, second_of, first_or_context, nodes_in, name_by, whole, zero_number, added_up, part_of, keeps}
use Rattle.path_model.specs.Meaning.{joined_texts}
use Rattle.path_model.specs.Numbers.{Num, plus, minus, times}
use Rattle.path_model.specs.Paths.{Expr, path, literal, apply, Exprs, no_more, then_expr, Steps, no_steps, step}
use Rattle.path_model.specs.Paths as paths
use Rattle.path_model.specs.Positions.{Position, a_node, an_attribute, label_of, key_of, passes}
use Rattle.path_model.specs.Programs.{at_node, at_tree, Program, ends, looks, and_then, gathered}
use Rattle.path_model.specs.Texts.{joined, begins_with, contains_text, cut_at, before_part, behind_part, normal_from}
use Rattle.path_model.specs.Values.{nodes, text, flag, Strings, truth, text_in, number_in, compare, same_flag}
use Rattle.path_model.specs.Values as values

-- ---- document order

-- a position put among others in document order, unless it is there
abbrev pub put_in : Position → List Position → List Position
put_in n [] = n ∷ []
put_in n (m ∷ ms) = by_order (key_cmp (key_of n) (key_of m)) (n ∷ m ∷ ms) (m ∷ ms) (m ∷ put_in n ms)

-- a list as a set in document order
abbrev pub in_order : List Position → List Position
in_order [] = []
in_order (n ∷ ns) = put_in n (in_order ns)

-- ---- string-values

-- an element or a document is looked at with all below it
abbrev pub string_value : Position → Program (List ℕ)
string_value (a_node l (Text d)) = ends d
string_value (a_node l r) = looks (at_tree l) (λ s. ends (joined_texts s))
string_value (an_attribute l n v) = ends v

abbrev pub string_values : List Position → Program (List (List ℕ))
string_values ns = gathered (λ n. and_then (string_value n) (λ s. ends (s ∷ []))) ns

-- that of the first node, where there is one
abbrev pub first_value : List Position → Program (List (List ℕ))
first_value [] = ends []
first_value (n ∷ ns) = and_then (string_value n) (λ s. ends (s ∷ []))

-- a value with the string-values of its nodes
abbrev pub with_strings : Value → Program Strings
with_strings (nodes ns) = and_then (string_values ns) (λ ss. ends (nodes ss))
with_strings (values.number n) = ends (values.number n)
with_strings (text s) = ends (text s)
with_strings (flag b) = ends (flag b)

-- or with that of the first one alone
abbrev pub with_first : Value → Program Strings
with_first (nodes ns) = and_then (first_value ns) (λ ss. ends (nodes ss))
with_first (values.number n) = ends (values.number n)
with_first (text s) = ends (text s)
with_first (flag b) = ends (flag b)

-- ---- operators and functions

-- a comparison takes the string-values of the left and then of the right
abbrev pub by_strings : CompareOp → Value → Value → Program Value
by_strings by a b = and_then (with_strings a) (λ x. and_then (with_strings b) (λ y. ends (flag (compare by x y))))

-- with a boolean it takes none of a node set
abbrev pub compared : CompareOp → Value → Value → Program Value
compared by (nodes ns) (flag b) = ends (flag (compare by (flag (truth (nodes ns))) (flag b)))
compared by (flag b) (nodes ns) = ends (flag (compare by (flag b) (flag (truth (nodes ns)))))
compared by a b = by_strings by a b

abbrev pub in_number : (Num → Value) → Value → Program Value
in_number f a = and_then (with_first a) (λ x. ends (f (number_in x)))

abbrev pub in_numbers : (Num → Num → Num) → Value → Value → Program Value
in_numbers f a b = and_then (with_first a) (λ x. and_then (with_first b) (λ y. ends (values.number (f (number_in x) (number_in y)))))

abbrev pub in_text : (List ℕ → Value) → Value → Program Value
in_text f a = and_then (with_first a) (λ x. ends (f (text_in x)))

abbrev pub in_texts : (List ℕ → List ℕ → Value) → Value → Value → Program Value
in_texts f a b = and_then (with_first a) (λ x. and_then (with_first b) (λ y. ends (f (text_in x) (text_in y))))

abbrev pub texts_of : List Value → Program (List (List ℕ))
texts_of vs = gathered (λ v. and_then (with_first v) (λ x. ends (text_in x ∷ []))) vs

abbrev pub numbers_of : List Value → Program (List Num)
numbers_of vs = gathered (λ v. and_then (with_first v) (λ x. ends (number_in x ∷ []))) vs

-- the part of the first operand that the others give
abbrev pub part : List Value → Program Value
part vs = and_then (with_first (first_of vs)) (λ x. and_then (with_first (second_of vs)) (λ y. and_then (numbers_of (drop 2 vs)) (λ zs. ends (text (part_of (text_in x) (number_in y) zs)))))

-- the unary minus
abbrev pub negated : Value → Program Value
negated a = in_number (λ x. values.number (minus zero_number x)) a

-- `sum`, of the numbers in the string-values of a node set
abbrev pub summed : Value → Program Value
summed a = and_then (string_values (nodes_in a)) (λ ss. ends (values.number (added_up zero_number ss)))

-- `concat`
abbrev pub concatenated : List Value → Program Value
concatenated vs = and_then (texts_of vs) (λ ss. ends (text (joined ss)))

-- `string`
abbrev pub string_of : Value → Program Value
string_of a = in_text text a

-- `string-length`, in characters
abbrev pub string_length_of : Value → Program Value
string_length_of a = in_text (λ s. whole (length (chars s))) a

-- `normalize-space`
abbrev pub normalized : Value → Program Value
normalized a = in_text (λ s. text (normal_from false s)) a

-- `number`
abbrev pub number_of : Value → Program Value
number_of a = in_number (λ x. values.number x) a

-- the operator or function on the values of all its operands
abbrev pub applied : Op → List Value → Context → Program Value
applied op.Or vs c = ends (flag false)
applied op.And vs c = ends (flag false)
applied op.Eq vs c = compared compared_by.Eq (first_of vs) (second_of vs)
applied op.Ne vs c = compared compared_by.Ne (first_of vs) (second_of vs)
applied op.Lt vs c = compared compared_by.Lt (first_of vs) (second_of vs)
applied op.Le vs c = compared compared_by.Le (first_of vs) (second_of vs)
applied op.Gt vs c = compared compared_by.Gt (first_of vs) (second_of vs)
applied op.Ge vs c = compared compared_by.Ge (first_of vs) (second_of vs)
applied op.Add vs c = in_numbers plus (first_of vs) (second_of vs)
applied op.Sub vs c = in_numbers minus (first_of vs) (second_of vs)
applied op.Mul vs c = in_numbers times (first_of vs) (second_of vs)
applied op.Negate vs c = negated (first_of vs)
applied op.Position vs c = ends (whole c.proximity)
applied op.Last vs c = ends (whole c.size)
applied op.Count vs c = ends (whole (length (nodes_in (first_of vs))))
applied op.Sum vs c = summed (first_of vs)
applied op.NameOf vs c = ends (text (name_by vs c))
applied op.StringOf vs c = string_of (first_or_context vs c)
applied op.Concat vs c = concatenated vs
applied op.StartsWith vs c = in_texts (λ s p. flag (begins_with p s)) (first_of vs) (second_of vs)
applied op.Contains vs c = in_texts (λ s p. flag (contains_text s p)) (first_of vs) (second_of vs)
applied op.SubstringBefore vs c = in_texts (λ s p. text (before_part (cut_at p s))) (first_of vs) (second_of vs)
applied op.SubstringAfter vs c = in_texts (λ s p. text (behind_part (cut_at p s))) (first_of vs) (second_of vs)
applied op.Substring vs c = part vs
applied op.StringLength vs c = string_length_of (first_or_context vs c)
applied op.NormalizeSpace vs c = normalized (first_or_context vs c)
applied op.BooleanOf vs c = ends (flag (truth (first_of vs)))
applied op.Not vs c = ends (flag (not (truth (first_of vs))))
applied op.TrueOf vs c = ends (flag true)
applied op.FalseOf vs c = ends (flag false)
applied op.NumberOf vs c = number_of (first_or_context vs c)

-- ---- predicates

-- a predicate at each node in turn
abbrev pub kept_by : (Context → Program Value) → ℕ → ℕ → List Position → Program (List Position)
kept_by test size p [] = ends []
kept_by test size p (n ∷ ns) =
    and_then (test (record { at = n; proximity = p; size = size })) (λ v. and_then (kept_by test size (p + 1) ns) (λ kept. ends (if keeps v p then n ∷ kept else kept)))

-- ---- paths

-- where a path begins
abbrev pub start : Bool → Position → Program (List Position)
start is_absolute n = if is_absolute then looks (at_node (document_of (label_of n))) ends else ends (n ∷ [])

abbrev mutual
  -- the value of an expression
  pub value : Expr → Context → Program Value
  value (path is_absolute ss) c = and_then (and_then (start is_absolute c.at) (λ ns. taken ss ns)) (λ ns. ends (nodes ns))
  value (paths.number z) c = ends (values.number (Some z))
  value (literal s) c = ends (text s)
  value (apply op.Or es) c = settled true es c
  value (apply op.And es) c = settled false es c
  value (apply o es) c = and_then (operands es c) (λ vs. applied o vs c)

  -- the first operand whose boolean is this one settles it; what stands behind that one is left out
  pub settled : Bool → Exprs → Context → Program Value
  settled by no_more c = ends (flag (not by))
  settled by (then_expr e es) c = and_then (value e c) (λ v. if same_flag by (truth v) then ends (flag by) else settled by es c)

  -- operands from left to right
  pub operands : Exprs → Context → Program (List Value)
  operands no_more c = ends []
  operands (then_expr e es) c = and_then (value e c) (λ v. and_then (operands es c) (λ vs. ends (v ∷ vs)))

  -- each predicate in turn for all nodes left
  pub filtered : Exprs → List Position → Program (List Position)
  filtered no_more ns = ends ns
  filtered (then_expr e es) ns = and_then (kept_by (λ c. value e c) (length ns) 1 ns) (λ kept. filtered es kept)

  -- steps from left to right, each from every node in document order
  pub taken : Steps → List Position → Program (List Position)
  taken no_steps ns = ends ns
  taken (step axis test es ss) ns =
      and_then (gathered (λ n. and_then (along axis test n) (λ ms. filtered es (filter (passes axis test) ms))) ns) (λ all. taken ss (in_order all))

-- a path from a position
abbrev pub find_from : Bool → Steps → Position → Program (List Position)
find_from is_absolute ss n = and_then (start is_absolute n) (λ ns. taken ss ns)
