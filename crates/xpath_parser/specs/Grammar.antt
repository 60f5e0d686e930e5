-- The grammar of paths (XPath 1.0, sections 2, 3 and 3.7, with the profile of docs/PROFILE.md, "Paths"). A rule refuses the first token that none of its texts goes on with.
use Rattle.std.specs.Prelude.{ℕ, zero, suc, ◌+◌, ◌-◌, Bool, true, false, not, ◌&&◌, ◌||◌, if◌then◌else◌, ◌==◌, nat_lt, nat_le, pos, List, [], ◌∷◌, ◌++◌, length, take, drop, encode_utf8_all, Option, None, Some, is_some, Ok, Err, codes}
use Rattle.std.specs.Str.{bytes_eq}
use Rattle.path_model.specs.Lawful.{most_nested}
use Rattle.path_model.specs.Numbers.{are_digits, digits_value}
use Rattle.path_model.specs.declared.path.Axis.{Axis}
use Rattle.path_model.specs.declared.path.Axis.TheVariants as axis
use Rattle.path_model.specs.declared.path.Expr.{Expr}
use Rattle.path_model.specs.declared.path.Expr.TheVariants as e
use Rattle.path_model.specs.declared.path.NodeTest.{NodeTest}
use Rattle.path_model.specs.declared.path.NodeTest.TheVariants as test
use Rattle.path_model.specs.declared.path.Op.{Op}
use Rattle.path_model.specs.declared.path.Op.TheVariants as op
use Rattle.path_model.specs.declared.path.Step.{Step, roll-Step}
use Rattle.path_model.specs.declared.path.XPath.{XPath, roll-XPath}
use Rattle.xpath_parser.specs.declared.lex.Kind.{Kind}
use Rattle.xpath_parser.specs.declared.lex.Kind.TheVariants as k
use Rattle.xpath_parser.specs.declared.refusal.Refusal.{Refusal}
use Rattle.xpath_parser.specs.declared.refusal.Refusal.TheVariants.{Syntax, Unsupported, Deep}
use Rattle.xpath_parser.specs.declared.refusal.What.{What}
use Rattle.xpath_parser.specs.declared.refusal.What.TheVariants as what
use Rattle.xpath_parser.specs.declared.words.Function.{Function}
use Rattle.xpath_parser.specs.Input.{Parser, ◌>>=◌, ◌>>◌, pure, refuse, unsupported, peek, take_token, take_name, expect, kind, next, sees, sees_word, spelling}
use Rattle.xpath_parser.specs.Lex.{Text}
use Rattle.xpath_parser.specs.Words.{axis_named, function_named, is_foreign_type, is_node_type}

-- ---- what stands next

-- an operator that this profile leaves out
unfoldable pub is_foreign : Text → Bool
is_foreign i = sees k.Bar i || (sees_word (codes "div") i || sees_word (codes "mod") i)

-- the operator of a sign, with its level of precedence, 1 being the tightest
abbrev pub sign_operator : Kind → Option (ℕ × Op)
sign_operator k.Star = Some (1, op.Mul)
sign_operator k.Plus = Some (2, op.Add)
sign_operator k.Minus = Some (2, op.Sub)
sign_operator k.Less = Some (3, op.Lt)
sign_operator k.LessEqual = Some (3, op.Le)
sign_operator k.Greater = Some (3, op.Gt)
sign_operator k.GreaterEqual = Some (3, op.Ge)
sign_operator k.Equal = Some (4, op.Eq)
sign_operator k.NotEqual = Some (4, op.Ne)
sign_operator kind = None

-- the operator that comes next
unfoldable pub operator : Text → Option (ℕ × Op)
operator i =
    if sees_word (codes "and") i then Some (5, op.And)
    else if sees_word (codes "or") i then Some (6, op.Or) else sign_operator (kind i)

-- that of a level alone
abbrev pub of_level : ℕ → Option (ℕ × Op) → Option Op
of_level level None = None
of_level level (Some o) = if o.0 == level then Some o.1 else None

-- an expression of XPath 1.0 goes on with this token, but no path
unfoldable pub is_operator : Text → Bool
is_operator i = is_some (operator i)

-- an expression of XPath 1.0 begins with this token, but no path
abbrev pub begins_expression : Kind → Bool
begins_expression k.Number = true
begins_expression k.Fraction = true
begins_expression k.Literal = true
begins_expression k.Variable = true
begins_expression k.Open = true
begins_expression k.Minus = true
begins_expression kind = false

abbrev pub begins_step : Kind → Bool
begins_step k.Dot = true
begins_step k.DoubleDot = true
begins_step k.At = true
begins_step k.Name = true
begins_step k.Prefix = true
begins_step k.Star = true
begins_step kind = false

-- the token that stands where a closing one is expected
unfoldable pub stray : Text → Refusal
stray i = if is_foreign i then Unsupported what.Operator (length i) else Syntax (length i)

unfoldable pub close : Kind → Parser (Unit {0})
close k = λ i. if sees k i then Ok (tt, next i) else Err (stray i)

-- an expression that is no path, which no predicate and no step may follow
unfoldable pub unfiltered : Expr → Parser Expr
unfiltered x = λ i. if sees k.OpenBracket i || (sees k.Slash i || sees k.DoubleSlash i) then unsupported what.Filter i else Ok (x, i)

-- ---- numbers and literals

-- of 1 to 18 digits
abbrev pub number_of : Text → Option ℕ
number_of z = if are_digits z then Some (digits_value 0 z) else None

abbrev pub numbered_by : Option ℕ → Parser Expr
numbered_by None = unsupported what.Number
numbered_by (Some n) = take_token >> unfiltered (e.Number (pos n))

unfoldable pub numbered : Parser Expr
numbered = λ i. numbered_by (number_of (spelling i)) i

-- without the quotes
abbrev pub literal_of : Text → List ℕ
literal_of z = encode_utf8_all (take (length z - 2) (drop 1 z))

unfoldable pub quoted : Parser Expr
quoted = λ i. unfiltered (e.Literal (literal_of (spelling i))) (next i)

-- ---- node tests

-- a function call where none may stand: in the place of an expression it is refused for that
abbrev pub refuse_call : {A : Type 0} → Option What → Parser A
refuse_call None = refuse
refuse_call (Some w) = unsupported w

-- at the `(` behind a name
unfoldable pub node_type : Option What → List ℕ → Parser NodeTest
node_type call name =
    if bytes_eq name (codes "text") then (take_token >> expect k.Close >> pure test.Text)
    else if bytes_eq name (codes "node") then (take_token >> expect k.Close >> pure test.Node)
    else if is_foreign_type name then unsupported what.NodeTest
    else refuse_call call

-- behind a name
unfoldable pub named_test : Option What → List ℕ → Parser NodeTest
named_test call name = λ i. if sees k.Open i then node_type call name i else Ok (test.Name name, i)

abbrev pub node_test_by : Kind → Parser NodeTest
node_test_by k.Name = take_name >>= named_test None
node_test_by k.Star = take_token >> pure test.Any
node_test_by k.Prefix = unsupported what.Prefix
node_test_by kind = refuse

unfoldable pub node_test : Parser NodeTest
node_test = peek >>= node_test_by

-- ---- steps

abbrev pub make_step : Axis → NodeTest → List Expr → Step
make_step a t es = roll-Step (record { axis = a; test = t; tests = es })

abbrev pub make_path : Bool → List Step → XPath
make_path is_absolute ss = roll-XPath (record { absolute = is_absolute; steps = ss })

-- `//`
abbrev pub any_below : Step
any_below = make_step axis.DescendantOrSelf test.Node []

-- ---- chains and calls

-- operands with operators of one level between them; where there is no operator it is the last one
abbrev pub chain_of : List Expr → List Op → Expr → Expr
chain_of es [] x = x
chain_of es (o ∷ ops) x = e.Chain (es ++ x ∷ []) (o ∷ ops)

abbrev pub on_operator : Option Op → (Op → Parser Expr) → Parser Expr → Parser Expr
on_operator None more done = done
on_operator (Some o) more done = more o

-- the operands before the last one, their operators, and the last one; the parser is that of operands
unfoldable pub links_from : Parser Expr → ℕ → ℕ → List Expr → List Op → Expr → Parser Expr
links_from tighter level zero es ops x = pure (chain_of es ops x)
links_from tighter level (suc n) es ops x = λ i.
    on_operator (of_level level (operator i)) (λ o. take_token >> tighter >>= (λ y. links_from tighter level n (es ++ x ∷ []) (ops ++ o ∷ []) y)) (pure (chain_of es ops x)) i

-- the level of a function's arguments: with all operators, or a node set alone
abbrev pub argument_level : Function → ℕ
argument_level f = if f.takes_nodes then 7 else 6

-- ---- what holds nested parts

-- so many nested parts may still be opened; the inner parser is that of the expressions in one, by their level
module _ (room : ℕ) (inner : ℕ → Parser Expr) where
  -- the token that opens a nested part
  unfoldable pub open_part : Parser (Unit {0})
  open_part = λ i. if room == 0 then Err (Deep (length i)) else Ok (tt, next i)

  -- so many turns at most; each takes a token, so the count of characters is enough
  unfoldable pub predicates_from : ℕ → List Expr → Parser (List Expr)
  predicates_from zero found = pure found
  predicates_from (suc n) found = λ i.
      if sees k.OpenBracket i then (open_part >> inner 6 >>= (λ x. close k.CloseBracket >> predicates_from n (found ++ x ∷ []))) i else Ok (found, i)

  unfoldable pub predicates : Parser (List Expr)
  predicates = λ i. predicates_from (length i) [] i

  -- behind an axis
  unfoldable pub step_along : Axis → Parser Step
  step_along a = do
    t ← node_test
    es ← predicates
    pure (make_step a t es)

  abbrev pub step_on_axis : List ℕ → Option Axis → Parser Step
  step_on_axis name (Some a) = take_token >> step_along a
  step_on_axis name None = if bytes_eq name (codes "namespace") then unsupported what.Axis else refuse

  -- at the `::` behind a name
  unfoldable pub step_on : List ℕ → Parser Step
  step_on name = step_on_axis name (axis_named name)

  -- behind a name that begins a step
  unfoldable pub named_step : Option What → List ℕ → Parser Step
  named_step call name = λ i.
      if sees k.DoubleColon i then step_on name i
      else (named_test call name >>= (λ t. predicates >>= (λ es. pure (make_step axis.Child t es)))) i

  abbrev pub step_by : Option What → Kind → Parser Step
  step_by call k.Dot = take_token >> pure (make_step axis.SelfNode test.Node [])
  step_by call k.DoubleDot = take_token >> pure (make_step axis.Parent test.Node [])
  step_by call k.At = take_token >> step_along axis.Attribute
  step_by call k.Name = take_name >>= named_step call
  step_by call kind = step_along axis.Child

  unfoldable pub step : Option What → Parser Step
  step call = peek >>= step_by call

  -- further steps behind some
  unfoldable pub steps_from : ℕ → List Step → Parser (List Step)
  steps_from zero found = pure found
  steps_from (suc n) found = λ i.
      if sees k.Slash i then (take_token >> step None >>= (λ s. steps_from n (found ++ s ∷ []))) i
      else if sees k.DoubleSlash i then (take_token >> step None >>= (λ s. steps_from n ((found ++ any_below ∷ []) ++ s ∷ []))) i
      else Ok (found, i)

  unfoldable pub steps : List Step → Parser (List Step)
  steps found = λ i. steps_from (length i) found i

  -- behind some steps and what leads to the next
  unfoldable pub steps_on : Option What → List Step → Parser (List Step)
  steps_on call found = do
    s ← step call
    steps (found ++ s ∷ [])

  -- behind the `/` that begins a path
  unfoldable pub from_document : Parser XPath
  from_document = λ i. if begins_step (kind i) then (steps_on None [] >>= (λ ss. pure (make_path true ss))) i else Ok (make_path true [], i)

  -- behind the `//` that begins a path
  unfoldable pub from_anywhere : Parser XPath
  from_anywhere = steps_on None (any_below ∷ []) >>= (λ ss. pure (make_path true ss))

  abbrev pub path_by : Option What → Kind → Parser XPath
  path_by call k.Slash = take_token >> from_document
  path_by call k.DoubleSlash = take_token >> from_anywhere
  path_by call kind = steps_on call [] >>= (λ ss. pure (make_path false ss))

  unfoldable pub path : Option What → Parser XPath
  path call = peek >>= path_by call

  -- where a path alone may stand: other expressions are refused for that
  unfoldable pub lone_path : What → Parser XPath
  lone_path w = λ i. if begins_expression (kind i) then unsupported w i else path (Some w) i

  -- ---- expressions

  -- a node set as an argument
  unfoldable pub argument_path : Parser Expr
  argument_path = lone_path what.Argument >>= (λ p i. if is_foreign i then unsupported what.Operator i else if is_operator i then unsupported what.Argument i else Ok (e.Path p, i))

  -- the arguments of a function that are left behind some, so many turns at most; one at least is left
  unfoldable pub arguments_from : Function → ℕ → List Expr → Parser (List Expr)
  arguments_from f zero found = λ i. Err (stray i)
  arguments_from f (suc n) found = inner (argument_level f) >>= (λ x i.
      if nat_le f.least (length found + 1) && sees k.Close i then Ok (found ++ x ∷ [], next i)
      else if nat_lt (length found + 1) f.most && sees k.Comma i then arguments_from f n (found ++ x ∷ []) (next i)
      else Err (stray i))

  unfoldable pub some_arguments : Function → Parser (List Expr)
  some_arguments f = λ i. arguments_from f (length i) [] i

  -- behind the `(` of a call
  unfoldable pub arguments : Function → Parser (List Expr)
  arguments f = λ i.
      if f.least == 0 && sees k.Close i then Ok ([], next i)
      else if f.most == 0 then refuse i else some_arguments f i

  abbrev pub call_of : Option Function → Parser Expr
  call_of None = unsupported what.Function
  call_of (Some f) = open_part >> arguments f >>= (λ xs. unfiltered (e.Apply f.op xs))

  -- at the `(` behind a name
  unfoldable pub call : List ℕ → Parser Expr
  call name = call_of (function_named name)

  -- behind a name that begins an operand
  unfoldable pub named_operand : List ℕ → Parser Expr
  named_operand name = λ i.
      if sees k.Open i && not (is_node_type name) then call name i
      else (named_step None name >>= (λ s. steps (s ∷ []) >>= (λ ss. pure (e.Path (make_path false ss))))) i

  unfoldable pub parenthesized : Parser Expr
  parenthesized = do
    open_part
    x ← inner 6
    close k.Close
    unfiltered x

  abbrev pub operand_by : Kind → Parser Expr
  operand_by k.Number = numbered
  operand_by k.Literal = quoted
  operand_by k.Open = parenthesized
  operand_by k.Name = take_name >>= named_operand
  operand_by k.Fraction = unsupported what.Fraction
  operand_by k.Variable = unsupported what.Variable
  operand_by kind = path None >>= (λ p. pure (e.Path p))

  unfoldable pub operand : Parser Expr
  operand = peek >>= operand_by

  unfoldable pub unary : Parser Expr
  unary = λ i. if sees k.Minus i then (open_part >> inner 0 >>= (λ x. pure (e.Apply op.Negate (x ∷ [])))) i else operand i

  -- an expression of a level of precedence
  unfoldable pub chain : ℕ → Parser Expr
  chain zero = unary
  chain (suc n) = chain n >>= (λ x i. links_from (chain n) (suc n) (length i) [] [] x i)

  -- the expressions in a nested part: of a level of precedence, or a node set alone
  unfoldable pub expression_of : ℕ → Parser Expr
  expression_of level = if level == 7 then argument_path else chain level

-- with room for so many nested parts
unfoldable pub expression : ℕ → ℕ → Parser Expr
expression zero level = expression_of zero (λ _. refuse) level
expression (suc room) level = expression_of (suc room) (expression room) level

-- what stands inside a nested part
abbrev pub inside : ℕ → ℕ → Parser Expr
inside zero level = refuse
inside (suc room) level = expression room level

-- a path, and nothing behind it
abbrev pub whole : Parser XPath
whole = lone_path most_nested (inside most_nested) what.Expression >>= (λ p i.
    if sees k.End i then Ok (p, i) else if is_foreign i || is_operator i then unsupported what.Expression i else refuse i)
