-- The text of a path (docs/PROFILE.md, "Paths"): its tokens, each with a space behind it. Each step is written with its axis, and parentheses stand only where they are needed.
use Rattle.std.specs.Prelude.{ℕ, suc, ◌^◌, Bool, true, false, not, ◌&&◌, ◌||◌, ◌==◌, nat_le, nat_lt, if◌then◌else◌, ℤ, pos, negsuc, List, [], ◌∷◌, ◌++◌, length, map, encode_utf8_all, codes, decimal}
use Rattle.std.specs.List.{list_any, list_all}
use Rattle.std.specs.Str.{chars, is_utf8}
use Rattle.path_model.specs.Lawful.{deepest, precedence, is_lawful, most_nested}
use Rattle.path_model.specs.declared.path.Axis.{Axis}
use Rattle.path_model.specs.declared.path.Axis.TheVariants as axis
use Rattle.path_model.specs.declared.path.Expr.{Expr, fold-Expr}
use Rattle.path_model.specs.declared.path.Expr.TheOpen.{Expr-F, Step-F, XPath-F}
use Rattle.path_model.specs.declared.path.NodeTest.{NodeTest}
use Rattle.path_model.specs.declared.path.NodeTest.TheVariants as test
use Rattle.path_model.specs.declared.path.Op.{Op}
use Rattle.path_model.specs.declared.path.Op.TheVariants as op
use Rattle.path_model.specs.declared.path.Step.{Step, fold-Step}
use Rattle.path_model.specs.declared.path.XPath.{XPath, fold-XPath}
use Rattle.xpath_parser.specs.declared.lex.Kind.TheVariants as k
use Rattle.xpath_parser.specs.Input.{same_kind}
use Rattle.xpath_parser.specs.Lex.{Text, first_passes, begins_run, token}

-- ---- the words of tokens, as characters

abbrev pub axis_word : Axis → Text
axis_word axis.Child = codes "child"
axis_word axis.Descendant = codes "descendant"
axis_word axis.Parent = codes "parent"
axis_word axis.Ancestor = codes "ancestor"
axis_word axis.FollowingSibling = codes "following-sibling"
axis_word axis.PrecedingSibling = codes "preceding-sibling"
axis_word axis.Following = codes "following"
axis_word axis.Preceding = codes "preceding"
axis_word axis.Attribute = codes "attribute"
axis_word axis.SelfNode = codes "self"
axis_word axis.DescendantOrSelf = codes "descendant-or-self"
axis_word axis.AncestorOrSelf = codes "ancestor-or-self"

-- of a binary operator
abbrev pub operator_word : Op → Text
operator_word op.Mul = codes "*"
operator_word op.Add = codes "+"
operator_word op.Sub = codes "-"
operator_word op.Lt = codes "<"
operator_word op.Le = codes "<="
operator_word op.Gt = codes ">"
operator_word op.Ge = codes ">="
operator_word op.Eq = codes "="
operator_word op.Ne = codes "!="
operator_word op.And = codes "and"
operator_word op.Or = codes "or"
operator_word o = []

abbrev pub function_word : Op → Text
function_word op.Position = codes "position"
function_word op.Last = codes "last"
function_word op.Count = codes "count"
function_word op.Sum = codes "sum"
function_word op.NameOf = codes "name"
function_word op.StringOf = codes "string"
function_word op.Concat = codes "concat"
function_word op.StartsWith = codes "starts-with"
function_word op.Contains = codes "contains"
function_word op.SubstringBefore = codes "substring-before"
function_word op.SubstringAfter = codes "substring-after"
function_word op.Substring = codes "substring"
function_word op.StringLength = codes "string-length"
function_word op.NormalizeSpace = codes "normalize-space"
function_word op.BooleanOf = codes "boolean"
function_word op.Not = codes "not"
function_word op.TrueOf = codes "true"
function_word op.FalseOf = codes "false"
function_word op.NumberOf = codes "number"
function_word o = []

-- a word, with a space behind it, before a text
abbrev pub word : Text → Text → Text
word w z = w ++ 32 ∷ z

-- ---- what is written for a part of a path

pub record Written : Type 0 where
  -- its text, before another one
  pub before : Text → Text
  -- the level of the operators that stand in it outside of parentheses, and 0 where none does
  pub level : ℕ
  -- it is `/` alone, behind which a name or `*` would be read as a step
  pub is_root : Bool
  -- how many predicates, calls, unary minuses and parentheses lie in each other
  pub parts : ℕ
  -- all in it can be written
  pub is_sayable : Bool

abbrev pub all_sayable : List Written → Bool
all_sayable xs = list_all (λ x. x.is_sayable) xs

abbrev pub none_of : List Written → Bool
none_of [] = true
none_of (x ∷ xs) = false

-- each behind a word
abbrev pub behind : Text → List Written → Text → Text
behind w [] z = z
behind w (x ∷ xs) z = word w (x.before (behind w xs z))

-- with a word between
abbrev pub between : Text → List Written → Text → Text
between w [] z = z
between w (x ∷ xs) z = x.before (behind w xs z)

-- ---- steps and paths

-- the word is one token, a name
abbrev pub is_name : Text → Bool
is_name w = first_passes begins_run w && (same_kind (token w).0 k.Name && (token w).1 == length w)

abbrev pub test_before : NodeTest → Text → Text
test_before (test.Name name) z = word (chars name) z
test_before test.Any z = word (codes "*") z
test_before test.Text z = word (codes "text") (word (codes "(") (word (codes ")") z))
test_before test.Node z = word (codes "node") (word (codes "(") (word (codes ")") z))

abbrev pub is_sayable_test : NodeTest → Bool
is_sayable_test (test.Name name) = is_utf8 name && is_name (chars name)
is_sayable_test other = true

abbrev pub bracketed : List Written → Text → Text
bracketed [] z = z
bracketed (x ∷ xs) z = word (codes "[") (x.before (word (codes "]") (bracketed xs z)))

abbrev pub step_written : Step-F Written Written Written → Written
step_written s = record {
  before = λ z. word (axis_word s.axis) (word (codes "::") (test_before s.test (bracketed s.tests z)));
  level = 0;
  is_root = false;
  parts = deepest (map suc (map (λ x. x.parts) s.tests));
  is_sayable = is_sayable_test s.test && all_sayable s.tests;
}

abbrev pub path_before : Bool → List Written → Text → Text
path_before true ss z = word (codes "/") (between (codes "/") ss z)
path_before false ss z = between (codes "/") ss z

abbrev pub path_written : XPath-F Written Written Written → Written
path_written p = record {
  before = path_before p.absolute p.steps;
  level = 0;
  is_root = p.absolute && none_of p.steps;
  parts = deepest (map (λ s. s.parts) p.steps);
  is_sayable = (p.absolute || not (none_of p.steps)) && all_sayable p.steps;
}

-- ---- expressions

-- one word
abbrev pub written_word : Text → Bool → Written
written_word w is_sayable = record { before = word w; level = 0; is_root = false; parts = 0; is_sayable = is_sayable }

-- a number below 0 has no text of its own: what `-1` is read as is a unary minus
abbrev pub number_written : ℤ → Written
number_written (pos n) = written_word (decimal n) true
number_written (negsuc n) = written_word [] false

-- the quote of a literal: `'` where it has a `"`
abbrev pub quote_of : Text → ℕ
quote_of z = if list_any (λ c. c == 34) z then 39 else 34

abbrev pub literal_word : Text → Text
literal_word z = quote_of z ∷ (z ++ quote_of z ∷ [])

-- its quote doesn't stand in it
abbrev pub is_quotable : Text → Bool
is_quotable z = list_all (λ c. not (c == quote_of z)) z

abbrev pub literal_written : List ℕ → Written
literal_written s = written_word (literal_word (chars s)) (is_utf8 s && is_quotable (chars s))

-- as an operand of an operator of this level
abbrev pub needs_parentheses : ℕ → Written → Bool
needs_parentheses n x = x.is_root || nat_le n x.level

abbrev pub operand_before : ℕ → Written → Text → Text
operand_before n x z = if needs_parentheses n x then word (codes "(") (x.before (word (codes ")") z)) else x.before z

abbrev pub operand_parts : ℕ → Written → ℕ
operand_parts n x = if needs_parentheses n x then suc x.parts else x.parts

-- further operands, each behind its operator
abbrev pub further : ℕ → List Written → List Op → Text → Text
further n [] ops z = z
further n (x ∷ xs) [] z = z
further n (x ∷ xs) (o ∷ ops) z = word (operator_word o) (operand_before n x (further n xs ops z))

abbrev pub chain_before : ℕ → List Written → List Op → Text → Text
chain_before n [] ops z = z
chain_before n (x ∷ xs) ops z = operand_before n x (further n xs ops z)

abbrev pub chain_level : List Op → ℕ
chain_level [] = 0
chain_level (o ∷ ops) = precedence o

abbrev pub chain_written : List Written → List Op → Written
chain_written xs ops = record {
  before = chain_before (chain_level ops) xs ops;
  level = chain_level ops;
  is_root = false;
  parts = deepest (map (operand_parts (chain_level ops)) xs);
  is_sayable = all_sayable xs;
}

abbrev pub minus_before : List Written → Text → Text
minus_before [] z = z
minus_before (x ∷ xs) z = word (codes "-") (operand_before 1 x z)

abbrev pub minus_written : List Written → Written
minus_written xs = record { before = minus_before xs; level = 0; is_root = false; parts = suc (deepest (map (operand_parts 1) xs)); is_sayable = all_sayable xs }

-- more arguments than can be counted are read of no text
abbrev pub call_written : Op → List Written → Written
call_written o xs = record {
  before = λ z. word (function_word o) (word (codes "(") (between (codes ",") xs (word (codes ")") z)));
  level = 0;
  is_root = false;
  parts = suc (deepest (map (λ x. x.parts) xs));
  is_sayable = nat_lt (length xs) (2 ^ 64) && all_sayable xs;
}

abbrev pub apply_written : Op → List Written → Written
apply_written op.Negate xs = minus_written xs
apply_written o xs = call_written o xs

abbrev pub expr_written : Expr-F Written Written Written → Written
expr_written (Expr-F.Path p) = p
expr_written (Expr-F.Number z) = number_written z
expr_written (Expr-F.Literal s) = literal_written s
expr_written (Expr-F.Chain xs ops) = chain_written xs ops
expr_written (Expr-F.Apply o xs) = apply_written o xs

abbrev pub written : Expr → Written
written = fold-Expr Written Written Written expr_written step_written path_written

abbrev pub written_step : Step → Written
written_step = fold-Step Written Written Written expr_written step_written path_written

abbrev pub written_path : XPath → Written
written_path = fold-XPath Written Written Written expr_written step_written path_written

-- ---- the text of a path

unfoldable pub text_of : XPath → List ℕ
text_of p = encode_utf8_all ((written_path p).before [])

-- some text is read as this path: it is lawful, its numbers aren't negative, its names are names, none of its literals has both quotes,
-- one that doesn't begin at the document has a step, and with the parentheses that it needs at most 50 parts lie in each other
abbrev pub has_text : XPath → Bool
has_text p = is_lawful p && ((written_path p).is_sayable && nat_le (written_path p).parts most_nested)
