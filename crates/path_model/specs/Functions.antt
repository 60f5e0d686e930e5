-- What operators and functions answer (XPath 1.0, sections 3 and 4; docs/PROFILE.md, "Paths").
use Rattle.std.specs.Prelude.{ℕ, Bool, true, false, not, List, [], ◌∷◌, map, drop, length, pos, None, Some}
use Rattle.std.specs.Ordering.{int_eq}
use Rattle.std.specs.Str.{chars}
use Rattle.tree_model.specs.Names.{Name}
use Rattle.path_model.specs.declared.path.CompareOp.{CompareOp}
use Rattle.path_model.specs.declared.path.CompareOp.TheVariants as compared_by
use Rattle.path_model.specs.declared.path.Op.{Op}
use Rattle.path_model.specs.declared.path.Op.TheVariants as op
use Rattle.path_model.specs.Numbers.{Num, plus, minus, times, number_of_text}
use Rattle.path_model.specs.Positions.{Position, own_name}
use Rattle.path_model.specs.Texts.{joined, begins_with, contains_text, cut_at, before_part, behind_part, substring_from, substring_within, normal_from}
use Rattle.path_model.specs.Values.{ValueOf, nodes, text, flag, Strings, truth, text_in, number_in, compare}
use Rattle.path_model.specs.Values as values

-- with a node set by its positions, in document order
abbrev pub Value : Type 0
Value = ValueOf (List Position)

-- where an expression stands: the context node, its proximity position, and the context size
pub record Context : Type 0 where
  pub at : Position
  pub proximity : ℕ
  pub size : ℕ

-- ---- operands

-- by their places; a path has as many as its operators and functions take
abbrev pub first_of : List Value → Value
first_of [] = flag false
first_of (v ∷ vs) = v

abbrev pub second_of : List Value → Value
second_of vs = first_of (drop 1 vs)

-- where none is written it is the context node
abbrev pub first_or_context : List Value → Context → Value
first_or_context [] c = nodes (c.at ∷ [])
first_or_context (v ∷ vs) c = v

abbrev pub nodes_in : Value → List Position
nodes_in (nodes ns) = ns
nodes_in v = []

abbrev pub first_name : List Position → Name
first_name [] = []
first_name (n ∷ ns) = own_name n

-- of the first node of a node set, or of the context node
abbrev pub name_by : List Value → Context → Name
name_by [] c = own_name c.at
name_by (v ∷ vs) c = first_name (nodes_in v)

-- ---- answers

abbrev pub whole : ℕ → Value
whole n = values.number (Some (pos n))

abbrev pub zero_number : Num
zero_number = Some (pos 0)

abbrev pub added_up : Num → List (List ℕ) → Num
added_up n [] = n
added_up n (s ∷ ss) = added_up (plus n (number_of_text s)) ss

-- the part of a text from a place on, up to an end where a length is given
abbrev pub part_of : List ℕ → Num → List Num → List ℕ
part_of s n [] = substring_from s n
part_of s n (m ∷ ms) = substring_within s n m

-- with the string-value of each node
module _ (string_value : Position → List ℕ) where
  abbrev pub strings_of : Value → Strings
  strings_of (nodes ns) = nodes (map string_value ns)
  strings_of (values.number n) = values.number n
  strings_of (text s) = text s
  strings_of (flag b) = flag b

  abbrev pub text_of : Value → List ℕ
  text_of v = text_in (strings_of v)

  abbrev pub number_of : Value → Num
  number_of v = number_in (strings_of v)

  abbrev pub compared : CompareOp → List Value → Value
  compared by vs = flag (compare by (strings_of (first_of vs)) (strings_of (second_of vs)))

  -- the operator or function on the values of all its operands; `or` and `and`, which leave operands out, stand elsewhere
  abbrev pub computed : Op → List Value → Context → Value
  computed op.Or vs c = flag false
  computed op.And vs c = flag false
  computed op.Eq vs c = compared compared_by.Eq vs
  computed op.Ne vs c = compared compared_by.Ne vs
  computed op.Lt vs c = compared compared_by.Lt vs
  computed op.Le vs c = compared compared_by.Le vs
  computed op.Gt vs c = compared compared_by.Gt vs
  computed op.Ge vs c = compared compared_by.Ge vs
  computed op.Add vs c = values.number (plus (number_of (first_of vs)) (number_of (second_of vs)))
  computed op.Sub vs c = values.number (minus (number_of (first_of vs)) (number_of (second_of vs)))
  computed op.Mul vs c = values.number (times (number_of (first_of vs)) (number_of (second_of vs)))
  computed op.Negate vs c = values.number (minus zero_number (number_of (first_of vs)))
  computed op.Position vs c = whole c.proximity
  computed op.Last vs c = whole c.size
  computed op.Count vs c = whole (length (nodes_in (first_of vs)))
  computed op.Sum vs c = values.number (added_up zero_number (map string_value (nodes_in (first_of vs))))
  computed op.NameOf vs c = text (name_by vs c)
  computed op.StringOf vs c = text (text_of (first_or_context vs c))
  computed op.Concat vs c = text (joined (map text_of vs))
  computed op.StartsWith vs c = flag (begins_with (text_of (second_of vs)) (text_of (first_of vs)))
  computed op.Contains vs c = flag (contains_text (text_of (first_of vs)) (text_of (second_of vs)))
  computed op.SubstringBefore vs c = text (before_part (cut_at (text_of (second_of vs)) (text_of (first_of vs))))
  computed op.SubstringAfter vs c = text (behind_part (cut_at (text_of (second_of vs)) (text_of (first_of vs))))
  computed op.Substring vs c = text (part_of (text_of (first_of vs)) (number_of (second_of vs)) (map number_of (drop 2 vs)))
  computed op.StringLength vs c = whole (length (chars (text_of (first_or_context vs c))))
  computed op.NormalizeSpace vs c = text (normal_from false (text_of (first_or_context vs c)))
  computed op.BooleanOf vs c = flag (truth (first_of vs))
  computed op.Not vs c = flag (not (truth (first_of vs)))
  computed op.TrueOf vs c = flag true
  computed op.FalseOf vs c = flag false
  computed op.NumberOf vs c = values.number (number_of (first_or_context vs c))

-- ---- predicates

-- a number is tested against the proximity position, any other value is turned into a boolean
abbrev pub keeps : Value → ℕ → Bool
keeps (values.number None) p = false
keeps (values.number (Some z)) p = int_eq z (pos p)
keeps v p = truth v
