-- Worked rows: operators and functions on strings, numbers and booleans (XPath 1.0, sections 3.4, 3.5 and 4; docs/PROFILE.md, "Paths"). The strings are examples of the standard where it has one.
use Rattle.std.proofs.Common.{◌≡◌, true, false, [], ◌∷◌, refl, None, Some}
use Rattle.std.specs.Prelude.{codes, pos, negsuc, ℕ, ℤ}
use Rattle.tree_model.specs.declared.record.Record.TheVariants.{Document, Element, Text}
use Rattle.tree_model.specs.Tree.{none, node, Tree}
use Rattle.std.specs.Str.{chars}
use Rattle.std.specs.Fmt.{digits}
use lib.Utf8.{encode}
use Rattle.path_model.specs.declared.path.Op.TheVariants as op
use Rattle.path_model.specs.declared.path.Op.{Op}
use Rattle.path_model.specs.Functions.{Value}
use Rattle.path_model.specs.Meaning.{value_in}
use Rattle.path_model.specs.Paths.{Expr, literal, apply, no_more, then_expr, binary}
use Rattle.path_model.specs.Paths as paths
use Rattle.path_model.specs.Positions.{a_node}
use Rattle.path_model.specs.Values.{text, flag}
use Rattle.path_model.specs.Values as values

-- the context node is the element a of ["a"," x  y "], the second of three
abbrev tree : Tree
tree = record {
  catalogue = (codes "m", 1 ∷ 1001 ∷ []) ∷ [];
  documents = node (1 ∷ 1001 ∷ []) Document [] (node (1 ∷ 1001 ∷ 1001 ∷ []) (Element (codes "a")) [] (node (1 ∷ 1001 ∷ 1001 ∷ 1001 ∷ []) (Text (codes " x  y ")) [] none none) none) none;
}

abbrev worth : Expr → Value
worth e = value_in tree e (record { at = a_node (1 ∷ 1001 ∷ 1001 ∷ []) (Element (codes "a")); proximity = 2; size = 3 })

abbrev lone : Op → Value
lone o = worth (apply o no_more)

abbrev one : Op → Expr → Expr
one o e = apply o (then_expr e no_more)

abbrev three : Op → Expr → Expr → Expr → Expr
three o e f g = apply o (then_expr e (then_expr f (then_expr g no_more)))

abbrev whole : ℕ → Expr
whole n = paths.number (pos n)

abbrev number : ℤ → Value
number z = values.number (Some z)

abbrev not_a_number : Value
not_a_number = values.number None

-- ---- the context

place : lone op.Position ≡ number (pos 2)
place = refl

last_place : lone op.Last ≡ number (pos 3)
last_place = refl

own_name : lone op.NameOf ≡ text (codes "a")
own_name = refl

own_string : lone op.StringOf ≡ text (codes " x  y ")
own_string = refl

own_length : lone op.StringLength ≡ number (pos 6)
unfolding chars
own_length = refl

own_normal : lone op.NormalizeSpace ≡ text (codes "x y")
own_normal = refl

own_number : lone op.NumberOf ≡ not_a_number
own_number = refl

-- ---- strings

joined : worth (three op.Concat (literal (codes "a")) (whole 1) (apply op.TrueOf no_more)) ≡ text (codes "a1true")
unfolding digits
joined = refl

starts : worth (binary op.StartsWith (literal (codes "abc")) (literal (codes "ab"))) ≡ flag true
starts = refl

starts_with_nothing : worth (binary op.StartsWith (literal (codes "abc")) (literal [])) ≡ flag true
starts_with_nothing = refl

contains : worth (binary op.Contains (literal (codes "aab")) (literal (codes "ab"))) ≡ flag true
contains = refl

contains_no_more : worth (binary op.Contains (literal []) (literal (codes "a"))) ≡ flag false
contains_no_more = refl

before : worth (binary op.SubstringBefore (literal (codes "1999/04/01")) (literal (codes "/"))) ≡ text (codes "1999")
before = refl

after : worth (binary op.SubstringAfter (literal (codes "1999/04/01")) (literal (codes "/"))) ≡ text (codes "04/01")
after = refl

after_two : worth (binary op.SubstringAfter (literal (codes "1999/04/01")) (literal (codes "19"))) ≡ text (codes "99/04/01")
after_two = refl

before_none : worth (binary op.SubstringBefore (literal (codes "abc")) (literal (codes "x"))) ≡ text []
before_none = refl

within : worth (three op.Substring (literal (codes "12345")) (whole 2) (whole 3)) ≡ text (codes "234")
unfolding chars encode
within = refl

to_the_end : worth (binary op.Substring (literal (codes "12345")) (whole 2)) ≡ text (codes "2345")
unfolding chars encode
to_the_end = refl

from_zero : worth (three op.Substring (literal (codes "12345")) (whole 0) (whole 3)) ≡ text (codes "12")
unfolding chars encode
from_zero = refl

of_not_a_number : worth (three op.Substring (literal (codes "12345")) (whole 1) (literal (codes "x"))) ≡ text []
of_not_a_number = refl

-- a length is in characters: é is two bytes
length_in_characters : worth (one op.StringLength (literal (0xC3 ∷ 0xA9 ∷ []))) ≡ number (pos 1)
unfolding chars
length_in_characters = refl

-- ---- numbers

trimmed : worth (one op.NumberOf (literal (codes " 12 "))) ≡ number (pos 12)
trimmed = refl

below_zero : worth (one op.NumberOf (literal (codes "-7"))) ≡ number (negsuc 6)
below_zero = refl

no_fraction : worth (one op.NumberOf (literal (codes "1.5"))) ≡ not_a_number
no_fraction = refl

no_plus : worth (one op.NumberOf (literal (codes "+1"))) ≡ not_a_number
no_plus = refl

of_nothing : worth (one op.NumberOf (literal [])) ≡ not_a_number
of_nothing = refl

eighteen_digits : worth (one op.NumberOf (literal (codes "999999999999999999"))) ≡ number (pos 999_999_999_999_999_999)
eighteen_digits = refl

nineteen_digits : worth (one op.NumberOf (literal (codes "0000000000000000001"))) ≡ not_a_number
nineteen_digits = refl

-- out of range
too_great : worth (binary op.Add (whole 999_999_999_999_999_999) (whole 1)) ≡ not_a_number
too_great = refl

no_negative_zero : worth (one op.StringOf (one op.Negate (whole 0))) ≡ text (codes "0")
unfolding digits
no_negative_zero = refl

negated : worth (one op.StringOf (one op.Negate (whole 12))) ≡ text (codes "-12")
unfolding digits
negated = refl

not_a_number_prints : worth (one op.StringOf (one op.NumberOf (literal (codes "x")))) ≡ text (codes "NaN")
not_a_number_prints = refl

-- ---- booleans

nothing_is_false : worth (one op.BooleanOf (literal [])) ≡ flag false
nothing_is_false = refl

a_string_is_true : worth (one op.BooleanOf (literal (codes "false"))) ≡ flag true
a_string_is_true = refl

zero_is_false : worth (one op.BooleanOf (whole 0)) ≡ flag false
zero_is_false = refl

not_a_number_is_false : worth (one op.BooleanOf (one op.NumberOf (literal (codes "x")))) ≡ flag false
not_a_number_is_false = refl

true_is_one : worth (one op.NumberOf (apply op.TrueOf no_more)) ≡ number (pos 1)
true_is_one = refl

-- ---- comparisons

-- as booleans, where one is
as_booleans : worth (binary op.Eq (whole 2) (apply op.TrueOf no_more)) ≡ flag true
as_booleans = refl

-- as numbers, where one is
as_numbers : worth (binary op.Eq (literal (codes "01")) (whole 1)) ≡ flag true
as_numbers = refl

-- as strings else
as_strings : worth (binary op.Eq (literal (codes "01")) (literal (codes "1"))) ≡ flag false
as_strings = refl

-- the orders always as numbers
order_of_strings : worth (binary op.Lt (literal (codes "a")) (literal (codes "b"))) ≡ flag false
order_of_strings = refl

order_of_digits : worth (binary op.Lt (literal (codes "9")) (literal (codes "10"))) ≡ flag true
order_of_digits = refl

-- not-a-number is like no number, itself included
unlike_itself : worth (binary op.Ne (one op.NumberOf (literal (codes "x"))) (one op.NumberOf (literal (codes "x")))) ≡ flag true
unlike_itself = refl

not_like_itself : worth (binary op.Eq (one op.NumberOf (literal (codes "x"))) (one op.NumberOf (literal (codes "x")))) ≡ flag false
not_like_itself = refl

not_in_order : worth (binary op.Ge (one op.NumberOf (literal (codes "x"))) (one op.NumberOf (literal (codes "x")))) ≡ flag false
not_in_order = refl
