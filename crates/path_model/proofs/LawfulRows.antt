-- Worked rows: what makes a path lawful, level by level (docs/PROFILE.md, "Paths").
use Rattle.std.proofs.Common.{◌≡◌, ℕ, ℤ, Bool, true, false, List, [], ◌∷◌, pos, negsuc, refl}
use Rattle.std.specs.Prelude.{nat_le}
use Rattle.path_model.specs.Lawful.{Form, applies, links, form_of_expr, depth_of_expr, depth_of_step, most_nested}
use Rattle.path_model.specs.declared.path.Axis.TheVariants as axis
use Rattle.path_model.specs.declared.path.Expr.TheOpen.{Expr-F}
use Rattle.path_model.specs.declared.path.NodeTest.TheVariants as test
use Rattle.path_model.specs.declared.path.Op.TheVariants as op

abbrev a_path : Form
a_path = record { is_path = true; is_formed = true }

abbrev a_string : Form
a_string = form_of_expr (Expr-F.Literal [])

-- ---- operands: `count(x)`, `count('x')`, `count()`, `name()`, `concat('x')`, `concat('x', 'x', 'x')`, `substring('x', 'x', 'x', 'x')`, `-'x'`

row_count : applies op.Count (a_path ∷ []) ≡ true
row_count = refl

row_count_of_a_string : applies op.Count (a_string ∷ []) ≡ false
row_count_of_a_string = refl

row_count_of_nothing : applies op.Count [] ≡ false
row_count_of_nothing = refl

row_name : applies op.NameOf [] ≡ true
row_name = refl

row_concat_of_one : applies op.Concat (a_string ∷ []) ≡ false
row_concat_of_one = refl

row_concat_of_three : applies op.Concat (a_string ∷ a_string ∷ a_string ∷ []) ≡ true
row_concat_of_three = refl

row_substring_of_four : applies op.Substring (a_string ∷ a_string ∷ a_string ∷ a_string ∷ []) ≡ false
row_substring_of_four = refl

row_minus : applies op.Negate (a_string ∷ []) ≡ true
row_minus = refl

-- `1 + 2` is a chain
row_binary_by_itself : applies op.Add (a_string ∷ a_string ∷ []) ≡ false
row_binary_by_itself = refl

-- an operand that isn't formed as it must be
row_wrong_inside : form_of_expr (Expr-F.Apply op.Not (form_of_expr (Expr-F.Apply op.Count []) ∷ [])) ≡ record { is_path = false; is_formed = false }
row_wrong_inside = refl

-- ---- chains: `1 + 2 - 3`, and what is none

row_chain : links 3 (op.Add ∷ op.Sub ∷ []) ≡ true
row_chain = refl

row_two_levels : links 3 (op.Add ∷ op.Mul ∷ []) ≡ false
row_two_levels = refl

row_no_operator : links 1 [] ≡ false
row_no_operator = refl

row_operand_missing : links 1 (op.Or ∷ []) ≡ false
row_operand_missing = refl

row_no_binary : links 2 (op.Not ∷ []) ≡ false
row_no_binary = refl

-- ---- numbers

abbrev is_number : ℤ → Bool
is_number z = (form_of_expr (Expr-F.Number z)).is_formed

row_greatest : is_number (pos 999999999999999999) ≡ true
row_greatest = refl

row_too_great : is_number (pos 1000000000000000000) ≡ false
row_too_great = refl

-- -999,999,999,999,999,999 and one below
row_least : is_number (negsuc 999999999999999998) ≡ true
row_least = refl

row_too_small : is_number (negsuc 999999999999999999) ≡ false
row_too_small = refl

-- ---- nested parts: a predicate with 49 and with 50 in it; two beside each other are no deeper than one

abbrev fits_with : List ℕ → Bool
fits_with depths = nat_le (depth_of_step (record { axis = axis.Child; test = test.Any; tests = depths })) most_nested

row_fifty : fits_with (49 ∷ []) ≡ true
row_fifty = refl

row_fifty_one : fits_with (49 ∷ 50 ∷ []) ≡ false
row_fifty_one = refl

row_beside : depth_of_expr (Expr-F.Apply op.Concat (2 ∷ 7 ∷ 3 ∷ [])) ≡ 8
row_beside = refl
