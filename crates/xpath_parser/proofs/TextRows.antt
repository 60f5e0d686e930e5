-- Worked rows: the texts of parts of paths, and which have none (docs/PROFILE.md, "Paths").
use Rattle.std.proofs.Common.{◌≡◌, ℕ, true, false, List, [], ◌∷◌, refl}
use Rattle.std.specs.Prelude.{codes, negsuc}
use Rattle.path_model.specs.declared.path.Axis.TheVariants as axis
use Rattle.path_model.specs.declared.path.NodeTest.TheVariants as test
use Rattle.path_model.specs.declared.path.Op.TheVariants as op
use Rattle.tree_model.specs.Names.{is_start_char, is_name_char}
use Rattle.xpath_parser.specs.Lex.{token, behind_run, behind_colon}
use Rattle.xpath_parser.specs.PathText.{Written, written_word, number_written, is_quotable, is_name, step_written, path_written, chain_written, apply_written, literal_word}

abbrev word_of : List ℕ → Written
word_of w = written_word w true

abbrev one : Written
one = word_of (codes "1")

abbrev two : Written
two = word_of (codes "2")

-- ---- `1 + 2 * 2`, `(1 + 2) * 2`, `1 - (2 - 1)`, `1 - 2 - 1`

abbrev sum : Written
sum = chain_written (one ∷ two ∷ []) (op.Add ∷ [])

row_looser_outside : (chain_written (one ∷ chain_written (two ∷ two ∷ []) (op.Mul ∷ []) ∷ []) (op.Add ∷ [])).before [] ≡ codes "1 + 2 * 2 "
row_looser_outside = refl

row_looser_inside : (chain_written (sum ∷ two ∷ []) (op.Mul ∷ [])).before [] ≡ codes "( 1 + 2 ) * 2 "
row_looser_inside = refl

row_same_level : (chain_written (one ∷ chain_written (two ∷ one ∷ []) (op.Sub ∷ []) ∷ []) (op.Sub ∷ [])).before [] ≡ codes "1 - ( 2 - 1 ) "
row_same_level = refl

row_one_chain : (chain_written (one ∷ two ∷ one ∷ []) (op.Sub ∷ op.Sub ∷ [])).before [] ≡ codes "1 - 2 - 1 "
row_one_chain = refl

-- ---- `- 1`, `- (1 + 2)`, `- - 1`

row_minus : (apply_written op.Negate (one ∷ [])).before [] ≡ codes "- 1 "
row_minus = refl

row_minus_of_a_sum : (apply_written op.Negate (sum ∷ [])).before [] ≡ codes "- ( 1 + 2 ) "
row_minus_of_a_sum = refl

row_minus_twice : (apply_written op.Negate (apply_written op.Negate (one ∷ []) ∷ [])).before [] ≡ codes "- - 1 "
row_minus_twice = refl

-- ---- `/ child::b [ position() = 1 ]`; `(/) and 1`, where `/ and` would be a step

abbrev at_one : Written
at_one = chain_written (apply_written op.Position [] ∷ one ∷ []) (op.Eq ∷ [])

row_path : (path_written (record { absolute = true; steps = step_written (record { axis = axis.Child; test = test.Any; tests = at_one ∷ [] }) ∷ [] })).before [] ≡ codes "/ child :: * [ position ( ) = 1 ] "
row_path = refl

abbrev root : Written
root = path_written (record { absolute = true; steps = [] })

row_root : (chain_written (root ∷ one ∷ []) (op.And ∷ [])).before [] ≡ codes "( / ) and 1 "
row_root = refl

-- a predicate, a call in it, and parentheses
row_parts : (path_written (record { absolute = false; steps = step_written (record { axis = axis.Child; test = test.Any; tests = chain_written (apply_written op.Not (at_one ∷ []) ∷ sum ∷ []) (op.Mul ∷ []) ∷ [] }) ∷ [] })).parts ≡ 3
row_parts = refl

-- ---- what has no text

row_no_step : (path_written (record { absolute = false; steps = [] })).is_sayable ≡ false
row_no_step = refl

row_negative : (number_written (negsuc 0)).is_sayable ≡ false
row_negative = refl

row_both_quotes : is_quotable (34 ∷ 39 ∷ []) ≡ false
row_both_quotes = refl

row_double_quote : literal_word (34 ∷ []) ≡ 39 ∷ 34 ∷ 39 ∷ []
row_double_quote = refl

row_name : is_name (codes "a:b-c.1") ≡ true
unfolding token behind_run behind_colon is_start_char is_name_char
row_name = refl

row_two_colons : is_name (codes "a:b:c") ≡ false
unfolding token behind_run behind_colon is_start_char is_name_char
row_two_colons = refl

row_prefix : is_name (codes "a:*") ≡ false
unfolding token behind_run behind_colon is_start_char is_name_char
row_prefix = refl

row_no_name : is_name [] ≡ false
row_no_name = refl
