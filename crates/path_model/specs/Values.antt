-- Values of expressions, and how they are compared (XPath 1.0, sections 3.4 and 4; docs/PROFILE.md, "Paths").
use Rattle.std.specs.Prelude.{ℕ, Bool, true, false, not, ◌||◌, if◌then◌else◌, pos, int_le, int_lt, List, [], ◌∷◌, None, Some, codes}
use Rattle.std.specs.List.{list_any}
use Rattle.std.specs.Ordering.{int_eq}
use Rattle.std.specs.Str.{bytes_eq}
use Rattle.path_model.specs.declared.path.CompareOp.{CompareOp}
use Rattle.path_model.specs.declared.path.CompareOp.TheVariants.{Eq, Ne, Lt, Le, Gt, Ge}
use Rattle.path_model.specs.Numbers.{Num, number_of_text, text_of_number}

-- a node set, a number, a text or a boolean
pub data ValueOf (N : Type 0) : Type 0 where
  nodes : N → ValueOf N
  number : Num → ValueOf N
  text : List ℕ → ValueOf N
  flag : Bool → ValueOf N

-- with a node set by its string-values, in document order
abbrev pub Strings : Type 0
Strings = ValueOf (List (List ℕ))

-- ---- conversions

abbrev pub is_filled : {A : Type 0} → List A → Bool
is_filled [] = false
is_filled (x ∷ xs) = true

-- not-a-number and zero are false
abbrev pub is_nonzero : Num → Bool
is_nonzero None = false
is_nonzero (Some z) = not (int_eq z (pos 0))

-- as a boolean; a node set is one by having nodes
abbrev pub truth : {A : Type 0} → ValueOf (List A) → Bool
truth (nodes ns) = is_filled ns
truth (number n) = is_nonzero n
truth (text s) = is_filled s
truth (flag b) = b

abbrev pub text_of_flag : Bool → List ℕ
text_of_flag b = if b then codes "true" else codes "false"

abbrev pub number_of_flag : Bool → Num
number_of_flag b = Some (pos (if b then 1 else 0))

-- that of the first node, empty where there is none
abbrev pub first_text : List (List ℕ) → List ℕ
first_text [] = []
first_text (s ∷ ss) = s

-- as a string
abbrev pub text_in : Strings → List ℕ
text_in (nodes ss) = first_text ss
text_in (number n) = text_of_number n
text_in (text s) = s
text_in (flag b) = text_of_flag b

-- as a number
abbrev pub number_in : Strings → Num
number_in (nodes ss) = number_of_text (first_text ss)
number_in (number n) = n
number_in (text s) = number_of_text s
number_in (flag b) = number_of_flag b

-- ---- comparisons

-- not-a-number differs from every number, and stands in no order
abbrev pub compare_numbers : CompareOp → Num → Num → Bool
compare_numbers Eq (Some a) (Some b) = int_eq a b
compare_numbers Ne (Some a) (Some b) = not (int_eq a b)
compare_numbers Lt (Some a) (Some b) = int_lt a b
compare_numbers Le (Some a) (Some b) = int_le a b
compare_numbers Gt (Some a) (Some b) = int_lt b a
compare_numbers Ge (Some a) (Some b) = int_le b a
compare_numbers Ne a b = true
compare_numbers op a b = false

abbrev pub same_flag : Bool → Bool → Bool
same_flag true b = b
same_flag false b = not b

abbrev pub is_flag : Strings → Bool
is_flag (flag b) = true
is_flag v = false

abbrev pub is_number : Strings → Bool
is_number (number n) = true
is_number v = false

-- whether two values that are no node sets are the same: as booleans if one is one, else as numbers if one is one, else as strings
abbrev pub are_same : Strings → Strings → Bool
are_same a b =
    if is_flag a || is_flag b then same_flag (truth a) (truth b)
    else if is_number a || is_number b then compare_numbers Eq (number_in a) (number_in b)
    else bytes_eq (text_in a) (text_in b)

-- values that are no node sets; the orders turn both into numbers
abbrev pub compare_single : CompareOp → Strings → Strings → Bool
compare_single Eq a b = are_same a b
compare_single Ne a b = not (are_same a b)
compare_single op a b = compare_numbers op (number_in a) (number_in b)

-- two node sets compare where some pair of string-values does; with a boolean a node set is one itself;
-- with a number or a string it compares where the string-value of some node does, turned into that
abbrev pub compare : CompareOp → Strings → Strings → Bool
compare op (nodes ss) (nodes rs) = list_any (λ s. list_any (λ r. compare_single op (text s) (text r)) rs) ss
compare op (nodes ss) (flag b) = compare_single op (flag (is_filled ss)) (flag b)
compare op (nodes ss) b = list_any (λ s. compare_single op (text s) b) ss
compare op (flag b) (nodes ss) = compare_single op (flag b) (flag (is_filled ss))
compare op a (nodes ss) = list_any (λ s. compare_single op a (text s)) ss
compare op a b = compare_single op a b
