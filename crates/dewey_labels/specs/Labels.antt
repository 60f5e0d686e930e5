-- Labels as lists of divisions (docs/PROFILE.md, "Labels"; after the DeweyIDs of Haustein and Härder).
use Rattle.std.specs.Prelude.{◌≡◌, ℕ, zero, suc, ◌≤◌, ◌-◌, ◌%◌, Bool, true, false, cond, ◌&&◌, not, List, [], ◌∷◌, length, ◌==◌, nat_le, count_by, IsTrue}
use Rattle.std.specs.List.{AllByRecursion, list_all}
use Rattle.dewey_labels.specs.Lists.{is_empty}

-- a label as contracts see it: the list of its divisions
abbrev pub Label : Type 0
Label = List ℕ

-- the label of the store's root
abbrev pub root : Label
root = 1 ∷ []

-- the greatest division that a label may have
abbrev pub greatest : ℕ
greatest = 4_294_967_291

-- the most divisions that a label may have
abbrev pub most_divisions : ℕ
most_divisions = 255

-- an odd division ends a code, an even one is an overflow division
abbrev pub is_odd : ℕ → Bool
is_odd d = d % 2 == 1

-- one code: even divisions from 2 on, then an odd one from 3 on
abbrev pub is_code : List ℕ → Bool
is_code [] = false
is_code (d ∷ ds) = cond (is_odd d) (nat_le 3 d && is_empty ds) (nat_le 2 d && is_code ds)

-- l is the label of a child of p: p and one code
abbrev pub is_child : Label → Label → Bool
is_child [] l = is_code l
is_child (x ∷ p) [] = false
is_child (x ∷ p) (y ∷ l) = (x == y) && is_child p l

-- codes in a row: each even division has another one behind it, so the last division is odd
abbrev pub are_codes : List ℕ → Bool
are_codes [] = true
are_codes (d ∷ ds) = cond (is_odd d) (nat_le 3 d && are_codes ds) (nat_le 2 d && (not (is_empty ds) && are_codes ds))

-- a label: the division 1 and the codes of its levels
abbrev pub is_label : Label → Bool
is_label [] = false
is_label (d ∷ ds) = (d == 1) && are_codes ds

-- the label without its last code; the root, which has none, stays as it is
abbrev pub parent : Label → Label
parent [] = []
parent (d ∷ ds) = cond (is_code (d ∷ ds)) [] (d ∷ parent ds)

-- the number of codes: an odd division ends each, and one begins the label
abbrev pub level : Label → ℕ
level l = count_by is_odd l - 1

-- the label without its last n codes
abbrev pub cut : ℕ → Label → Label
cut zero l = l
cut (suc n) l = parent (cut n l)

-- a is the label of a proper ancestor of l: some codes of l are cut off, one at least
abbrev pub IsAncestor : Label → Label → Type 0
IsAncestor a l = (n : ℕ) × (1 ≤ n) × (n ≤ level l) × (a ≡ cut n l)

-- the same of two labels as a test: l goes on behind a
abbrev pub is_ancestor : Label → Label → Bool
is_ancestor [] l = not (is_empty l)
is_ancestor (x ∷ a) [] = false
is_ancestor (x ∷ a) (y ∷ l) = (x == y) && is_ancestor a l

-- the limits on divisions
abbrev pub Within : Label → Type 0
Within l = (length l ≤ most_divisions) × AllByRecursion (λ d. d ≤ greatest) l

-- the same as a test
abbrev pub is_within : Label → Bool
is_within l = nat_le (length l) most_divisions && list_all (λ d. nat_le d greatest) l

-- a label within the limits
abbrev pub IsLabel : Label → Type 0
IsLabel l = IsTrue (is_label l) × Within l

-- the same as a test
abbrev pub is_label_within : Label → Bool
is_label_within l = is_label l && is_within l
