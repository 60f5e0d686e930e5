-- The label of a new node, from its parent and its neighbours (docs/PROFILE.md, "New labels").
-- l is the code of the neighbour to the left, r that of the one to the right.
use Rattle.std.specs.Prelude.{◌≡◌, ℕ, ◌+◌, ◌-◌, ◌&&◌, ◌==◌, nat_le, nat_lt, if◌then◌else◌, List, [], ◌∷◌, ◌++◌, Option, Some, None, option_map, IsTrue}
use Rattle.std.specs.declared.cmp.Ordering.TheVariants.{Less}
use Rattle.std.specs.Ordering.{nat_cmp}
use Rattle.std.specs.Cmp.Lexicographic.{slice_cmp}
use Rattle.dewey_labels.specs.Labels.{Label, is_child, is_odd, is_within}
use Rattle.dewey_labels.specs.Sides.{rest}

-- the odd division with which the children of a node are begun: there is room on both sides of it
abbrev pub first_division : ℕ
first_division = 1001

-- the code of a child with no neighbour
abbrev pub alone : List ℕ
alone = first_division ∷ []

-- the least odd number above a
abbrev pub odd_above : ℕ → ℕ
odd_above a = if is_odd a then a + 2 else a + 1

-- the code behind l, where no neighbour stands to the right
abbrev pub after : List ℕ → List ℕ
after [] = []
after (a ∷ l) = odd_above a ∷ []

-- the code before r, where no neighbour stands to the left
abbrev pub before : List ℕ → List ℕ
before [] = []
before (b ∷ r) =
    if is_odd b && nat_le 5 b then (b - 2) ∷ []
    else if b == 3 then 2 ∷ first_division ∷ []
    else if nat_le 4 b then (b - 1) ∷ []
    else 2 ∷ before r

-- the code between l and r
abbrev pub between : List ℕ → List ℕ → List ℕ
between [] r = []
between (a ∷ l) [] = []
between (a ∷ l) (b ∷ r) =
    if a == b then a ∷ between l r
    else if nat_lt (odd_above a) b then odd_above a ∷ []
    else if is_odd a && b == a + 2 then (a + 1) ∷ first_division ∷ []
    else if is_odd a then b ∷ before r
    else a ∷ after l

-- the code between two neighbours, each of which may be missing
abbrev pub new_code : Option (List ℕ) → Option (List ℕ) → List ℕ
new_code None None = alone
new_code (Some l) None = after l
new_code None (Some r) = before r
new_code (Some l) (Some r) = between l r

-- the divisions of a new child of p between the labels of its neighbours
abbrev pub new_divisions : Label → Option Label → Option Label → List ℕ
new_divisions p left right = p ++ new_code (option_map (rest p) left) (option_map (rest p) right)

-- the label of a new child of p between the labels of its neighbours; None where it would pass a limit
abbrev pub new_label : Label → Option Label → Option Label → Option Label
new_label p left right = if is_within (new_divisions p left right) then Some (new_divisions p left right) else None

-- the neighbours of a new child of p: children of p, the left one before the right one; each of them may be missing
abbrev pub AreNeighbours : Label → Option Label → Option Label → Type 0
AreNeighbours p None None = Unit {0}
AreNeighbours p (Some l) None = IsTrue (is_child p l)
AreNeighbours p None (Some r) = IsTrue (is_child p r)
AreNeighbours p (Some l) (Some r) = IsTrue (is_child p l) × IsTrue (is_child p r) × (slice_cmp nat_cmp l r ≡ Less)
