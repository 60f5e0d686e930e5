-- On which side of a label another label lies (docs/PROFILE.md, "Labels").
-- The five sides are axes of XPath 1.0, section 2.2: ancestor, preceding, self, descendant, following.
use Rattle.std.specs.Prelude.{◌-◌, Bool, true, false, cond, ℕ, List, [], ◌∷◌, ◌++◌, length, replicate, Option, Some, None}
use Rattle.std.specs.declared.cmp.Ordering.{Ordering}
use Rattle.std.specs.declared.cmp.Ordering.TheVariants.{Less, Equal, Greater}
use Rattle.std.specs.Ordering.{nat_cmp}
use Rattle.dewey_labels.specs.Labels.{Label, greatest, most_divisions, is_odd}

pub data Side : Type 0 where
  above left same under right : Side

-- the side that the first divisions settle, or else that of what follows them
abbrev pub turn : Ordering → Side → Side
turn Less s = left
turn Equal s = s
turn Greater s = right

-- the side of the label l on which the label k lies
abbrev pub side : Label → Label → Side
side [] [] = same
side [] (y ∷ k) = under
side (x ∷ l) [] = above
side (x ∷ l) (y ∷ k) = turn (nat_cmp y x) (side l k)

-- under the label, as its descendants are
abbrev pub is_under : Side → Bool
is_under above = false
is_under left = false
is_under same = false
is_under under = true
is_under right = false

-- at the label or under it, as its subtree is
abbrev pub is_in : Side → Bool
is_in above = false
is_in left = false
is_in same = true
is_in under = true
is_in right = false

-- to the right of the label, as what follows its subtree is
abbrev pub is_right : Side → Bool
is_right above = false
is_right left = false
is_right same = false
is_right under = false
is_right right = true

-- before the label in the order of labels, and so before its subtree
abbrev pub ahead : Side → Bool
ahead above = true
ahead left = true
ahead same = false
ahead under = false
ahead right = false

-- the divisions of k behind those of l, for a k in the subtree of l
abbrev pub rest : Label → Label → Label
rest [] k = k
rest (x ∷ l) [] = []
rest (x ∷ l) (y ∷ k) = rest l k

-- the first code of the divisions: up to the first odd one
abbrev pub first_code : List ℕ → List ℕ
first_code [] = []
first_code (d ∷ ds) = cond (is_odd d) (d ∷ []) (d ∷ first_code ds)

-- the label of the child of p on the way to l, where l lies under p
abbrev pub child_toward : Label → Label → Option Label
child_toward p l = cond (is_under (side p l)) (Some (p ++ first_code (rest p l))) None

-- the last label that the subtree of l may have
abbrev pub fill : Label → Label
fill l = l ++ replicate (most_divisions - length l) greatest
