-- Lists of positions as sets (XPath 1.0, sections 1 and 5).
use Rattle.std.specs.Prelude.{◌≡◌, ◌⊎◌, true, List, [], ◌∷◌}
use Rattle.std.specs.declared.cmp.Ordering.TheVariants.{Less}
use Rattle.std.specs.List.{AllByRecursion}
use Rattle.tree_model.specs.Keys.{key_cmp}
use Rattle.tree_model.specs.Tree.{Tree}
use Rattle.tree_model.specs.ValidTrees.{IsValidTree}
use Rattle.path_model.specs.Positions.{Position, positions, is_node, key_of}

-- the position is one of these
abbrev pub Among : Position → List Position → Type 0
Among n [] = ⊥
Among n (m ∷ ms) = (n ≡ m) ⊎ Among n ms

-- it is one of the tree, and each is
abbrev pub At : Tree → Position → Type 0
At t n = Among n (positions t)

abbrev pub AllAt : Tree → List Position → Type 0
AllAt t ns = AllByRecursion (At t) ns

-- this holds of any two nodes of a valid tree
abbrev pub OfTwoNodes : (Position → Position → Type 0) → Type 0
OfTwoNodes holds =
    (t : Tree) (n m : Position) → IsValidTree t → At t n → At t m → is_node n ≡ true → is_node m ≡ true → holds n m

-- the first position's key lies below that of the second one
abbrev pub Precedes : Position → Position → Type 0
Precedes n m = key_cmp (key_of n) (key_of m) ≡ Less

-- in document order, and none twice
abbrev pub Rises : List Position → Type 0
Rises [] = Unit {0}
Rises (n ∷ ns) = AllByRecursion (Precedes n) ns × Rises ns
