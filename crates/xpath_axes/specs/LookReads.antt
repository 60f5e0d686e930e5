-- How many reads of the map a look makes at most.
use Rattle.std.specs.Prelude.{ℕ, zero, suc, ◌+◌, ◌≤◌, Bool, if◌then◌else◌, List, [], ◌∷◌, length, Option}
use Rattle.tree_model.specs.Entries.{Entries}
use Rattle.tree_model.specs.Tree.{Tree}
use Rattle.node_seq.specs.Trees.{StandsFor}
use Rattle.path_model.specs.declared.path.Axis.{Axis}
use Rattle.path_model.specs.declared.path.NodeTest.{NodeTest}
use Rattle.path_model.specs.Positions.{Position, passes}
use Rattle.path_model.specs.Programs.{Look, seen}

-- the count of reads rose by no more than one for each of these positions, of the tree that the known map stands for, and one,
-- however the call ended
abbrev pub ReadsEach : Option Entries → (Tree → List Position) → ℕ → ℕ → Type 0
ReadsEach contents these before after = (t : Tree) → StandsFor contents t → after ≤ before + (length (these t) + 1)

-- the positions are those that the look sees
abbrev pub ReadsOfLook : Option Entries → Look → ℕ → ℕ → Type 0
ReadsOfLook contents o before after = ReadsEach contents (λ t. seen t o) before after

-- of positions those up to the last that is wanted, of so many that pass a test; all where fewer pass
abbrev pub up_to : (Position → Bool) → ℕ → List Position → List Position
up_to q zero ns = []
up_to q (suc k) [] = []
up_to q (suc k) (n ∷ ns) = n ∷ (if q n then up_to q k ns else up_to q (suc k) ns)

-- the positions are those up to the last for which there is room, of these that pass the test of a step along an axis
abbrev pub ReadsUpTo : Option Entries → Axis → NodeTest → ℕ → (Tree → List Position) → ℕ → ℕ → Type 0
ReadsUpTo contents axis test room these before after =
    ReadsEach contents (λ t. up_to (passes axis test) room (these t)) before after
