-- A program of looks that was run over a map: its answer, the looks that were noted, and the reads that it made (docs/PROFILE.md, "Paths").
-- What keeps answers is right of a tree or not: where nothing more is seen, `saw` says that it is right.
use Rattle.std.specs.Prelude.{◌≡◌, ◌≤◌, ◌+◌, ℕ, List, [], ◌∷◌, length, Option, Result}
use Rattle.tree_model.specs.Entries.{Entries}
use Rattle.tree_model.specs.Tree.{Tree}
use Rattle.node_seq.specs.Trees.{OnTree}
use Rattle.path_model.specs.Programs.{Look, seen, Program, answer, looked}

-- the most reads that looks make: for each of them one a position that it sees, and one
abbrev pub reads_of : Tree → List Look → ℕ
reads_of t [] = 0
reads_of t (o ∷ os) = (length (seen t o) + 1) + reads_of t os

-- a map is read, and the looks are noted
module _ {S W : Type 0} (reads : S → ℕ) (saw : Tree → W → List Look → W → Type 0) where
  -- from one moment to another these looks were made
  pub record Went (t : Tree) (os : List Look) (s : S) (w : W) (s' : S) (w' : W) : Type 0 where
    pub noted : saw t w os w'
    pub read : reads s' ≤ reads s + reads_of t os

  -- the program was run, and this is its answer
  pub record IsRun {A : Type 0} (t : Tree) (program : Program A) (outcome : A) (s : S) (w : W) (s' : S) (w' : W) : Type 0 where
    pub is : outcome ≡ answer t program
    pub went : Went t (looked t program) s w s' w'

  -- so it was where what had been kept is right of the tree
  pub record HasRun {A : Type 0} (t : Tree) (program : Program A) (outcome : A) (s : S) (w : W) (s' : S) (w' : W) : Type 0 where
    pub run : saw t w [] w → IsRun t program outcome s w s' w'

  -- so it is on each valid tree that the known map stands for, where the call succeeded; `means` is what its result means
  abbrev pub Runs : {A R E : Type 0} → (S → Option Entries) → Program A → (R → A) → S → W → Result R E → S → W → Type 0
  Runs contents program means s w result s' w' = OnTree (contents s) result (λ t r. HasRun t program (means r) s w s' w')
