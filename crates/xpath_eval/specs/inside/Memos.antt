-- What is kept of an evaluation, and on what a predicate hangs.
use Rattle.std.specs.Prelude.{◌≡◌, ℕ, ◌+◌, Bool, List, ◌∷◌, drop}
use Rattle.std.specs.BTreeMap.{values}
use Rattle.std.specs.List.{All}
use Rattle.tree_model.specs.Tree.{Tree}
use Rattle.path_model.specs.declared.path.Expr as declared
use Rattle.path_model.specs.Axes.{document_of}
use Rattle.path_model.specs.Paths.{Expr}
use Rattle.path_model.specs.PlainPaths.{plain}
use Rattle.path_model.specs.Positions.{Position, label_of}
use Rattle.path_model.specs.Programs.{Look, Program, answer, looked}
use Rattle.xpath_axes.specs.Kept.{holds_at}
use Rattle.xpath_axes.specs.Positions as position
use Rattle.xpath_eval.specs.declared.memo.Kept.{Kept}
use Rattle.xpath_eval.specs.declared.memo.Memo.{Memo}

-- ---- on what a predicate hangs

-- programs that look at the same, and have one answer, on each tree
pub record AreTheSame {A : Type 0} (p q : Program A) : Type 0 where
  pub answers : (t : Tree) → answer t p ≡ answer t q
  pub looks : (t : Tree) → looked t p ≡ looked t q

-- it keeps the one node just as the other one
abbrev pub AreAlike : Expr → Position → ℕ → ℕ → Position → ℕ → ℕ → Type 0
AreAlike e n p size m q most = AreTheSame (holds_at e n p size) (holds_at e m q most)

-- it keeps each node of a document or none
abbrev pub HangsOnDocument : Expr → Type 0
HangsOnDocument e = (n m : Position) (p size q most : ℕ) → document_of (label_of n) ≡ document_of (label_of m) → AreAlike e n p size m q most

-- ---- what is kept

-- as that of which it is kept
abbrev pub IsAlikeTo : Expr → Kept → Position → ℕ → ℕ → Type 0
IsAlikeTo e k m q most = AreAlike e (position.plain k.at) k.proximity k.size m q most

-- a predicate is meant that stands at a place of a list
abbrev pub IsAt : List declared.Expr → ℕ → Expr → Type 0
IsAt tests i e = (x : declared.Expr) × (drop i tests ≡ x ∷ drop (i + 1) tests) × (plain x ≡ e)

module _ {W : Type 0} (saw : W → List Look → W → Type 0) (t : Tree) where
  -- its answer is the program's, and all looks of that were noted
  pub record IsNoted (program : Program Bool) (b : Bool) (w : W) : Type 0 where
    pub right : b ≡ answer t program
    pub noted : saw w (looked t program) w

  -- what is kept of a predicate is right
  abbrev pub IsRightAt : List declared.Expr → W → Kept → Type 0
  IsRightAt tests w k = (e : Expr) → IsAt tests k.test e → IsNoted (holds_at e (position.plain k.at) k.proximity k.size) k.holds w

  -- all that is kept is right of the tree
  abbrev pub IsRight : Memo W → Type 0
  IsRight m = All (IsRightAt m.tests m.notes) (values m.kept)
