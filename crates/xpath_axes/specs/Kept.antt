-- What may be kept of an evaluation: whether a predicate keeps a node, by the predicate and where it was tested.
use Rattle.std.specs.Prelude.{◌≡◌, ℕ, Bool, List, [], Option, IfSome}
use Rattle.tree_model.specs.Tree.{Tree}
use Rattle.path_model.specs.Evaluation.{value}
use Rattle.path_model.specs.Functions.{Context, keeps}
use Rattle.path_model.specs.Paths.{Expr}
use Rattle.path_model.specs.Positions.{Position}
use Rattle.path_model.specs.Programs.{Look, Program, ends, and_then, answer, looked}

-- whether a predicate keeps the context node
abbrev pub holds : Expr → Context → Program Bool
holds e c = and_then (value e c) (λ v. ends (keeps v c.proximity))

-- and a node at its proximity position, of so many
abbrev pub holds_at : Expr → Position → ℕ → ℕ → Program Bool
holds_at e n p size = holds e (record { at = n; proximity = p; size = size })

module _ {W : Type 0} (saw : Tree → W → List Look → W → Type 0) where
  -- the program has this answer, and all looks that it makes were noted: they may be noted again, with nothing changed
  pub record IsKept (t : Tree) (w : W) (program : Program Bool) (b : Bool) : Type 0 where
    pub right : b ≡ answer t program
    pub noted : saw t w (looked t program) w

  -- what is recalled is right of each tree of which all is right that is kept
  abbrev pub Recalls : W → Program Bool → Option Bool → Type 0
  Recalls w program recalled = IfSome recalled (λ b. (t : Tree) → saw t w [] w → IsKept t w program b)

  -- with one answer more that is right of a tree all is still right of it
  abbrev pub KeepsToo : Program Bool → Bool → W → W → Type 0
  KeepsToo program b w w' = (t : Tree) → saw t w [] w → IsKept t w program b → saw t w [] w'
