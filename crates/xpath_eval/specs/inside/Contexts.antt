-- Where an expression stands, as that of `path_model`, and what is run there.
use Rattle.std.specs.Prelude.{ℕ, List, Option, Result}
use Rattle.tree_model.specs.Entries.{Entries}
use Rattle.tree_model.specs.Tree.{Tree}
use Rattle.path_model.specs.Functions as path
use Rattle.path_model.specs.Programs.{Look, Program}
use Rattle.xpath_axes.specs.Positions.{plain}
use Rattle.xpath_axes.specs.Runs.{Runs}
use Rattle.xpath_eval.specs.declared.context.Context.{Context}

-- the context that is meant
abbrev pub stands : Context → path.Context
stands c = record { at = plain c.at.now; proximity = c.proximity; size = c.size }

-- a map is read, and the looks are noted
module _ {S W : Type 0} (reads : S → ℕ) (saw : Tree → W → List Look → W → Type 0) where
  -- a program that hangs on where an expression stands was run where this one stands
  abbrev pub RunsIn : {A R E : Type 0} → (S → Option Entries) → Context → (path.Context → Program A) → (R → A) → S → W → Result R E → S → W → Type 0
  RunsIn contents c program means s w result s' w' = Runs reads saw contents (program (stands c)) means s w result s' w'
