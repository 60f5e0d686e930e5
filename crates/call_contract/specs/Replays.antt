-- What one transaction's commit leaves of another's calls (docs/PROFILE.md, "Laws of calls").
use Rattle.std.specs.Prelude.{◌≡◌, true, List, [], ◌∷◌}
use Rattle.tree_model.specs.Tree.{Tree}
use Rattle.tree_cells.specs.Cells.{Cell, value_at}
use Rattle.tree_cells.specs.Covers.{writes, Agree}
use Rattle.call_contract.specs.Calls.{CallMeaning}
use Rattle.call_contract.specs.States.{Answered}

-- where the trees agree on what the call covers for reading, it asks for the same on both
abbrev pub IsAskedTheSame : {C : Type 0} → CallMeaning C → C → Tree → Tree → Type 0
IsAskedTheSame m c t u = Agree (m.requests c t) t u → m.requests c t ≡ m.requests c u

-- a call asks for the same on both trees, is answered the same, and writes the same values
pub record IsSameCall {C : Type 0} (m : CallMeaning C) (c : C) (t u : Tree) : Type 0 where
  pub requests : m.requests c t ≡ m.requests c u
  pub reply : m.reply c t ≡ m.reply c u
  pub written : (x : Cell) → writes (m.requests c t) x ≡ true → value_at (m.after c t) x ≡ value_at (m.after c u) x

-- and so does each of these, one after another
abbrev pub IsSameRun : {C : Type 0} → CallMeaning C → List (Answered C) → Tree → Tree → Type 0
IsSameRun m [] t u = Unit {0}
IsSameRun m (a ∷ cs) t u = IsSameCall m a.call t u × IsSameRun m cs (m.after a.call t) (m.after a.call u)
