-- What is asked of two trees on which a call is to do the same, and what they then have in common (docs/PROFILE.md, "Laws of calls").
use Rattle.std.specs.Prelude.{◌≡◌, true, false, List}
use Rattle.lock_resources.specs.declared.request.Request.{Request}
use Rattle.tree_model.specs.declared.dom_call.DomCall.{DomCall}
use Rattle.tree_model.specs.Tree.{Tree}
use Rattle.tree_model.specs.ValidTrees.{IsValidTree}
use Rattle.tree_changes.specs.ValidCalls.{IsValidCall}
use Rattle.tree_cells.specs.Cells.{Cell, value_at}
use Rattle.tree_cells.specs.Covers.{Agree, writes}

-- this follows for a valid call, where valid trees agree on what these requests cover for reading
abbrev pub IfTheyAgree : DomCall → Tree → Tree → List Request → Type 0 → Type 0
IfTheyAgree c t u asked P = IsValidCall c → IsValidTree t → IsValidTree u → Agree asked t u → P

-- two trees have the same in every cell that these requests cover for writing
abbrev pub HaveSameWritten : List Request → Tree → Tree → Type 0
HaveSameWritten asked t u = (x : Cell) → writes asked x ≡ true → value_at t x ≡ value_at u x

-- two trees have the same in every other cell
abbrev pub HaveSameRest : List Request → Tree → Tree → Type 0
HaveSameRest asked t u = (x : Cell) → writes asked x ≡ false → value_at t x ≡ value_at u x
