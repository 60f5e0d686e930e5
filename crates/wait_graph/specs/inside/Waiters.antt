-- The owners that wait, with those that each waits for.
use Rattle.std.specs.Prelude.{◌≡◌, ℕ, Bool, true, false, not, ◌&&◌, ◌==◌, cond, List, [], ◌∷◌, Option, Some, None, is_some}
use Rattle.lock_resources.specs.declared.request.Request.{Request}
use Rattle.wait_graph.specs.declared.search.Waiter.{Waiter}
use Rattle.lock_table.specs.Tables.{Table}
use Rattle.wait_graph.specs.Graphs.{Graph, waits, waits_for}
use Rattle.wait_graph.specs.inside.Search.{owners_of}
use Rattle.wait_cycles.specs.Walks.{has, Rises}

-- whether an owner waits and isn't the end
abbrev pub is_kept : Graph → ℕ → ℕ → Bool
is_kept g e u = not (u == e) && is_some (waits g u)

-- those of these places whose owners do
abbrev pub kept : Graph → ℕ → List (ℕ × Option Request) → List ℕ
kept g e [] = []
kept g e (p ∷ ps) = cond (is_kept g e p.0) (p.0 ∷ kept g e ps) (kept g e ps)

-- all owners that wait but the end, ascending
pub record AreOwners (g : Graph) (e : ℕ) (xs : List Waiter) : Type 0 where
  pub rise : Rises (owners_of xs)
  pub each : (u : ℕ) → has u (owners_of xs) ≡ is_kept g e u

-- an owner with those that it waits for; none where it doesn't wait or is the end
abbrev pub IsWaiter : Graph → Table → ℕ → ℕ → Option Waiter → Type 0
IsWaiter g t e o None = (not (o == e) && is_some (waits g o)) ≡ false
IsWaiter g t e o (Some x) = ((not (o == e) && is_some (waits g o)) ≡ true) × (x.owner ≡ o) × ((v : ℕ) → has v x.holders ≡ waits_for (waits g) t o v)
