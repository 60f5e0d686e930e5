-- The search for a cycle: walks that lead to one owner, layer by layer.
use Rattle.std.specs.Prelude.{◌≡◌, ℕ, zero, suc, Bool, List, [], ◌∷◌, map, Option, Some, None, if◌then◌else◌}
use Rattle.std.specs.List.{AllByRecursion}
use Rattle.wait_graph.specs.declared.search.Waiter.{Waiter}
use Rattle.wait_graph.specs.declared.search.Walk.{Walk}
use Rattle.wait_cycles.specs.Walks.{has}

-- the walk of the first in the layer that is one of these owners
abbrev pub found : List ℕ → List Walk → Option (List ℕ)
found bs [] = None
found bs (w ∷ ws) = if has w.owner bs then Some w.by else found bs ws

-- the end, to which no owner need lead
abbrev pub the_end : ℕ → Walk
the_end e = record { owner = e; by = [] }

-- an owner by whom a walk goes on, with the layer behind him, if one does
abbrev pub reached_by : ℕ → Option (List ℕ) → List Walk → List Walk
reached_by o None ws = ws
reached_by o (Some us) ws = record { owner = o; by = o ∷ us } ∷ ws

-- of these, those who wait for somebody in the layer, with the least of their walks
abbrev pub reached : List Walk → List Waiter → List Walk
reached layer [] = []
reached layer (x ∷ xs) = reached_by x.owner (found x.holders layer) (reached layer xs)

abbrev pub unreached_by : Waiter → Option (List ℕ) → List Waiter → List Waiter
unreached_by x None xs = x ∷ xs
unreached_by x (Some us) xs = xs

-- and those who don't
abbrev pub unreached : List Walk → List Waiter → List Waiter
unreached layer [] = []
unreached layer (x ∷ xs) = unreached_by x (found x.holders layer) (unreached layer xs)

-- the first of two
abbrev pub seek_on : Option (List ℕ) → Option (List ℕ) → Option (List ℕ)
seek_on None rest = rest
seek_on (Some us) rest = Some us

-- the walk by the first of so many layers that has one of these owners
abbrev pub seek : List ℕ → ℕ → List Waiter → List Walk → Option (List ℕ)
seek bs zero xs layer = None
seek bs (suc n) xs layer = seek_on (found bs layer) (seek bs n (unreached layer xs) (reached layer xs))

abbrev pub owners_of : List Waiter → List ℕ
owners_of xs = map (λ x. x.owner) xs

-- each of these is with those that R says it waits for
abbrev pub AreOf : (ℕ → ℕ → Bool) → List Waiter → Type 0
AreOf R xs = AllByRecursion (λ x. (v : ℕ) → has v x.holders ≡ R x.owner v) xs
