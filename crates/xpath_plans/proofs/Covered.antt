-- The request of a look covers what it reads.
use Rattle.std.proofs.Common.{◌≡◌, Bool, true, false, ◌&&◌, List, [], ◌∷◌, ◌++◌, ⊎_elim, refl, sym, true≢false}
use Rattle.lock_resources.specs.declared.request.Request.{Request}
use Rattle.lock_resources.specs.Intentions.{with_intentions}
use Rattle.tree_model.specs.Tree.{Tree}
use Rattle.tree_cells.specs.Cells.{Cell, node_cell, attr_cell, edge_cell}
use Rattle.tree_cells.specs.Covers.{Agree, reads, reads_from}
use Rattle.tree_cells.specs.Places.{is_at, is_at_or_above, is_parent, same_name}
use Rattle.tree_cells.proofs.Agreement.{last_covers, seen as cell_seen}
use Rattle.tree_cells.proofs.Coverage.{either, or_first, or_second, and_both, reads_left, reads_right}
use Rattle.path_model.specs.Programs.{Look, at_node, at_row, at_tree, at_attributes, at_attribute}
use Rattle.xpath_plans.specs.LookCells.{looks_into, some_look_into, ShowTheSame}
use Rattle.xpath_plans.specs.LookRequests.{resource_of, mode_of, requests_of}

holds : (b : Bool) → b ≡ true → (b && true) ≡ true
holds b e = and_both b true e refl

none_there : {A : Type 0} → false ≡ true → A
none_there e = absurd (true≢false (sym e))

own_covers : (o : Look) (x : Cell) → looks_into o x ≡ true → reads_from (resource_of o) (mode_of o) x ≡ true
own_covers (at_node l) (node_cell m) e = or_first (is_at l m && true) _ (holds (is_at l m) e)
own_covers (at_node l) (attr_cell m n) e = none_there e
own_covers (at_node l) (edge_cell m s) e = none_there e
own_covers (at_row l) (node_cell m) e = or_second (is_at l m && true) _ (or_first (is_parent l m && true) _ (holds (is_parent l m) e))
own_covers (at_row l) (attr_cell m n) e = none_there e
own_covers (at_row l) (edge_cell m s) e = none_there e
own_covers (at_tree l) (node_cell m) e = or_second (is_at l m && true) _ (or_second (is_parent l m && true) _ (holds (is_at_or_above l m) e))
own_covers (at_tree l) (attr_cell m n) e = holds (is_at_or_above l m) e
own_covers (at_tree l) (edge_cell m s) e = none_there e
own_covers (at_attributes l) (node_cell m) e = none_there e
own_covers (at_attributes l) (attr_cell m n) e = holds (is_at l m) e
own_covers (at_attributes l) (edge_cell m s) e = none_there e
own_covers (at_attribute l k) (node_cell m) e = none_there e
own_covers (at_attribute l k) (attr_cell m n) e = holds (is_at l m && same_name k n) e
own_covers (at_attribute l k) (edge_cell m s) e = none_there e

-- what looks read, their requests cover
pub looks_covered : (os : List Look) (x : Cell) → some_look_into os x ≡ true → reads (requests_of os) x ≡ true
looks_covered [] x e = none_there e
looks_covered (o ∷ os) x e =
    let own = with_intentions (resource_of o) (mode_of o) in
    ⊎_elim
    (λ h. reads_left own (requests_of os) x (last_covers (λ r a. reads_from r a x) [] (resource_of o) (mode_of o) (own_covers o x h)))
    (λ h. reads_right own (requests_of os) x (looks_covered os x h))
    (either (looks_into o x) (some_look_into os x) e)

-- so trees that agree on what was asked for a look show it the same
pub asked_for : (acc : List Request) (o : Look) (t u : Tree) → Agree (acc ++ with_intentions (resource_of o) (mode_of o)) t u → ShowTheSame o t u
asked_for acc o t u agree x e = cell_seen acc (resource_of o) (mode_of o) t u agree x (own_covers o x e)
