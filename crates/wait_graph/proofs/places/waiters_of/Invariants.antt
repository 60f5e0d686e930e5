use Rattle.std.proofs.Common.{◌≡◌, ◌++◌}
use Rattle.wait_graph.specs.Graphs.{waits, waits_for}
use Rattle.wait_graph.specs.inside.Search.{owners_of, AreOf}
use Rattle.wait_graph.specs.inside.Waiters.{kept}
use Rattle.wait_graph.proofs.places.waiters_of.Given as goal

abbrev pub invariant-loop-owner : goal.invariant-loop-owner
invariant-loop-owner l = AreOf (waits_for (waits l.places.entries) l.table) l.waiters × (owners_of l.waiters ++ kept l.places.entries l.end l.owner-iterator ≡ kept l.places.entries l.end l.places.entries)
