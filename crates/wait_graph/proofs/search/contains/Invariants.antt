use Rattle.std.proofs.Common.{◌≡◌, drop}
use Rattle.wait_cycles.specs.Walks.{has}
use Rattle.wait_graph.proofs.search.contains.Given as goal

abbrev pub invariant-loop-other : goal.invariant-loop-other
invariant-loop-other l = has l.owner (drop l.other-index l.owners) ≡ has l.owner l.owners
