use Rattle.std.proofs.Common.{◌≡◌, drop}
use Rattle.wait_graph.specs.inside.Search.{found}
use Rattle.wait_graph.proofs.search.walk_by.Given as goal

abbrev pub invariant-loop-walk : goal.invariant-loop-walk
invariant-loop-walk l = found l.holders (drop l.walk-index l.layer) ≡ found l.holders l.layer
