use Rattle.std.proofs.Common.{◌≡◌}
use Rattle.wait_graph.specs.inside.Search.{reached, unreached}
use Rattle.wait_graph.proofs.search.next_layer.Given as goal

abbrev pub invariant-loop-waiter : goal.invariant-loop-waiter
invariant-loop-waiter l = (l.next.walks ≡ reached l.layer l.yielded) × (l.next.farther ≡ unreached l.layer l.yielded)
