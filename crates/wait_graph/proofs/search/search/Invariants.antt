use Rattle.std.proofs.Common.{◌≡◌, ◌-◌, length, [], ◌∷◌}
use Rattle.wait_graph.specs.inside.Search.{reached, seek, the_end, unreached}
use Rattle.wait_graph.proofs.search.search.Given as goal

abbrev pub invariant-loop-round : goal.invariant-loop-round
invariant-loop-round l = seek l.holders (l.rounds - l._round) l.layer.farther l.layer.walks
    ≡ seek l.holders (length l.fn.waiters) (unreached (the_end l.end ∷ []) l.fn.waiters) (reached (the_end l.end ∷ []) l.fn.waiters)
