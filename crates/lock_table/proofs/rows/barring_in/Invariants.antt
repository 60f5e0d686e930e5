use Rattle.std.proofs.Common.{◌≡◌, ◌++◌}
use Rattle.lock_table.specs.inside.Barring.{barring}
use Rattle.lock_table.proofs.rows.barring_in.Given as goal

abbrev pub invariant-loop-other : goal.invariant-loop-other
invariant-loop-other l = l.holders ++ barring l.fn.owner l.fn.ask l.other-iterator ≡ barring l.fn.owner l.fn.ask l.row.entries
