use Rattle.std.proofs.Common.{◌≡◌}
use Rattle.lock_table.proofs.GroupModes.{join_from}
use Rattle.lock_table.proofs.group_modes.joined_with.Given as goal

abbrev pub invariant-loop-other : goal.invariant-loop-other
invariant-loop-other l = join_from l.group l._other-iterator ≡ join_from l.fn.ask l.row.entries
