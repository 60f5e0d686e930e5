use Rattle.std.proofs.Common.{◌≡◌, length}
use Rattle.tree_model.specs.Entries.{Entries, Sorted, changed}
use Rattle.recovery.specs.inside.Nets.{after_runs}
use Rattle.recovery.proofs.runs.keep.Given as goal

abbrev pub invariant-loop-alloc : goal.invariant-loop-alloc
invariant-loop-alloc l = (es : Entries) → Sorted es → changed l.run (after_runs l.older.items es) ≡ changed l.fn.run (after_runs l.fn.older.items es)

abbrev pub decreases-loop-alloc : goal.decreases-loop-alloc
decreases-loop-alloc l = length l.older.items
