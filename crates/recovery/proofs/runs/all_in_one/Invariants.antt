use Rattle.std.proofs.Common.{◌≡◌, length}
use Rattle.tree_model.specs.Entries.{Entries, Sorted, changed}
use Rattle.recovery.specs.inside.Nets.{after_runs}
use Rattle.recovery.proofs.runs.all_in_one.Given as goal

abbrev pub invariant-loop-lower : goal.invariant-loop-lower
invariant-loop-lower l = (es : Entries) → Sorted es → changed l.run (after_runs l.older.items es) ≡ changed l.fn.newest (after_runs l.fn.older.items es)

abbrev pub decreases-loop-lower : goal.decreases-loop-lower
decreases-loop-lower l = length l.older.items
