use Rattle.std.proofs.Common.{◌≡◌}
use Rattle.tree_model.specs.Entries.{Entries, Sorted, changed}
use Rattle.store_contents.specs.Contents.{after_commits, last_of}
use Rattle.recovery.specs.inside.Nets.{after_runs}
use Rattle.recovery.proofs.netting.net_changes.Given as goal

abbrev pub invariant-loop-group : goal.invariant-loop-group
invariant-loop-group l = record {
  makes : (es : Entries) → Sorted es → changed l.newest (after_runs l.older.items es) ≡ after_commits l.yielded es;
  number : l.number ≡ last_of l.yielded l.base;
}
