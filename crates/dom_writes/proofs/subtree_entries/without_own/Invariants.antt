use Rattle.std.proofs.Common.{◌≡◌}
use Rattle.dom_writes.specs.inside.EntriesBelow.{without_own}
use Rattle.dom_writes.proofs.subtree_entries.without_own.Given as goal

abbrev pub invariant-loop-key : goal.invariant-loop-key
invariant-loop-key l = l.rest ≡ without_own l.at l.yielded
