use Rattle.std.proofs.Common.{◌≡◌, ◌++◌, map, length}
use Rattle.tree_model.specs.Changes.{drop_change}
use Rattle.tree_model.specs.Entries.{Sorted, entries_below}
use Rattle.dom_writes.specs.inside.Merges.{not_below}
use Rattle.dom_writes.proofs.merges.drop_below.Given as goal

abbrev pub invariant-loop-rest : goal.invariant-loop-rest
invariant-loop-rest l = record {
  sorted : Sorted l.rest;
  rest : not_below l.key l.rest ≡ not_below l.key l.entries;
  changes : l.changes ++ map drop_change (entries_below l.key l.rest) ≡ l.fn.changes ++ map drop_change (entries_below l.key l.entries);
}

abbrev pub decreases-loop-rest : goal.decreases-loop-rest
decreases-loop-rest l = length l.rest
