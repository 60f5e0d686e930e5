use Rattle.std.proofs.Common.{◌≡◌, ◌++◌}
use Rattle.tree_model.specs.Changes.{differences}
use Rattle.tree_model.specs.Entries.{Entries, Sorted}
use Rattle.dom_writes.proofs.merges.differences_between.Given as goal

abbrev pub invariant-loop-entry : goal.invariant-loop-entry
invariant-loop-entry l = record {
  sorted : Sorted l.rest;
  changes : (more : Entries) → l.changes ++ differences l.rest more ≡ differences l.fn.old (l.yielded ++ more);
}
