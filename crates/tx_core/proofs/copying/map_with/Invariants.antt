use Rattle.std.proofs.Common.{◌≡◌}
use Rattle.tree_model.specs.Entries.{Sorted}
use Rattle.tx_core.proofs.copying.map_with.Given as goal

abbrev pub invariant-loop-entry : goal.invariant-loop-entry
invariant-loop-entry l = Sorted l.yielded → l.map ≡ l.yielded
