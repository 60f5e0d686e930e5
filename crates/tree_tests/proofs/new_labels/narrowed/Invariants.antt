use Rattle.std.proofs.Common.{Some}
use Rattle.dewey_labels.specs.NewLabels.{AreNeighbours}
use Rattle.tree_tests.proofs.new_labels.narrowed.Given as goal

abbrev pub invariant-loop : goal.invariant-loop
invariant-loop l = AreNeighbours l.element (Some l.left) (Some l.right)
