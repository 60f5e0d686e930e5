use Rattle.std.proofs.Common.{IsTrue}
use Rattle.dewey_labels.specs.Labels.{is_child}
use Rattle.tree_tests.proofs.new_labels.before_first.Given as goal

abbrev pub invariant-loop : goal.invariant-loop
invariant-loop l = IsTrue (is_child l.element l.first)
