use Rattle.std.proofs.Common.{◌≤◌, ◌<◌, length}
use Rattle.dewey_labels.specs.Labels.{parent}
use Rattle.dewey_labels.proofs.label.last_code.Given as goal

abbrev pub invariant-loop-start : goal.invariant-loop-start
invariant-loop-start l = (length (parent l.divisions) ≤ l.start) × (l.start < length l.divisions)

abbrev pub decreases-loop-start : goal.decreases-loop-start
decreases-loop-start l = l.start
