use Rattle.std.proofs.Common.{length}
use Rattle.dewey_labels.proofs.new_labels.+push_before.Given as goal

abbrev pub decreases-push_before : goal.decreases-push_before
decreases-push_before l = length l.right.now
