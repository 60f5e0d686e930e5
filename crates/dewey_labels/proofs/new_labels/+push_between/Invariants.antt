use Rattle.std.proofs.Common.{length}
use Rattle.dewey_labels.proofs.new_labels.+push_between.Given as goal

abbrev pub decreases-push_between : goal.decreases-push_between
decreases-push_between l = length l.left.now
