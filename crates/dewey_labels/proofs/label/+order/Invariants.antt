use Rattle.std.proofs.Common.{length}
use Rattle.dewey_labels.proofs.label.+order.Given as goal

abbrev pub decreases-order : goal.decreases-order
decreases-order l = length l.one.now
