use Rattle.std.proofs.Common.{length}
use Rattle.dewey_labels.proofs.label.+are_codes.Given as goal

abbrev pub decreases-are_codes : goal.decreases-are_codes
decreases-are_codes l = length l.codes.now
