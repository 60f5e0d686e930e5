use Rattle.std.proofs.Common.{length}
use Rattle.dewey_labels.proofs.label.+first_code_length.Given as goal

abbrev pub decreases-first_code_length : goal.decreases-first_code_length
decreases-first_code_length l = length l.codes.now
