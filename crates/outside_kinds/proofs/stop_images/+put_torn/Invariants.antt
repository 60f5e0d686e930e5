use Rattle.std.proofs.Common.{length}
use Rattle.outside_kinds.proofs.stop_images.+put_torn.Given as goal

abbrev pub decreases-put_torn : goal.decreases-put_torn
decreases-put_torn l = length l.calls.now
