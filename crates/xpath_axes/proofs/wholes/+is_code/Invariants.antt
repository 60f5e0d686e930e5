use Rattle.std.proofs.Common.{length}
use Rattle.xpath_axes.proofs.wholes.+is_code.Given as goal

abbrev pub decreases-is_code : goal.decreases-is_code
decreases-is_code l = length l.divisions.now
