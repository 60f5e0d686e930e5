use Rattle.std.proofs.Common.{length}
use Rattle.overlays.proofs.runs.+change_at.Given as goal

abbrev pub decreases-change_at : goal.decreases-change_at
decreases-change_at l = length l.runs.now
