use Rattle.std.proofs.Common.{◌≡◌, length}
use Rattle.outside_kinds.specs.StopImages.{behind_sync}
use Rattle.outside_kinds.proofs.stop_images.calls_behind_sync.Given as goal

abbrev pub invariant-loop-rest : goal.invariant-loop-rest
invariant-loop-rest l = record { to_do : behind_sync l.behind l.rest ≡ behind_sync l.calls l.calls }

abbrev pub decreases-loop-rest : goal.decreases-loop-rest
decreases-loop-rest l = length l.rest
