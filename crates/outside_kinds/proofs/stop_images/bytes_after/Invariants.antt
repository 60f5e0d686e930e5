use Rattle.std.proofs.Common.{◌≡◌, length}
use Rattle.outside_kinds.proofs.StopLaws.{written}
use Rattle.outside_kinds.proofs.stop_images.bytes_after.Given as goal

abbrev pub invariant-loop-rest : goal.invariant-loop-rest
invariant-loop-rest l = record { to_do : written l.rest l.file.items ≡ written l.calls l.first }

abbrev pub decreases-loop-rest : goal.decreases-loop-rest
decreases-loop-rest l = length l.rest
