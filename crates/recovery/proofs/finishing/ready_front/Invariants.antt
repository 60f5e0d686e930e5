use Rattle.std.proofs.Common.{◌≡◌, ◌+◌, None, drop}
use Rattle.recovery.specs.inside.Finishing.{ready_front}
use Rattle.recovery.proofs.finishing.ready_front.Given as goal

abbrev pub invariant-loop-image : goal.invariant-loop-image
invariant-loop-image l = record {
  ready : l.ready ≡ l.image-index;
  so_far : l.image-index + ready_front l.count l.end l.last (drop l.image-index l.images) ≡ ready_front l.count l.size None l.images;
}
