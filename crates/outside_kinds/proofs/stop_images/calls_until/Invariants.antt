use Rattle.std.proofs.Common.{◌≡◌, ◌≤◌, ◌++◌, length, take, drop}
use Rattle.outside_kinds.specs.StopImages.{until}
use Rattle.outside_kinds.proofs.stop_images.calls_until.Given as goal

abbrev pub invariant-loop-rest : goal.invariant-loop-rest
invariant-loop-rest l = record {
  split : take l.end l.noted ++ until l.call l.rest ≡ until l.call l.noted;
  rest : drop l.end l.noted ≡ l.rest;
  within : l.end ≤ length l.noted;
}

abbrev pub decreases-loop-rest : goal.decreases-loop-rest
decreases-loop-rest l = length l.rest
