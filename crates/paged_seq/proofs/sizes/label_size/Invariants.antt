use Rattle.std.proofs.Common.{◌≤◌, ◌+◌, ◌-◌, length}
use Rattle.paged_seq.specs.Sizes.{LabelAhead}
use Rattle.paged_seq.proofs.sizes.label_size.Given as goal

abbrev pub invariant-loop-at : goal.invariant-loop-at
invariant-loop-at l = record {
  within : l.at ≤ length l.bytes + 4;
  ahead : LabelAhead l.bytes l.at;
}

abbrev pub decreases-loop-at : goal.decreases-loop-at
decreases-loop-at l = length l.bytes + 5 - l.at
