use Rattle.std.proofs.Common.{◌≤◌, ◌-◌, length, take, drop}
use Rattle.paged_seq.specs.Places.{LastFails, NextPasses, passes}
use Rattle.paged_seq.proofs.search.pages_before.Given as goal

abbrev pub invariant-loop-low : goal.invariant-loop-low
invariant-loop-low l = record {
  ordered : l.low ≤ l.high;
  within : l.high ≤ length l.starts;
  last : LastFails (passes l.key l.beyond) (take l.low l.starts);
  next : NextPasses (passes l.key l.beyond) (drop l.high l.starts);
}

abbrev pub decreases-loop-low : goal.decreases-loop-low
decreases-loop-low l = l.high - l.low
