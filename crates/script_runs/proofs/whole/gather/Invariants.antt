use Rattle.std.proofs.Common.{◌≡◌, ◌+◌, ◌-◌, ◌<◌, ◌≤◌, length}
use Rattle.outside_traits.specs.Bytes.{Gave}
use Rattle.script_runs.specs.Whole.{piece}
use Rattle.script_runs.proofs.whole.gather.Given as goal

abbrev pub invariant-loop-count : goal.invariant-loop-count
invariant-loop-count g l = record {
  gave : Gave (g.S.Source.left l.fn.source) (g.S.Source.left l.source) l.bytes.items;
  given : g.S.Source.given l.source ≡ g.S.Source.given l.fn.source + length l.bytes.items;
  within : length l.bytes.items ≤ l.limit;
  room : 0 < length l.buffer.items;
  most : length l.buffer.items ≤ piece;
  no_fault : g.S.Source.faults l.source ≡ g.S.Source.faults l.fn.source;
}

abbrev pub decreases-loop-count : goal.decreases-loop-count
decreases-loop-count g l = l.limit - length l.bytes.items
