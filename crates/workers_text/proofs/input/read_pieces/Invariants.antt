use Rattle.std.proofs.Common.{◌≡◌, ◌+◌, ◌-◌, ◌<◌, ◌≤◌, length}
use Rattle.outside_traits.specs.Bytes.{Gave}
use Rattle.script_runs.specs.Whole.{piece}
use Rattle.workers_text.specs.Limits.{KeepsLimits}
use Rattle.workers_text.proofs.input.read_pieces.Given as goal

abbrev pub invariant-loop-count : goal.invariant-loop-count
invariant-loop-count g l = record {
  gave : Gave (g.S.Source.left l.fn.source) (g.S.Source.left l.source) l.input.bytes;
  given : g.S.Source.given l.source ≡ g.S.Source.given l.fn.source + length l.input.bytes;
  most : l.input.most ≡ l.fn.limits.most;
  short : l.input.short ≡ l.fn.limits.short;
  within : KeepsLimits l.input.most l.input.short l.input.bytes;
  room : 0 < length l.buffer;
  size : length l.buffer ≤ piece;
  no_fault : g.S.Source.faults l.source ≡ g.S.Source.faults l.fn.source;
}

abbrev pub decreases-loop-count : goal.decreases-loop-count
decreases-loop-count g l = l.fn.limits.most - length l.input.bytes
