use Rattle.std.proofs.Common.{◌-◌, ◌≡◌, ◌≤◌, length, take}
use Rattle.outside_traits.specs.Bytes.{Took}
use Rattle.outside_traits.proofs.writing.write_all.Given as goal

abbrev pub invariant-loop-written : goal.invariant-loop-written
invariant-loop-written g l = record {
  took : Took (g.K.Sink.held l.fn.sink) (g.K.Sink.held l.sink) (take l.written l.text);
  within : l.written ≤ length l.text;
  same : g.K.Sink.faults l.sink ≡ g.K.Sink.faults l.fn.sink;
}

abbrev pub decreases-loop-written : goal.decreases-loop-written
decreases-loop-written g l = length l.text - l.written
