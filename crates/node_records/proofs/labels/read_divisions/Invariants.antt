use Rattle.std.proofs.Common.{◌≡◌, ◌≤◌, ◌-◌, length, drop}
use Rattle.node_records.specs.Labels.{divisions_in}
use Rattle.node_records.proofs.LabelReads.{with_prefix}
use Rattle.node_records.proofs.labels.read_divisions.Given as goal

abbrev pub invariant-loop : goal.invariant-loop
invariant-loop l = record {
  within : l.taken ≤ length l.bytes;
  so_far : with_prefix l.divisions l.taken (divisions_in (256 - l.counter) (drop l.taken l.bytes)) ≡ divisions_in 256 l.fn.bytes;
}
