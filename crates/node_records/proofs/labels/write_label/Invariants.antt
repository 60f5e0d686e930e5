use Rattle.std.proofs.Common.{◌≡◌, ◌++◌, take}
use Rattle.std.specs.List.{flat_map}
use Rattle.node_records.specs.Divisions.{division_bytes}
use Rattle.node_records.proofs.labels.write_label.Given as goal

abbrev pub invariant-loop-division : goal.invariant-loop-division
invariant-loop-division l = l.out ≡ l.fn.out ++ flat_map division_bytes (take l.division-index l.division-items)
