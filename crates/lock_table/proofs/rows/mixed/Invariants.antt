use Rattle.std.proofs.Common.{◌≡◌, ◌<◌, drop}
use Rattle.lock_table.specs.inside.Rows.{mixed_from}
use Rattle.lock_table.proofs.rows.mixed.Given as goal

abbrev pub invariant-loop-division : goal.invariant-loop-division
invariant-loop-division l = record {
  small : l.number < 4093;
  rest : mixed_from l.number (drop l.division-index l.divisions) ≡ mixed_from 0 l.divisions;
}
