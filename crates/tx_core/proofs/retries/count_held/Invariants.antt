use Rattle.std.proofs.Common.{◌≡◌, ◌-◌, ◌+◌, ◌≤◌, length, drop, not}
use Rattle.lock_table.specs.Tables.{held}
use Rattle.tx_core.specs.Retries.{has_mode}
use Rattle.tx_core.specs.inside.Retrying.{first_at}
use Rattle.tx_core.proofs.retries.count_held.Given as goal

abbrev pub invariant-loop-count : goal.invariant-loop-count
invariant-loop-count l = record {
  within : l.count ≤ length l.requests;
  so_far : first_at (λ g. not (has_mode (held l.table l.owner g.resource) g.ask)) l.requests
      ≡ l.count + first_at (λ g. not (has_mode (held l.table l.owner g.resource) g.ask)) (drop l.count l.requests);
}

abbrev pub decreases-loop-count : goal.decreases-loop-count
decreases-loop-count l = length l.requests - l.count
