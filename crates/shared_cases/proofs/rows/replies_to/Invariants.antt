use Rattle.std.proofs.Common.{◌≡◌}
use Rattle.shared_store.specs.Sessions.{having_seen}
use Rattle.shared_cases.proofs.rows.replies_to.Given as goal

abbrev pub invariant-loop-line : goal.invariant-loop-line
invariant-loop-line g l = l.port ≡ having_seen l.port.seen l.initial.port
