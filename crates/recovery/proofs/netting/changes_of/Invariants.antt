use Rattle.std.proofs.Common.{◌≡◌}
use Rattle.recovery.specs.inside.Nets.{as_changes}
use Rattle.recovery.proofs.netting.changes_of.Given as goal

abbrev pub invariant-loop-key : goal.invariant-loop-key
invariant-loop-key l = l.changes ≡ as_changes l.yielded
