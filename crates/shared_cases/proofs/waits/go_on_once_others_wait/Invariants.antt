use Rattle.std.proofs.Common.{◌≡◌}
use Rattle.shared_store.specs.Sessions.{having_seen}
use Rattle.shared_cases.proofs.waits.go_on_once_others_wait.Given as goal

abbrev pub invariant-loop : goal.invariant-loop
invariant-loop g l = (goal.iterator-loop g).can_next l.iterator' × (goal.iterator-loop g).is_finite l.iterator' × (l.probe ≡ having_seen l.probe.seen l.initial.probe)
