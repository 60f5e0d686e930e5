use Rattle.std.proofs.Common.{◌≡◌, length}
use Rattle.tree_rules.specs.inside.Paths.{room_at}
use Rattle.tree_rules.proofs.path.room_at.Given as goal

abbrev pub invariant-loop-step : goal.invariant-loop-step
invariant-loop-step l = room_at l.label l.rest ≡ room_at l.label l.path

abbrev pub decreases-loop-step : goal.decreases-loop-step
decreases-loop-step l = length l.rest
