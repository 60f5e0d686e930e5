use Rattle.std.proofs.Common.{◌+◌, ◌*◌}
use Rattle.shared_cases.proofs.spread.+fn-spread-join+arg2+spread.Given as goal

abbrev pub decreases-join+arg2 : goal.decreases-join+arg2
decreases-join+arg2 g l = 2 * l.fewer + 2

abbrev pub decreases-spread : goal.decreases-spread
decreases-spread g l = 2 * l.threads + 1
