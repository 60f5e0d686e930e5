use Rattle.std.proofs.Common.{◌≡◌}
use Rattle.tree_model.specs.Changes.{laid}
use Rattle.recovery.specs.inside.Nets.{as_changes}
use Rattle.recovery.proofs.netting.note.Given as goal

abbrev pub invariant-loop-change : goal.invariant-loop-change
invariant-loop-change l = as_changes l.net.entries ≡ laid l.yielded (as_changes l.fn.net.entries)
