use Rattle.std.proofs.Common.{◌≡◌, length}
use Rattle.tree_model.specs.Changes.{keys_rise}
use Rattle.recovery.proofs.netting.rises.Given as goal

abbrev pub invariant-loop-rest : goal.invariant-loop-rest
invariant-loop-rest l = keys_rise l.rest ≡ keys_rise l.changes

abbrev pub decreases-loop-rest : goal.decreases-loop-rest
decreases-loop-rest l = length l.rest
