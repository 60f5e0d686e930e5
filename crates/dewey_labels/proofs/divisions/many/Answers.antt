use Rattle.std.proofs.Common.{refl}
use Rattle.dewey_labels.proofs.divisions.many.Goals as goal

pub invariant_of-result : goal.invariant_of-result
invariant_of-result c = tt

pub returns : goal.returns
returns c = refl
