use Rattle.std.proofs.Common.{◌≡◌, length}
use Rattle.dom_writes.specs.inside.NormalTexts.{past_joining}
use Rattle.dom_writes.proofs.normal_texts.past_joining.Given as goal

abbrev pub invariant-loop-rest : goal.invariant-loop-rest
invariant-loop-rest l = past_joining l.first l.rest ≡ past_joining l.first l.others

abbrev pub decreases-loop-rest : goal.decreases-loop-rest
decreases-loop-rest l = length l.rest
