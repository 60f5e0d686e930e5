use Rattle.group_callers.specs.Members.{HasSeenMore}
use Rattle.group_tests.proofs.held.clear_all.Given as goal

abbrev pub invariant-loop-label : goal.invariant-loop-label
invariant-loop-label g l = HasSeenMore l.fn.member l.member
