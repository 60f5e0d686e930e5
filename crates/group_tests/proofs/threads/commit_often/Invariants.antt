use Rattle.group_callers.specs.Members.{HasSeenMore}
use Rattle.group_tests.proofs.threads.commit_often.Given as goal

abbrev pub invariant-loop : goal.invariant-loop
invariant-loop g l = HasSeenMore l.fn.member l.member
