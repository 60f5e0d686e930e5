use Rattle.std.proofs.Common.{arith}
use Rattle.group_tests.proofs.Members.{all_of, back_of, numbers_of}
use Rattle.group_tests.proofs.threads.commit_in_threads.Goals as goal

pub spread-member-requires-clause-numbers : goal.spread-member-requires-clause-numbers
spread-member-requires-clause-numbers g c κs within = λ n some l. c.in_ok-group.ensures.numbers n some (omega (arith, l))

pub close-core-requires-clause-group : goal.close-core-requires-clause-group
close-core-requires-clause-group g c = back_of c.in_ok-group.group c.in_ok-group.member c.spread-member.result.member c.spread-member.ensures c.in_ok-group.ensures.group

pub close-core-requires-clause-numbers : goal.close-core-requires-clause-numbers
close-core-requires-clause-numbers g c = numbers_of c.in_ok-group.group c.in_ok-group.member c.spread-member.result.member c.spread-member.ensures c.in_ok-group.ensures.numbers

pub close-core-requires-clause-all : goal.close-core-requires-clause-all
close-core-requires-clause-all g c = all_of c.in_ok-group.group c.in_ok-group.member c.spread-member.result.member c.spread-member.ensures c.in_ok-group.ensures.all
