use Rattle.std.proofs.Common.{◌∙◌, lit<, arith}
use Rattle.group_callers.proofs.Joined.{all_back, first_durable, given_of, left_of, may_commit, numbers_back, other_number, second_durable, still_opens}
use Rattle.group_callers.proofs.Members.{all_kept}
use Rattle.group_callers.proofs.two_members.commit_in_two_threads.Goals as goal

pub cut-one-requires-clause-number : goal.cut-one-requires-clause-number
cut-one-requires-clause-number g c =
    let group = c.in_ok-group.ensures in
    (group.numbers 1 (lit< tt) (lit< tt), λ e. let under = group.under in omega (arith, e, under))

pub cut-two-requires-clause-group : goal.cut-two-requires-clause-group
cut-two-requires-clause-group g c = left_of c.in_ok-group.group c.in_ok-group.third c.cut-one.new.member 1 c.cut-one.result c.cut-one.ensures c.in_ok-group.ensures.group

pub cut-two-requires-clause-number : goal.cut-two-requires-clause-number
cut-two-requires-clause-number g c =
    let group = c.in_ok-group.ensures in
    let cut = c.cut-one.ensures in
    (other_number c.in_ok-group.group c.in_ok-group.third c.cut-one.new.member 1 2 c.cut-one.result cut (λ e. omega (arith, e)) (group.numbers 2 (lit< tt) (lit< tt)), λ e. let under = cut.under.0 ∙ group.under in omega (arith, e, under))

pub commit_both-one-requires-clause-one : goal.commit_both-one-requires-clause-one
commit_both-one-requires-clause-one g c κs within =
    may_commit c.in_ok-group.group c.cut-one.result c.cut-one.result 0 (given_of c.in_ok-group.group c.in_ok-group.third c.cut-one.new.member 1 c.cut-one.result c.cut-one.ensures c.in_ok-group.ensures.group) c.cut-one.ensures.under.1

pub commit_both-one-requires-clause-two : goal.commit_both-one-requires-clause-two
commit_both-one-requires-clause-two g c κs within =
    may_commit c.in_ok-group.group c.cut-two.result c.cut-two.result 1
    (given_of c.in_ok-group.group c.cut-one.new.member c.cut-two.new.member 2 c.cut-two.result c.cut-two.ensures (left_of c.in_ok-group.group c.in_ok-group.third c.cut-one.new.member 1 c.cut-one.result c.cut-one.ensures c.in_ok-group.ensures.group))
    c.cut-two.ensures.under.1

pub close-core-requires-clause-numbers : goal.close-core-requires-clause-numbers
close-core-requires-clause-numbers g c =
    numbers_back c.in_ok-group.third c.cut-one.new.member c.cut-two.new.member c.cut-one.result c.cut-two.result c.commit_both-one.result.0.member c.commit_both-one.result.1.member c.take_back.new.member c.take_back-2.new.member c.commit_both-one.result.0.answer c.commit_both-one.result.1.answer
    c.cut-one.ensures c.cut-two.ensures c.commit_both-one.ensures.one c.commit_both-one.ensures.two c.take_back.ensures c.take_back-2.ensures c.in_ok-group.ensures.numbers

pub close-core-requires-clause-all : goal.close-core-requires-clause-all
close-core-requires-clause-all g c =
    all_back c.in_ok-group.third c.cut-one.new.member c.cut-two.new.member c.cut-one.result c.cut-two.result c.commit_both-one.result.0.member c.commit_both-one.result.1.member c.take_back.new.member c.take_back-2.new.member c.commit_both-one.result.0.answer c.commit_both-one.result.1.answer
    c.cut-one.ensures c.cut-two.ensures c.commit_both-one.ensures.one c.commit_both-one.ensures.two c.take_back.ensures c.take_back-2.ensures c.in_ok-group.ensures.all

pub returns-clause-first : goal.returns-clause-first
returns-clause-first g c =
    all_kept g.J.Disk.is_known g.B.NodeRead.contents g.C.TreeCall.meaning c.take_back-2.new.member c.close-core.result.0 c.close-core.result.1 c.commit_both-one.result.0.answer c.close-core.ensures.journal
    (still_opens c.in_ok-group.third c.cut-one.new.member c.cut-two.new.member c.cut-one.result c.cut-two.result c.commit_both-one.result.0.member c.commit_both-one.result.1.member c.take_back.new.member c.take_back-2.new.member c.commit_both-one.result.0.answer c.commit_both-one.result.1.answer
    c.cut-one.ensures c.cut-two.ensures c.commit_both-one.ensures.one c.commit_both-one.ensures.two c.take_back.ensures c.take_back-2.ensures c.in_ok-group.ensures.opening)
    (first_durable c.in_ok-group.third c.cut-one.new.member c.cut-two.new.member c.cut-one.result c.cut-two.result c.commit_both-one.result.0.member c.commit_both-one.result.1.member c.take_back.new.member c.take_back-2.new.member c.commit_both-one.result.0.answer c.commit_both-one.result.1.answer
    c.cut-one.ensures c.cut-two.ensures c.commit_both-one.ensures.one c.commit_both-one.ensures.two c.take_back.ensures c.take_back-2.ensures)

pub returns-clause-second : goal.returns-clause-second
returns-clause-second g c =
    all_kept g.J.Disk.is_known g.B.NodeRead.contents g.C.TreeCall.meaning c.take_back-2.new.member c.close-core.result.0 c.close-core.result.1 c.commit_both-one.result.1.answer c.close-core.ensures.journal
    (still_opens c.in_ok-group.third c.cut-one.new.member c.cut-two.new.member c.cut-one.result c.cut-two.result c.commit_both-one.result.0.member c.commit_both-one.result.1.member c.take_back.new.member c.take_back-2.new.member c.commit_both-one.result.0.answer c.commit_both-one.result.1.answer
    c.cut-one.ensures c.cut-two.ensures c.commit_both-one.ensures.one c.commit_both-one.ensures.two c.take_back.ensures c.take_back-2.ensures c.in_ok-group.ensures.opening)
    (second_durable c.in_ok-group.third c.cut-one.new.member c.cut-two.new.member c.cut-one.result c.cut-two.result c.commit_both-one.result.0.member c.commit_both-one.result.1.member c.take_back.new.member c.take_back-2.new.member c.commit_both-one.result.0.answer c.commit_both-one.result.1.answer
    c.cut-one.ensures c.cut-two.ensures c.commit_both-one.ensures.one c.commit_both-one.ensures.two c.take_back.ensures c.take_back-2.ensures)
