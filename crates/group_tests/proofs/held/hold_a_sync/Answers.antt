use Rattle.std.proofs.Common.{◌∙◌, lit<, arith}
use Rattle.group_callers.proofs.Joined.{given_of, left_of, may_commit, other_number}
use Rattle.group_tests.proofs.held.hold_a_sync.Goals as goal

pub cut-one-requires-clause-number : goal.cut-one-requires-clause-number
cut-one-requires-clause-number g c = (c.in_ok-group.ensures.numbers 1 (lit< tt) (lit< tt), λ e. let under = c.in_ok-group.ensures.under in omega (arith, e, under))

pub cut-two-requires-clause-group : goal.cut-two-requires-clause-group
cut-two-requires-clause-group g c = left_of c.in_ok-group.group c.in_ok-group.member c.cut-one.new.member 1 c.cut-one.result c.cut-one.ensures c.in_ok-group.ensures.group

pub cut-two-requires-clause-number : goal.cut-two-requires-clause-number
cut-two-requires-clause-number g c = (
  other_number c.in_ok-group.group c.in_ok-group.member c.cut-one.new.member 1 2 c.cut-one.result c.cut-one.ensures (λ e. omega (arith, e)) (c.in_ok-group.ensures.numbers 2 (lit< tt) (lit< tt)),
  λ e. let under = c.cut-one.ensures.under.0 ∙ c.in_ok-group.ensures.under in omega (arith, e, under),
)

pub call_beside-committed-requires-clause-one : goal.call_beside-committed-requires-clause-one
call_beside-committed-requires-clause-one g c κs within =
    may_commit c.in_ok-group.group c.cut-one.result c.cut-one.result 0
    (given_of c.in_ok-group.group c.in_ok-group.member c.cut-one.new.member 1 c.cut-one.result c.cut-one.ensures c.in_ok-group.ensures.group) c.cut-one.ensures.under.1

pub call_beside-committed-requires-clause-two : goal.call_beside-committed-requires-clause-two
call_beside-committed-requires-clause-two g c κs within =
    may_commit c.in_ok-group.group c.cut-two.result c.cut-two.result 1
    (given_of c.in_ok-group.group c.cut-one.new.member c.cut-two.new.member 2 c.cut-two.result c.cut-two.ensures
    (left_of c.in_ok-group.group c.in_ok-group.member c.cut-one.new.member 1 c.cut-one.result c.cut-one.ensures c.in_ok-group.ensures.group))
    c.cut-two.ensures.under.1
