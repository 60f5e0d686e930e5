use Rattle.std.proofs.Common.{◌∙◌, lit<, arith}
use Rattle.group_callers.proofs.Joined.{given_of, left_of, may_commit, other_number}
use Rattle.group_tests.proofs.held.share_syncs.Goals as goal

pub cut-one-requires-clause-number : goal.cut-one-requires-clause-number
cut-one-requires-clause-number g c = (c.in_ok-group.ensures.numbers 1 (lit< tt) (lit< tt), λ e. let under = c.in_ok-group.ensures.under in omega (arith, e, under))

pub others_of-requires-clause-group : goal.others_of-requires-clause-group
others_of-requires-clause-group g c = (
  left_of c.in_ok-group.group c.in_ok-group.member c.cut-one.new.member 1 c.cut-one.result c.cut-one.ensures c.in_ok-group.ensures.group,
  c.cut-one.ensures.under.0 ∙ c.in_ok-group.ensures.under,
)

pub others_of-requires-clause-numbers : goal.others_of-requires-clause-numbers
others_of-requires-clause-numbers g c = λ n some l.
    other_number c.in_ok-group.group c.in_ok-group.member c.cut-one.new.member 1 n c.cut-one.result c.cut-one.ensures (λ e. omega (arith, e, some))
    (c.in_ok-group.ensures.numbers n (omega (arith, some)) l)

pub commit_all-first-requires-clause-one : goal.commit_all-first-requires-clause-one
commit_all-first-requires-clause-one g c κs within =
    may_commit c.in_ok-group.group c.cut-one.result c.cut-one.result 0
    (given_of c.in_ok-group.group c.in_ok-group.member c.cut-one.new.member 1 c.cut-one.result c.cut-one.ensures c.in_ok-group.ensures.group) c.cut-one.ensures.under.1
