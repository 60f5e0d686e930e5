use Rattle.std.proofs.Common.{◌∙◌, lit<, arith}
use Rattle.group_callers.proofs.Joined.{given_of, left_of, may_commit, more_of, other_number}
use Rattle.group_tests.proofs.held.others_of.Goals as goal

pub cut-two-requires-clause-number : goal.cut-two-requires-clause-number
cut-two-requires-clause-number g c = (c.requires.numbers 2 (lit< tt) (lit< tt), λ e. let under = c.requires.group.1 in omega (arith, e, under))

pub cut-three-requires-clause-group : goal.cut-three-requires-clause-group
cut-three-requires-clause-group g c = left_of c.args.group.now c.args.member.now c.cut-two.new.member 2 c.cut-two.result c.cut-two.ensures c.requires.group.0

pub cut-three-requires-clause-number : goal.cut-three-requires-clause-number
cut-three-requires-clause-number g c = (
  other_number c.args.group.now c.args.member.now c.cut-two.new.member 2 3 c.cut-two.result c.cut-two.ensures (λ e. omega (arith, e)) (c.requires.numbers 3 (lit< tt) (lit< tt)),
  λ e. let under = c.cut-two.ensures.under.0 ∙ c.requires.group.1 in omega (arith, e, under),
)

pub cut-waiter-requires-clause-group : goal.cut-waiter-requires-clause-group
cut-waiter-requires-clause-group g c =
    left_of c.args.group.now c.cut-two.new.member c.cut-three.new.member 3 c.cut-three.result c.cut-three.ensures
    (left_of c.args.group.now c.args.member.now c.cut-two.new.member 2 c.cut-two.result c.cut-two.ensures c.requires.group.0)

pub cut-waiter-requires-clause-number : goal.cut-waiter-requires-clause-number
cut-waiter-requires-clause-number g c = (
  other_number c.args.group.now c.cut-two.new.member c.cut-three.new.member 3 4 c.cut-three.result c.cut-three.ensures (λ e. omega (arith, e))
      (other_number c.args.group.now c.args.member.now c.cut-two.new.member 2 4 c.cut-two.result c.cut-two.ensures (λ e. omega (arith, e)) (c.requires.numbers 4 (lit< tt) (lit< tt))),
  λ e. let under = c.cut-three.ensures.under.0 ∙ (c.cut-two.ensures.under.0 ∙ c.requires.group.1) in omega (arith, e, under),
)

pub clear_all-requires : goal.clear_all-requires
clear_all-requires g c =
    may_commit c.args.group.now c.cut-two.result c.cut-two.result 1
    (given_of c.args.group.now c.args.member.now c.cut-two.new.member 2 c.cut-two.result c.cut-two.ensures c.requires.group.0) c.cut-two.ensures.under.1

pub clear_all-requires-2 : goal.clear_all-requires-2
clear_all-requires-2 g c =
    let left = left_of c.args.group.now c.args.member.now c.cut-two.new.member 2 c.cut-two.result c.cut-two.ensures c.requires.group.0 in
    may_commit c.args.group.now c.cut-three.result c.cut-three.result 2
    (given_of c.args.group.now c.cut-two.new.member c.cut-three.new.member 3 c.cut-three.result c.cut-three.ensures left) c.cut-three.ensures.under.1

pub returns-clause-commits : goal.returns-clause-commits
returns-clause-commits g c =
    let left = left_of c.args.group.now c.args.member.now c.cut-two.new.member 2 c.cut-two.result c.cut-two.ensures c.requires.group.0 in (
      more_of c.args.group.now c.cut-two.result c.clear_all.new.member c.clear_all.ensures
          (given_of c.args.group.now c.args.member.now c.cut-two.new.member 2 c.cut-two.result c.cut-two.ensures c.requires.group.0),
      more_of c.args.group.now c.cut-three.result c.clear_all-2.new.member c.clear_all-2.ensures
          (given_of c.args.group.now c.cut-two.new.member c.cut-three.new.member 3 c.cut-three.result c.cut-three.ensures left),
    )

pub returns-clause-waiter : goal.returns-clause-waiter
returns-clause-waiter g c =
    let left = left_of c.args.group.now c.args.member.now c.cut-two.new.member 2 c.cut-two.result c.cut-two.ensures c.requires.group.0 in
    let both = left_of c.args.group.now c.cut-two.new.member c.cut-three.new.member 3 c.cut-three.result c.cut-three.ensures left in
    may_commit c.args.group.now c.cut-waiter.result c.cut-waiter.result 3
    (given_of c.args.group.now c.cut-three.new.member c.cut-waiter.new.member 4 c.cut-waiter.result c.cut-waiter.ensures both) c.cut-waiter.ensures.under.1
