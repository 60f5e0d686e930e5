use Rattle.std.proofs.Common.{◌∙◌, lit<, arith}
use Rattle.group_callers.proofs.Joined.{given_of, left_of, may_commit, more_of, other_number, took_of}
use Rattle.group_callers.proofs.Members.{seen_on}
use Rattle.group_tests.proofs.Members.{came_back, same_numbers, unchanged}
use Rattle.group_tests.proofs.rows.commit_beside.Goals as goal

pub cut-one-requires-clause-number : goal.cut-one-requires-clause-number
cut-one-requires-clause-number g c = (c.requires.numbers.0, λ e. let under = c.requires.group.1 in omega (arith, e, under))

pub cut-two-requires-clause-group : goal.cut-two-requires-clause-group
cut-two-requires-clause-group g c = left_of c.args.group.now c.args.member.now c.cut-one.new.member 1 c.cut-one.result c.cut-one.ensures c.requires.group.0

pub cut-two-requires-clause-number : goal.cut-two-requires-clause-number
cut-two-requires-clause-number g c = (
  other_number c.args.group.now c.args.member.now c.cut-one.new.member 1 2 c.cut-one.result c.cut-one.ensures (λ e. omega (arith, e)) c.requires.numbers.1,
  λ e. let under = c.cut-one.ensures.under.0 ∙ c.requires.group.1 in omega (arith, e, under),
)

pub commit_next-first-requires : goal.commit_next-first-requires
commit_next-first-requires g c =
    may_commit c.args.group.now c.cut-one.result c.cut-one.result 0
    (given_of c.args.group.now c.args.member.now c.cut-one.new.member 1 c.cut-one.result c.cut-one.ensures c.requires.group.0) c.cut-one.ensures.under.1

pub commit_next-second-requires : goal.commit_next-second-requires
commit_next-second-requires g c =
    let left = left_of c.args.group.now c.args.member.now c.cut-one.new.member 1 c.cut-one.result c.cut-one.ensures c.requires.group.0 in
    may_commit c.args.group.now c.cut-two.result c.cut-two.result 1
    (given_of c.args.group.now c.cut-one.new.member c.cut-two.new.member 2 c.cut-two.result c.cut-two.ensures left) c.cut-two.ensures.under.1

pub end_and_take_back-requires : goal.end_and_take_back-requires
end_and_take_back-requires g c =
    let left = left_of c.args.group.now c.args.member.now c.cut-one.new.member 1 c.cut-one.result c.cut-one.ensures c.requires.group.0 in
    let given = given_of c.args.group.now c.cut-one.new.member c.cut-two.new.member 2 c.cut-two.result c.cut-two.ensures left in (
      left_of c.args.group.now c.cut-one.new.member c.cut-two.new.member 2 c.cut-two.result c.cut-two.ensures left,
      more_of c.args.group.now c.cut-two.result c.commit_next-second.new.member c.commit_next-second.ensures given,
    )

pub end_and_take_back-requires-2 : goal.end_and_take_back-requires-2
end_and_take_back-requires-2 g c =
    let left = left_of c.args.group.now c.args.member.now c.cut-one.new.member 1 c.cut-one.result c.cut-one.ensures c.requires.group.0 in
    let both = left_of c.args.group.now c.cut-one.new.member c.cut-two.new.member 2 c.cut-two.result c.cut-two.ensures left in
    let given = given_of c.args.group.now c.args.member.now c.cut-one.new.member 1 c.cut-one.result c.cut-one.ensures c.requires.group.0 in (
      took_of c.args.group.now c.cut-two.new.member c.end_and_take_back.new.member c.end_and_take_back.ensures.0 c.end_and_take_back.ensures.2 both,
      more_of c.args.group.now c.cut-one.result c.commit_next-first.new.member c.commit_next-first.ensures given,
    )

pub returns : goal.returns
returns g c =
    let two = c.end_and_take_back.ensures in
    let one = c.end_and_take_back-2.ensures in
    let cut_two = c.cut-two.new.member in
    let back = came_back 2 c.cut-one.new.member cut_two c.cut-two.result cut_two two.0 c.end_and_take_back.new.member (lit< tt) c.cut-two.ensures (same_numbers cut_two cut_two (unchanged cut_two))
    (seen_on c.cut-two.result c.commit_next-second.new.member two.0 c.commit_next-second.ensures two.1) two.2 in
    came_back 1 c.args.member.now c.cut-one.new.member c.cut-one.result c.end_and_take_back.new.member one.0 c.end_and_take_back-2.new.member (lit< tt) c.cut-one.ensures back
    (seen_on c.cut-one.result c.commit_next-first.new.member one.0 c.commit_next-first.ensures one.1) one.2
