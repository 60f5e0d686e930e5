use Rattle.std.proofs.Common.{◌∙◌, ap, lit<, arith}
use Rattle.shared_store.specs.Sessions.{SessionView}
use Rattle.group_callers.proofs.Joined.{more_of}
use Rattle.group_tests.proofs.Members.{all_of, back_again, back_of, numbers_of, same_numbers}
use Rattle.group_tests.proofs.rows.commit_in_turn.Goals as goal

pub commit_next-first-requires : goal.commit_next-first-requires
commit_next-first-requires g c = (c.in_ok-group.ensures.group, λ e. let under = c.in_ok-group.ensures.under in omega (arith, e, under))

pub commit_beside-beside-requires-clause-group : goal.commit_beside-beside-requires-clause-group
commit_beside-beside-requires-clause-group g c = (
  more_of c.in_ok-group.group c.in_ok-group.member c.commit_next-first.new.member c.commit_next-first.ensures c.in_ok-group.ensures.group,
  ap (λ (s : SessionView _ _). s.under) c.commit_next-first.ensures.session ∙ c.in_ok-group.ensures.under,
)

pub commit_beside-beside-requires-clause-numbers : goal.commit_beside-beside-requires-clause-numbers
commit_beside-beside-requires-clause-numbers g c =
    let same = same_numbers c.in_ok-group.member c.commit_next-first.new.member c.commit_next-first.ensures in
    (same.session 1 (c.in_ok-group.ensures.numbers 1 (lit< tt) (lit< tt)), same.session 2 (c.in_ok-group.ensures.numbers 2 (lit< tt) (lit< tt)))

pub ask_for_all-asked-requires : goal.ask_for_all-asked-requires
ask_for_all-asked-requires g c =
    back_of c.in_ok-group.group c.commit_next-first.new.member c.commit_beside-beside.new.member c.commit_beside-beside.ensures
    (more_of c.in_ok-group.group c.in_ok-group.member c.commit_next-first.new.member c.commit_next-first.ensures c.in_ok-group.ensures.group)

pub close-core-requires-clause-group : goal.close-core-requires-clause-group
close-core-requires-clause-group g c =
    let same = same_numbers c.in_ok-group.member c.commit_next-first.new.member c.commit_next-first.ensures in
    let back = back_again c.in_ok-group.member c.commit_next-first.new.member c.commit_beside-beside.new.member same c.commit_beside-beside.ensures in
    let asked = same_numbers c.commit_beside-beside.new.member c.ask_for_all-asked.new.member c.ask_for_all-asked.ensures in
    back_of c.in_ok-group.group c.in_ok-group.member c.ask_for_all-asked.new.member (back_again c.in_ok-group.member c.commit_beside-beside.new.member c.ask_for_all-asked.new.member back asked) c.in_ok-group.ensures.group

pub close-core-requires-clause-numbers : goal.close-core-requires-clause-numbers
close-core-requires-clause-numbers g c =
    let same = same_numbers c.in_ok-group.member c.commit_next-first.new.member c.commit_next-first.ensures in
    let back = back_again c.in_ok-group.member c.commit_next-first.new.member c.commit_beside-beside.new.member same c.commit_beside-beside.ensures in
    let asked = same_numbers c.commit_beside-beside.new.member c.ask_for_all-asked.new.member c.ask_for_all-asked.ensures in
    numbers_of c.in_ok-group.group c.in_ok-group.member c.ask_for_all-asked.new.member (back_again c.in_ok-group.member c.commit_beside-beside.new.member c.ask_for_all-asked.new.member back asked) c.in_ok-group.ensures.numbers

pub close-core-requires-clause-all : goal.close-core-requires-clause-all
close-core-requires-clause-all g c =
    let same = same_numbers c.in_ok-group.member c.commit_next-first.new.member c.commit_next-first.ensures in
    let back = back_again c.in_ok-group.member c.commit_next-first.new.member c.commit_beside-beside.new.member same c.commit_beside-beside.ensures in
    let asked = same_numbers c.commit_beside-beside.new.member c.ask_for_all-asked.new.member c.ask_for_all-asked.ensures in
    all_of c.in_ok-group.group c.in_ok-group.member c.ask_for_all-asked.new.member (back_again c.in_ok-group.member c.commit_beside-beside.new.member c.ask_for_all-asked.new.member back asked) c.in_ok-group.ensures.all
