use Rattle.std.proofs.Common.{◌∙◌, sym, ap, lit<, arith}
use Rattle.shared_store.specs.Sessions.{SessionView}
use Rattle.group_callers.proofs.Joined.{given_of, left_of, more_of}
use Rattle.group_callers.proofs.Members.{called, committed}
use Rattle.group_tests.proofs.rows.commit_on_a_failing_disk.Goals as goal

pub cut-two-requires-clause-number : goal.cut-two-requires-clause-number
cut-two-requires-clause-number g c = (c.in_ok-group.ensures.numbers 2 (lit< tt) (lit< tt), λ e. let under = c.in_ok-group.ensures.under in omega (arith, e, under))

pub begin-ordinal-requires-clause-store : goal.begin-ordinal-requires-clause-store
begin-ordinal-requires-clause-store g c =
    (given_of c.in_ok-group.group c.in_ok-group.member c.cut-two.new.member 2 c.cut-two.result c.cut-two.ensures c.in_ok-group.ensures.group).0 ∙ sym c.store.ensures

pub begin-ordinal-requires-clause-number : goal.begin-ordinal-requires-clause-number
begin-ordinal-requires-clause-number g c = λ e. let under = c.cut-two.ensures.under.1 in omega (arith, e, under)

pub commit_next-first-requires : goal.commit_next-first-requires
commit_next-first-requires g c = (
  left_of c.in_ok-group.group c.in_ok-group.member c.cut-two.new.member 2 c.cut-two.result c.cut-two.ensures c.in_ok-group.ensures.group,
  λ e. let under = c.cut-two.ensures.under.0 ∙ c.in_ok-group.ensures.under in omega (arith, e, under),
)

pub commit-second-requires : goal.commit-second-requires
commit-second-requires g c =
    more_of c.in_ok-group.group c.cut-two.result c.begin-ordinal.new.self (called c.cut-two.result c.begin-ordinal.new.self c.begin-ordinal.ensures.done.same c.begin-ordinal.ensures.pass)
    (given_of c.in_ok-group.group c.in_ok-group.member c.cut-two.new.member 2 c.cut-two.result c.cut-two.ensures c.in_ok-group.ensures.group)

pub make_durable-asked-requires : goal.make_durable-asked-requires
make_durable-asked-requires g c =
    more_of c.in_ok-group.group c.begin-ordinal.new.self c.commit-second.new.member (committed _ _ c.begin-ordinal.new.self c.commit-second.new.member c.commit-second.result c.commit-second.ensures)
    (more_of c.in_ok-group.group c.cut-two.result c.begin-ordinal.new.self (called c.cut-two.result c.begin-ordinal.new.self c.begin-ordinal.ensures.done.same c.begin-ordinal.ensures.pass)
    (given_of c.in_ok-group.group c.in_ok-group.member c.cut-two.new.member 2 c.cut-two.result c.cut-two.ensures c.in_ok-group.ensures.group))

pub begin-begun-requires-clause-store : goal.begin-begun-requires-clause-store
begin-begun-requires-clause-store g c =
    (more_of c.in_ok-group.group c.cut-two.new.member c.commit_next-first.new.member c.commit_next-first.ensures
    (left_of c.in_ok-group.group c.in_ok-group.member c.cut-two.new.member 2 c.cut-two.result c.cut-two.ensures c.in_ok-group.ensures.group)).0 ∙ sym c.store-2.ensures

pub begin-begun-requires-clause-number : goal.begin-begun-requires-clause-number
begin-begun-requires-clause-number g c = λ e.
    let under = ap (λ (s : SessionView _ _). s.under) c.commit_next-first.ensures.session ∙ (c.cut-two.ensures.under.0 ∙ c.in_ok-group.ensures.under) in
    omega (arith, e, under)
