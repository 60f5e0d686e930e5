use Rattle.std.proofs.Common.{◌≡◌, ap, sym, subst, ◌∙◌}
use Rattle.std.specs.Prelude.{None}
use Rattle.call_contract.specs.Sessions.{live_in}
use Rattle.turn_lock.specs.Turns.{longer, PassView}
use Rattle.shared_store.specs.Lists.{book_of}
use Rattle.group_commit.specs.Members.{GoesOnIn, GroupView, joined, MemberView}
use Rattle.group_commit.proofs.Belonging.{member}
use Rattle.group_commit.proofs.Grouping.{goes_on_in, member_joined}
use Rattle.group_commit.proofs.group.GroupCommit.join.Goals as goal

pub join-requires-clause-store : goal.join-requires-clause-store
join-requires-clause-store g c = (
  ap (λ (v : MemberView _ _). v.session.lock) c.member.view_is ∙ (c.requires.group.0.0 ∙ sym (ap (λ (v : GroupView). v.store) c.self.view_is)),
  ap (λ (v : MemberView _ _). v.session.lock) c.other.view_is ∙ (c.requires.group.1.0 ∙ sym (ap (λ (v : GroupView). v.store) c.self.view_is)),
)

pub join-requires-clause-ended : goal.join-requires-clause-ended
join-requires-clause-ended g c = subst (λ (v : MemberView _ _). live_in (book_of v.session.seen) v.session.under ≡ None) (sym c.other.view_is) c.requires.ended

pub join-requires-2-clause-lock : goal.join-requires-2-clause-lock
join-requires-2-clause-lock g c = (
  ap (λ (v : MemberView _ _). v.pass.lock) c.member.view_is ∙ (c.requires.group.0.1 ∙ sym (ap (λ (v : GroupView). v.lock) c.self.view_is)),
  ap (λ (v : MemberView _ _). v.pass.lock) c.other.view_is ∙ (c.requires.group.1.1 ∙ sym (ap (λ (v : GroupView). v.lock) c.self.view_is)),
)

pub join-requires-2-clause-turn : goal.join-requires-2-clause-turn
join-requires-2-clause-turn g c = (c.member.invariant.turn, c.other.invariant.turn)

pub invariant_of-member : goal.invariant_of-member
invariant_of-member g c =
    let m = c.member.inside in
    let o = c.other.inside in
    member_joined m.session o.session c.join.new.session m.pass o.pass c.join-2.new.pass m.durable o.durable c.greater-member-inside.result c.member.invariant c.other.invariant c.join.ensures.goes_on c.join-2.ensures.goes_on c.join-2.ensures.other_goes_on c.greater-member-inside.ensures
    c.join.ensures.kept c.join-2.ensures.pass

pub returns-clause-kept : goal.returns-clause-kept
returns-clause-kept g c =
    (λ i. record { session = c.join.ensures.kept i; pass = c.join-2.ensures.pass i })
    ∙ (λ i. joined (c.member.view_is i) (c.other.view_is i))

pub returns-clause-goes_on : goal.returns-clause-goes_on
returns-clause-goes_on g c =
    let m = c.member.inside in
    let o = c.other.inside in
    let after = member c.join.new.session c.join-2.new.pass in
    let seen = ap (λ (x : PassView _). x.seen) c.join-2.ensures.pass in (
      subst (λ (v : MemberView _ _). GoesOnIn v after) c.member.view_is (goes_on_in m.session c.join.new.session m.pass c.join-2.new.pass (longer m.pass.seen o.pass.seen) seen c.join.ensures.goes_on c.join-2.ensures.goes_on),
      subst (λ (v : MemberView _ _). GoesOnIn v after) c.other.view_is (goes_on_in o.session c.join.new.session o.pass c.join-2.new.pass (longer m.pass.seen o.pass.seen) seen c.join.ensures.other_goes_on c.join-2.ensures.other_goes_on),
    )
