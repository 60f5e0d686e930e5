use Rattle.std.proofs.Common.{ap, sym, subst, ◌∙◌}
use Rattle.turn_lock.specs.Turns.{longer, PassView}
use Rattle.group_commit.specs.Members.{GoesOnIn, GroupView, MemberView, met}
use Rattle.group_commit.proofs.Belonging.{member}
use Rattle.group_commit.proofs.Grouping.{goes_on_in, member_met, same_member}
use Rattle.group_commit.proofs.group.GroupCommit.meet.Goals as goal

pub meet-requires : goal.meet-requires
meet-requires g c = (
  ap (λ (v : MemberView _ _). v.session.lock) c.member.view_is ∙ (c.requires.0.0 ∙ sym (ap (λ (v : GroupView). v.store) c.self.view_is)),
  ap (λ (v : MemberView _ _). v.session.lock) c.other.view_is ∙ (c.requires.1.0 ∙ sym (ap (λ (v : GroupView). v.store) c.self.view_is)),
)

pub meet-requires-2-clause-lock : goal.meet-requires-2-clause-lock
meet-requires-2-clause-lock g c = (
  ap (λ (v : MemberView _ _). v.pass.lock) c.member.view_is ∙ (c.requires.0.1 ∙ sym (ap (λ (v : GroupView). v.lock) c.self.view_is)),
  ap (λ (v : MemberView _ _). v.pass.lock) c.other.view_is ∙ (c.requires.1.1 ∙ sym (ap (λ (v : GroupView). v.lock) c.self.view_is)),
)

pub meet-requires-2-clause-turn : goal.meet-requires-2-clause-turn
meet-requires-2-clause-turn g c = (c.member.invariant.turn, c.other.invariant.turn)

pub invariant_of-member : goal.invariant_of-member
invariant_of-member g c =
    let m = c.member.inside in
    let o = c.other.inside in
    member_met m.session o.session c.meet.new.self m.pass o.pass c.meet-2.new.pass m.durable o.durable c.greater-member-inside.result c.member.invariant c.other.invariant c.meet.ensures.goes_on c.meet-2.ensures.goes_on c.meet-2.ensures.other_goes_on c.greater-member-inside.ensures
    c.meet.ensures.seen c.meet-2.ensures.pass

pub invariant_of-other : goal.invariant_of-other
invariant_of-other g c =
    let o = c.other.inside in
    same_member o.session c.meet.new.other o.pass c.meet-2.new.other o.durable c.other.invariant c.meet.ensures.other c.meet-2.ensures.other

pub returns-clause-kept : goal.returns-clause-kept
returns-clause-kept g c =
    (λ i. record { session = c.meet.ensures.seen i; pass = c.meet-2.ensures.pass i })
    ∙ (λ i. met (c.member.view_is i) (c.other.view_is i))

pub returns-clause-goes_on : goal.returns-clause-goes_on
returns-clause-goes_on g c =
    let m = c.member.inside in
    let o = c.other.inside in
    let after = member c.meet.new.self c.meet-2.new.pass in
    let seen = ap (λ (x : PassView _). x.seen) c.meet-2.ensures.pass in (
      subst (λ (v : MemberView _ _). GoesOnIn v after) c.member.view_is (goes_on_in m.session c.meet.new.self m.pass c.meet-2.new.pass (longer m.pass.seen o.pass.seen) seen c.meet.ensures.goes_on c.meet-2.ensures.goes_on),
      subst (λ (v : MemberView _ _). GoesOnIn v after) c.other.view_is (goes_on_in o.session c.meet.new.self o.pass c.meet-2.new.pass (longer m.pass.seen o.pass.seen) seen c.meet.ensures.other_goes_on c.meet-2.ensures.other_goes_on),
    )

pub returns-clause-other : goal.returns-clause-other
returns-clause-other g c = (λ i. record { session = c.meet.ensures.other i; pass = c.meet-2.ensures.other i }) ∙ c.other.view_is
