use Rattle.std.proofs.Common.{ap, subst}
use Rattle.shared_store.specs.Calls.{HasBegun}
use Rattle.shared_store.specs.Sessions.{HasDone}
use Rattle.group_commit.specs.Members.{MemberView}
use Rattle.group_commit.proofs.Belonging.{done_grown, grown_begun, member_stays}
use Rattle.group_commit.proofs.member.Member.begin.Goals as goal

pub invariant_of-self : goal.invariant_of-self
invariant_of-self g c =
    let h = c.begin.ensures in
    member_stays c.self.inside.session c.begin.new.self c.self.inside.pass c.self.inside.durable c.self.invariant h.same (done_grown c.self.inside.session c.begin.new.self _ h (grown_begun h.before c.begin.new.self.seen c.self.inside.session.under c.begin.result h.did))

pub returns-clause-done : goal.returns-clause-done
returns-clause-done g c = subst (λ (v : MemberView _ _). HasDone v.session c.begin.new.self (λ before after. HasBegun before v.session.under c.begin.result after)) c.self.view_is c.begin.ensures

pub returns-clause-pass : goal.returns-clause-pass
returns-clause-pass g c = ap (λ (v : MemberView _ _). v.pass) c.self.view_is
