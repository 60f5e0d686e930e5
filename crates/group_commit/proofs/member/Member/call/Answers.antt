use Rattle.std.proofs.Common.{ap, subst}
use Rattle.shared_store.specs.Waits.{HasCalled}
use Rattle.shared_store.specs.Sessions.{HasDone}
use Rattle.group_commit.specs.Members.{MemberView}
use Rattle.group_commit.proofs.Belonging.{done_grown, member_stays}
use Rattle.group_commit.proofs.member.Member.call.Goals as goal

pub invariant_of-self : goal.invariant_of-self
invariant_of-self g c =
    let h = c.call.ensures in
    member_stays c.self.inside.session c.call.new.self c.self.inside.pass c.self.inside.durable c.self.invariant h.same (done_grown c.self.inside.session c.call.new.self _ h (h.did.grown))

pub returns-clause-done : goal.returns-clause-done
returns-clause-done g c = subst (λ (v : MemberView _ _). HasDone v.session c.call.new.self (λ before after. HasCalled g.B.NodeRead.count g.B.NodeRead.contents g.C.TreeCall.meaning v.session.has before v.session.under c.args.call c.call.result after)) c.self.view_is c.call.ensures

pub returns-clause-pass : goal.returns-clause-pass
returns-clause-pass g c = ap (λ (v : MemberView _ _). v.pass) c.self.view_is
