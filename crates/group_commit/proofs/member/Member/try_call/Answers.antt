use Rattle.std.proofs.Common.{ap, subst}
use Rattle.shared_store.specs.Calls.{HasTried}
use Rattle.shared_store.specs.Sessions.{HasDone}
use Rattle.shared_store.proofs.Waiting.{grown_first}
use Rattle.group_commit.specs.Members.{MemberView}
use Rattle.group_commit.proofs.Belonging.{done_grown, member_stays}
use Rattle.group_commit.proofs.member.Member.try_call.Goals as goal

pub invariant_of-self : goal.invariant_of-self
invariant_of-self g c =
    let h = c.try_call.ensures in
    member_stays c.self.inside.session c.try_call.new.self c.self.inside.pass c.self.inside.durable c.self.invariant h.same (done_grown c.self.inside.session c.try_call.new.self _ h (grown_first g.B.NodeRead.count h.before c.try_call.new.self.seen c.self.inside.session.under c.args.call c.try_call.result h.did))

pub returns-clause-done : goal.returns-clause-done
returns-clause-done g c = subst (λ (v : MemberView _ _). HasDone v.session c.try_call.new.self (λ before after. HasTried g.B.NodeRead.count before v.session.under c.args.call c.try_call.result after)) c.self.view_is c.try_call.ensures

pub returns-clause-pass : goal.returns-clause-pass
returns-clause-pass g c = ap (λ (v : MemberView _ _). v.pass) c.self.view_is
