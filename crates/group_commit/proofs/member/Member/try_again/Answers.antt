use Rattle.std.proofs.Common.{ap, subst}
use Rattle.shared_store.specs.Calls.{HasTriedAgain}
use Rattle.shared_store.specs.Sessions.{HasDone}
use Rattle.shared_store.proofs.Waiting.{grown_later}
use Rattle.group_commit.specs.Members.{MemberView}
use Rattle.group_commit.proofs.Belonging.{done_grown, member_stays}
use Rattle.group_commit.proofs.member.Member.try_again.Goals as goal

pub invariant_of-self : goal.invariant_of-self
invariant_of-self g c =
    let h = c.try_again.ensures in
    member_stays c.self.inside.session c.try_again.new.self c.self.inside.pass c.self.inside.durable c.self.invariant h.same (done_grown c.self.inside.session c.try_again.new.self _ h (grown_later g.B.NodeRead.count g.B.NodeRead.contents g.C.TreeCall.meaning h.before c.try_again.new.self.seen c.self.inside.session.under c.try_again.result h.did))

pub returns-clause-done : goal.returns-clause-done
returns-clause-done g c = subst (λ (v : MemberView _ _). HasDone v.session c.try_again.new.self (λ before after. HasTriedAgain g.B.NodeRead.count g.B.NodeRead.contents g.C.TreeCall.meaning before v.session.under c.try_again.result after)) c.self.view_is c.try_again.ensures

pub returns-clause-pass : goal.returns-clause-pass
returns-clause-pass g c = ap (λ (v : MemberView _ _). v.pass) c.self.view_is
