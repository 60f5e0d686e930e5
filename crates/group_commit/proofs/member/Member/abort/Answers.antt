use Rattle.std.proofs.Common.{ap, subst}
use Rattle.shared_store.specs.Calls.{HasAborted}
use Rattle.shared_store.specs.Sessions.{HasDone}
use Rattle.group_commit.specs.Members.{MemberView}
use Rattle.group_commit.proofs.Belonging.{done_grown, grown_aborted, member_stays}
use Rattle.group_commit.proofs.member.Member.abort.Goals as goal

pub invariant_of-self : goal.invariant_of-self
invariant_of-self g c =
    let h = c.abort.ensures.done in
    member_stays c.self.inside.session c.abort.new.self c.self.inside.pass c.self.inside.durable c.self.invariant h.same (done_grown c.self.inside.session c.abort.new.self _ h (grown_aborted h.before c.abort.new.self.seen c.self.inside.session.under c.abort.result h.did))

pub returns-clause-done : goal.returns-clause-done
returns-clause-done g c = subst (λ (v : MemberView _ _). HasDone v.session c.abort.new.self (λ before after. HasAborted before v.session.under c.abort.result after)) c.self.view_is c.abort.ensures.done

pub returns-clause-pass : goal.returns-clause-pass
returns-clause-pass g c = ap (λ (v : MemberView _ _). v.pass) c.self.view_is
