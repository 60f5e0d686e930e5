use Rattle.std.proofs.Common.{sym, ap, ◌∙◌}
use Rattle.shared_store.specs.Sessions.{SessionView}
use Rattle.group_commit.specs.Members.{MarksPass}
use Rattle.group_callers.proofs.Members.{called, committed, committed_durable, seen_on}
use Rattle.group_callers.proofs.two_members.commit_one.Goals as goal

pub returns-in_err-begin-clause-more : goal.returns-in_err-begin-clause-more
returns-in_err-begin-clause-more g c = called c.args.member.now c.begin.new.self c.begin.ensures.done.same c.begin.ensures.pass

pub call-requires : goal.call-requires
call-requires g c = ap (λ (v : SessionView _ _). v.lock) c.begin.ensures.done.same ∙ (c.requires.0.0 ∙ sym c.store-2.ensures)

pub returns-in_err-call-clause-more : goal.returns-in_err-call-clause-more
returns-in_err-call-clause-more g c =
    seen_on c.args.member.now c.begin.new.self c.call.new.self (called c.args.member.now c.begin.new.self c.begin.ensures.done.same c.begin.ensures.pass) (called c.begin.new.self c.call.new.self c.call.ensures.done.same c.call.ensures.pass)

pub commit-requires : goal.commit-requires
commit-requires g c = (
  ap (λ (v : SessionView _ _). v.lock) c.call.ensures.done.same ∙ (ap (λ (v : SessionView _ _). v.lock) c.begin.ensures.done.same ∙ c.requires.0.0),
  ap (λ (p : MarksPass _ _). p.lock) c.call.ensures.pass ∙ (ap (λ (p : MarksPass _ _). p.lock) c.begin.ensures.pass ∙ c.requires.0.1),
)

pub returns-clause-more : goal.returns-clause-more
returns-clause-more g c =
    seen_on c.args.member.now c.begin.new.self c.commit.new.member (called c.args.member.now c.begin.new.self c.begin.ensures.done.same c.begin.ensures.pass)
    (seen_on c.begin.new.self c.call.new.self c.commit.new.member (called c.begin.new.self c.call.new.self c.call.ensures.done.same c.call.ensures.pass)
    (committed g.B.NodeRead.contents g.C.TreeCall.meaning c.call.new.self c.commit.new.member c.commit.result c.commit.ensures))

pub returns-clause-durable : goal.returns-clause-durable
returns-clause-durable g c = committed_durable g.B.NodeRead.contents g.C.TreeCall.meaning c.call.new.self c.commit.new.member c.commit.result c.commit.ensures
