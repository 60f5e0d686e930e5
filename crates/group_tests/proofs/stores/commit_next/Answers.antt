use Rattle.std.proofs.Common.{ap, ◌∙◌}
use Rattle.shared_store.specs.Sessions.{SessionView}
use Rattle.group_commit.specs.Members.{MarksPass}
use Rattle.group_callers.proofs.Members.{called, committed, seen_on}
use Rattle.group_tests.proofs.stores.commit_next.Goals as goal

pub returns-in_err-begin : goal.returns-in_err-begin
returns-in_err-begin g c = called c.args.member.now c.begin.new.self c.begin.ensures.done.same c.begin.ensures.pass

pub commit-requires : goal.commit-requires
commit-requires g c = (
  ap (λ (v : SessionView _ _). v.lock) c.begin.ensures.done.same ∙ c.requires.0.0,
  ap (λ (p : MarksPass _ _). p.lock) c.begin.ensures.pass ∙ c.requires.0.1,
)

pub returns : goal.returns
returns g c =
    seen_on c.args.member.now c.begin.new.self c.commit.new.member (called c.args.member.now c.begin.new.self c.begin.ensures.done.same c.begin.ensures.pass)
    (committed _ _ c.begin.new.self c.commit.new.member c.commit.result c.commit.ensures)
