use Rattle.std.proofs.Common.{ap}
use Rattle.group_commit.specs.Members.{MemberView}
use Rattle.group_callers.proofs.two_members.take_back.Goals as goal

pub returns : goal.returns
returns g c =
    let kept = c.join.ensures.kept in record {
      store = ap (λ (v : MemberView _ _). v.session.lock) kept;
      lock = ap (λ (v : MemberView _ _). v.pass.lock) kept;
      under = ap (λ (v : MemberView _ _). v.session.under) kept;
      session = ap (λ (v : MemberView _ _). v.session.has) kept;
      pass = ap (λ (v : MemberView _ _). v.pass.has) kept;
      own = c.join.ensures.goes_on.0;
      others = c.join.ensures.goes_on.1;
    }
