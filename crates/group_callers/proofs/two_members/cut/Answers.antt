use Rattle.std.proofs.Common.{ap}
use Rattle.group_commit.specs.Members.{MemberView}
use Rattle.group_callers.proofs.two_members.cut.Goals as goal

pub returns : goal.returns
returns g c =
    let kept = c.split.ensures.kept in
    let given = c.split.ensures.given in record {
      store = (ap (λ (v : MemberView _ _). v.session.lock) kept, ap (λ (v : MemberView _ _). v.session.lock) given);
      lock = (ap (λ (v : MemberView _ _). v.pass.lock) kept, ap (λ (v : MemberView _ _). v.pass.lock) given);
      under = (ap (λ (v : MemberView _ _). v.session.under) kept, ap (λ (v : MemberView _ _). v.session.under) given);
      session = (ap (λ (v : MemberView _ _). v.session.has) kept, ap (λ (v : MemberView _ _). v.session.has) given);
      pass = (ap (λ (v : MemberView _ _). v.pass.has) kept, ap (λ (v : MemberView _ _). v.pass.has) given);
      seen = ap (λ (v : MemberView _ _). v.pass.seen) kept;
    }
