use Rattle.std.proofs.Common.{ap, ◌∙◌}
use Rattle.group_commit.specs.Marks.{durable_in}
use Rattle.group_commit.specs.Members.{MemberView}
use Rattle.group_commit.proofs.member.Member.durable.Goals as goal

pub returns : goal.returns
returns g c = c.self.invariant.known ∙ ap (λ (v : MemberView _ _). durable_in v.pass.seen) c.self.view_is
