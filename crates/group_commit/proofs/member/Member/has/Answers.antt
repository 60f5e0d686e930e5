use Rattle.std.proofs.Common.{ap, ◌∙◌}
use Rattle.turn_lock.specs.Turns.{has_number}
use Rattle.group_commit.specs.Members.{MemberView}
use Rattle.group_commit.proofs.member.Member.has.Goals as goal

pub returns : goal.returns
returns g c = c.has.ensures ∙ ap (λ (v : MemberView _ _). has_number v.session.has c.args.number) c.self.view_is
