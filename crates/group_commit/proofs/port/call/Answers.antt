use Rattle.group_commit.proofs.Answered.{call_line}
use Rattle.group_commit.proofs.port.call.Goals as goal

pub returns : goal.returns
returns g c =
    call_line g.B.NodeRead.count g.B.NodeRead.contents g.C.TreeCall.meaning c.args.group.now c.args.member.now c.call.new.self c.requires c.ended.result c.args.call c.call.result c.call.ensures.done c.call.ensures.pass c.ended.ensures
