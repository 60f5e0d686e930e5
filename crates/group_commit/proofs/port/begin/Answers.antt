use Rattle.group_commit.proofs.Answered.{begin_line}
use Rattle.group_commit.proofs.port.begin.Goals as goal

pub returns : goal.returns
returns g c =
    begin_line g.B.NodeRead.count g.B.NodeRead.contents g.C.TreeCall.meaning c.args.group.now c.args.member.now c.begin.new.self c.requires c.number.result c.begin.result c.begin.ensures.done c.begin.ensures.pass c.number.ensures
