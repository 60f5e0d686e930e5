use Rattle.group_commit.proofs.Answered.{abort_line}
use Rattle.group_commit.proofs.port.abort.Goals as goal

pub returns : goal.returns
returns g c =
    abort_line g.B.NodeRead.count g.B.NodeRead.contents g.C.TreeCall.meaning c.args.group.now c.args.member.now c.abort.new.self c.requires c.nothing.result c.abort.result c.abort.ensures.done c.abort.ensures.pass c.nothing.ensures
