use Rattle.group_commit.proofs.Answered.{commit_line}
use Rattle.group_commit.proofs.port.commit.Goals as goal

pub returns : goal.returns
returns g c =
    commit_line g.B.NodeRead.count g.B.NodeRead.contents g.C.TreeCall.meaning c.args.group.now c.args.member.now c.commit.new.member c.requires c.number.result c.commit.result c.commit.ensures c.number.ensures
