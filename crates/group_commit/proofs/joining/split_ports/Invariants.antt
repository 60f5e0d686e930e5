use Rattle.group_commit.specs.StorePorts.{store_ports}
use Rattle.group_commit.specs.inside.Joining.{SplitSoFar}
use Rattle.group_commit.proofs.joining.split_ports.Given as goal

abbrev pub invariant-loop-command : goal.invariant-loop-command
invariant-loop-command g l = SplitSoFar (store_ports g.B.NodeRead.contents g.C.TreeCall.meaning g.C.LineCall.made) l.fn.lines l.command-index l.fn.main l.main l.ports.items
