use Rattle.std.proofs.Common.{length}
use Rattle.std.specs.List.{AllByRecursion}
use Rattle.group_commit.specs.Members.{IsOf}
use Rattle.group_commit.specs.inside.Joining.{GoesFrom, MayJoin}
use Rattle.group_commit.proofs.Joins.{JoinsRest}
use Rattle.group_commit.proofs.joining.join_ports.Given as goal

abbrev pub invariant-loop-port : goal.invariant-loop-port
invariant-loop-port g l = JoinsRest l.fn.ports.items l.main l.ports.items × AllByRecursion (MayJoin l.fn.group) l.ports.items × IsOf l.fn.group l.main × GoesFrom l.fn.main l.main

abbrev pub decreases-loop-port : goal.decreases-loop-port
decreases-loop-port g l = length l.ports.items
