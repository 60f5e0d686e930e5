use Rattle.node_seq.proofs.Walks.{walk_found}
use Rattle.node_seq.proofs.walk.Walk.above.Goals as goal

pub returns-clause-rest : goal.returns-clause-rest
returns-clause-rest g c es t = walk_found c.args.key.now c.in_ok-next.next es (c.faults-faults.ensures.in_order es t) (c.in_ok-next.ensures.value es t)
