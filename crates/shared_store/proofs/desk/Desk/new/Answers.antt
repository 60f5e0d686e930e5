use Rattle.std.proofs.Common.{rules}
use Rattle.shared_store.proofs.Desks.{new_desk}
use Rattle.shared_store.proofs.desk.Desk.new.Goals as goal

pub invariant_of-result : goal.invariant_of-result
invariant_of-result g c =
    (new_desk g.B.NodeRead.unchanged g.met.B.NodeRead.unchanged_itself c.of.result.value c.args.core c.make_room.new.drains c.of.ensures (search rules) (search rules) c.requires.sessions, c.requires.bodies)
