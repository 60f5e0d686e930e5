use Rattle.std.proofs.Common.{rules}
use Rattle.turn_lock.proofs.PassesKept.{opens}
use Rattle.turn_lock.proofs.lock.TurnLock.new.Goals as goal

pub new-requires : goal.new-requires
new-requires g c = opens g.V.Grows.entries g.V.Grows.number c.args.value _ _ _ _ (search rules) (search rules) (search rules) (search rules)
