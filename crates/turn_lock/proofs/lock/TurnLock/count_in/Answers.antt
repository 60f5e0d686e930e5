use Rattle.std.proofs.Common.{rules}
use Rattle.turn_lock.proofs.StepsKept.{counting_up}
use Rattle.turn_lock.proofs.lock.TurnLock.count_in.Goals as goal

pub fetch_add-requires : goal.fetch_add-requires
fetch_add-requires g c = (search rules, search rules, counting_up _ _ _ _ _ _ _ c.requires.word.0 c.requires.word.1)
