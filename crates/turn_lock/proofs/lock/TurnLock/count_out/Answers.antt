use Rattle.std.proofs.Common.{rules}
use Rattle.turn_lock.proofs.StepsKept.{counting_down}
use Rattle.turn_lock.proofs.lock.TurnLock.count_out.Goals as goal

pub fetch_sub-requires : goal.fetch_sub-requires
fetch_sub-requires g c = (search rules, search rules, counting_down _ _ _ _ _ 1 _ c.requires.word.0 c.requires.word.1)
