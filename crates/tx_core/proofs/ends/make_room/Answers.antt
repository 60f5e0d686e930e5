use Rattle.std.proofs.Common.{arith}
use Rattle.tx_core.proofs.ends.make_room.Goals as goal

pub returns-clause-more : goal.returns-clause-more
returns-clause-more g c = omega (arith, c.in_ok-reserve.ensures.ok, c.len.ensures, c.reserve.new.self.ok.0, c.args.parts.now.waiting.ok.0)
