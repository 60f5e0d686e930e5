use denote.Param.Send.{sendable}
use Rattle.tx_core.proofs.Sent.{core_send}
use Rattle.tx_core.proofs.crossing.crosses.Goals as goal

pub sent-requires-send-T : goal.sent-requires-send-T
sent-requires-send-T g c κs within = search (sendable, core_send) depth 20
