use denote.Param.Send.{sendable}
use Rattle.turn_lock.proofs.Sent.{lock_send, lock_sync, pass_send}
use Rattle.turn_lock.proofs.crossing.crosses.Goals as goal

pub sent-requires-send-T : goal.sent-requires-send-T
sent-requires-send-T g c κs within = search (sendable, lock_send) depth 20

pub shared-requires-sync-T : goal.shared-requires-sync-T
shared-requires-sync-T g c κs within = search (sendable, lock_sync) depth 20

pub sent-requires-2-send-T : goal.sent-requires-2-send-T
sent-requires-2-send-T g c κs within = search (sendable, pass_send) depth 20
