use denote.Param.Send.{sendable}
use Rattle.group_commit.proofs.Sent.{group_sync, member_send}
use Rattle.group_commit.proofs.crossing.crosses.Goals as goal

pub sent-requires-send-T : goal.sent-requires-send-T
sent-requires-send-T g c κs within = search (sendable, member_send) depth 20

pub shared-requires-sync-T : goal.shared-requires-sync-T
shared-requires-sync-T g c κs within = search (sendable, group_sync) depth 20
