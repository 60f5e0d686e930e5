use denote.Param.Send.{sendable}
use Rattle.command_lines.proofs.Sent.{command_send, command_sync, store_call_send, store_call_sync}
use Rattle.command_lines.proofs.crossing.crosses.Goals as goal

pub sent-requires-send-T : goal.sent-requires-send-T
sent-requires-send-T κs within = search (sendable, command_send)

pub shared-requires-sync-T : goal.shared-requires-sync-T
shared-requires-sync-T κs within = search (sendable, command_sync)

pub sent-requires-2-send-T : goal.sent-requires-2-send-T
sent-requires-2-send-T κs within = search (sendable, store_call_send)

pub shared-requires-2-sync-T : goal.shared-requires-2-sync-T
shared-requires-2-sync-T κs within = search (sendable, store_call_sync)
