use denote.Param.Send.{sendable}
use Rattle.std.proofs.alloc.Global.TheSendSync as heap
use Rattle.group_commit.proofs.Sent.{group_sync, member_send}
use Rattle.group_callers.proofs.Sent.{answered_send}
use Rattle.group_callers.proofs.two_members.commit_both.Goals as goal

pub join-requires-send-F : goal.join-requires-send-F
join-requires-send-F g c κs within = let r = c.type_bounds.sync-R in search (sendable, heap.the_send, member_send, group_sync) depth 20

pub join-requires-send-A : goal.join-requires-send-A
join-requires-send-A g c κs within = search (sendable, answered_send) depth 20
