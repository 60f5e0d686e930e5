use denote.Param.Send.{sendable}
use Rattle.std.proofs.Crossing.{crosses}
use Rattle.std.proofs.alloc.Global.TheSendSync as heap
use Rattle.node_seq.proofs.sorted_seq.SortedSeq.TheSendSync as seq
use Rattle.call_tests.proofs.toys.Clear.TheSendSync as clear
use Rattle.group_commit.proofs.Sent.{group_sync, member_send}
use Rattle.group_tests.proofs.Sent.{held_send}
use Rattle.group_tests.proofs.held.commit_all.Goals as goal

pub join-requires-send-F : goal.join-requires-send-F
join-requires-send-F g c κs within = let r = c.type_bounds.sync-R in search (sendable, crosses, heap.the_send, member_send, group_sync, seq.the_send, clear.the_send, held_send) depth 20
