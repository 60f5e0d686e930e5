use denote.Param.Send.{sendable}
use Rattle.std.proofs.Crossing.{crosses}
use Rattle.std.proofs.alloc.Global.TheSendSync as heap
use Rattle.node_seq.proofs.sorted_seq.SortedSeq.TheSendSync as seq
use Rattle.shared_store.proofs.Sent.{session_send, store_sync}
use Rattle.shared_cases.proofs.Sent.{op_send}
use Rattle.shared_cases.proofs.waits.both_until_ended.Goals as goal

pub join-requires-send-F : goal.join-requires-send-F
join-requires-send-F g c κs within = let r = c.type_bounds.sync-R in search (sendable, crosses, heap.the_send, session_send, store_sync, op_send, seq.the_send) depth 20
