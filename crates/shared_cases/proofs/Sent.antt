-- Calls on the store's tree and maps in memory may go to other threads.
use denote.Param.Send.{IsSend, sendable}
use Rattle.std.proofs.Crossing.{crosses}
use Rattle.command_lines.proofs.Sent.{store_call_send}
use Rattle.node_seq.proofs.sorted_seq.SortedSeq.TheSendSync as seq
use Rattle.store_calls.specs.contracts.store_op.StoreOp as StoreOp

pub op_send : IsSend StoreOp.the_row
op_send = search (sendable, crosses, store_call_send) depth 20
