-- What a member's thread comes back with may go to another one.
use denote.RattleType.{RattleType}
use denote.Param.Send.{IsSend, sendable}
use Rattle.std.proofs.Crossing.{crosses}
use Rattle.call_contract.specs.declared.tree_call.TreeCall as call
use Rattle.node_seq.specs.declared.node_read.NodeRead as base
use Rattle.outside_traits.specs.declared.disk.Disk as disk
use Rattle.shared_store.proofs.errors.StoreError.TheSendSync as error
use Rattle.shared_store.specs.contracts.errors.StoreError as StoreError
use Rattle.group_commit.proofs.Sent.{member_send}
use Rattle.group_callers.specs.contracts.two_members.Answered as Answered

error_field_send : IsSend (StoreError.the_field).row
error_field_send = search (sendable, crosses, error.the_field_send) depth 20

error_send : IsSend StoreError.the_row
error_send = search (sendable, crosses, error_field_send) depth 20

module _ (C B J : RattleType) (f : call.Ghosts C.Denot) (g : base.Ghosts B.Denot) (h : disk.Ghosts J.Denot) where
  pub answered_send : IsSend C → IsSend B → IsSend J → IsSend (Answered.the_row C B J f g h)
  answered_send c b j = search (sendable, crosses, member_send, error_send) depth 20
