-- A session goes to another thread, and threads share a store, where the calls and the base may go to another thread.
use denote.RattleType.{RattleType}
use denote.Param.Send.{IsSend, IsSync, sendable}
use Rattle.std.proofs.Crossing.{crosses}
use Rattle.call_contract.specs.declared.tree_call.TreeCall as call
use Rattle.node_seq.specs.declared.node_read.NodeRead as base
use Rattle.turn_lock.proofs.Sent.{pass_send, lock_send, lock_sync}
use Rattle.tx_core.proofs.Sent.{core_send}
use Rattle.shared_store.specs.contracts.desk.Desk as Desk
use Rattle.shared_store.specs.contracts.session.Session as Session
use Rattle.shared_store.specs.contracts.session.Store as Store

module _ (C B : RattleType) (f : call.Ghosts C.Denot) (g : base.Ghosts B.Denot) where
  desk_send : IsSend C → IsSend B → IsSend (Desk.the_row C B f g)
  desk_send c b = search (sendable, crosses, core_send) depth 20

  pub session_send : IsSend C → IsSend B → IsSend (Session.the_row C B f g)
  session_send c b = search (sendable, pass_send, desk_send) depth 20

  pub store_send : IsSend C → IsSend B → IsSend (Store.the_row C B f g)
  store_send c b = search (sendable, lock_send, desk_send) depth 20

  pub store_sync : IsSend C → IsSend B → IsSync (Store.the_row C B f g)
  store_sync c b = search (sendable, lock_sync, desk_send) depth 20
