-- A pass goes to another thread, and threads share a lock, where the value may go to another thread.
use denote.RattleType.{RattleType}
use denote.Param.Send.{IsSend, IsSync, sendable}
use Rattle.std.proofs.Crossing.{crosses}
use Rattle.atomic_table.proofs.shared.Seat.TheSendSync as seat
use Rattle.atomic_table.proofs.shared.Shared.TheSendSync as shared
use Rattle.atomic_table.proofs.send_lease.SendLease.TheSendSync as lease
use Rattle.turn_lock.specs.declared.grows.Grows.{Ghosts}
use Rattle.turn_lock.specs.contracts.pass.Pass as Pass
use Rattle.turn_lock.specs.contracts.lock.TurnLock as TurnLock

module _ (V E : RattleType) (g : Ghosts V.Denot E.Denot) where
  pub pass_send : IsSend V → IsSend (Pass.the_row V E g)
  pass_send s = search (sendable, seat.the_send) depth 20

  pub lock_send : IsSend V → IsSend (TurnLock.the_row V E g)
  lock_send s = search (sendable, crosses, shared.the_send, lease.the_send) depth 20

  pub lock_sync : IsSend V → IsSync (TurnLock.the_row V E g)
  lock_sync s = search (sendable, crosses, shared.the_sync, lease.the_sync) depth 20
