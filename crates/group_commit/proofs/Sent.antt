-- A member goes to another thread, and threads share a group commit, where the calls, the base and the journal's disk may go to another thread.
use denote.RattleType.{RattleType}
use denote.Param.Send.{IsSend, IsSync, sendable}
use Rattle.std.proofs.Crossing.{crosses}
use Rattle.outside_traits.specs.declared.disk.Disk as disk
use Rattle.call_contract.specs.declared.tree_call.TreeCall as call
use Rattle.node_seq.specs.declared.node_read.NodeRead as base
use Rattle.journal.specs.contracts.journal.Journal as Journal
use Rattle.turn_lock.proofs.Sent.{pass_send, lock_sync}
use Rattle.shared_store.proofs.Sent.{session_send, store_sync}
use Rattle.group_commit.specs.contracts.group.GroupCommit as GroupCommit
use Rattle.group_commit.specs.contracts.member.Member as Member
use Rattle.group_commit.specs.contracts.scribe.Scribe as Scribe

module _ (J : RattleType) (h : disk.Ghosts J.Denot) where
  journal_send : IsSend J → IsSend (Journal.the_row J h)
  journal_send j = search (sendable, crosses) depth 20

module _ (C B J : RattleType) (f : call.Ghosts C.Denot) (g : base.Ghosts B.Denot) (h : disk.Ghosts J.Denot) where
  scribe_send : IsSend C → IsSend B → IsSend J → IsSend (Scribe.the_row C B J f g h)
  scribe_send c b j = search (sendable, crosses, session_send, journal_send) depth 20

  pub member_send : IsSend C → IsSend B → IsSend J → IsSend (Member.the_row C B J f g h)
  member_send c b j = search (sendable, session_send, pass_send, scribe_send) depth 20

  pub group_sync : IsSend C → IsSend B → IsSend J → IsSync (GroupCommit.the_row C B J f g h)
  group_sync c b j = search (sendable, store_sync, lock_sync, scribe_send) depth 20
