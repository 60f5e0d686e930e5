-- A core goes to another thread where its calls and its base may: one fact for each type that holds the one before.
use denote.RattleType.{RattleType}
use denote.Param.Send.{IsSend, sendable}
use Rattle.std.proofs.Crossing.{crosses}
use Rattle.std.proofs.MapsCrossing.{BTreeMap-send}
use Rattle.std.proofs.option.Option.TheSendSync as option
use Rattle.dewey_labels.proofs.label.Label.TheSendSync as label
use Rattle.dewey_labels.proofs.list.List.TheSendSync as list
use Rattle.dewey_labels.proofs.text.Text.TheSendSync as text
use Rattle.tree_model.proofs.fragment.Fragment.TheLaws.TheKnot as knot
use Rattle.tree_model.proofs.reply.Hit.TheSendSync as hit
use Rattle.tree_model.proofs.refusal.Refusal.TheSendSync as refusal
use Rattle.tree_model.specs.contracts.fragment.Fragment as Fragment
use Rattle.tree_model.specs.contracts.reply.Reply as Reply
use Rattle.lock_resources.proofs.resource.Resource.TheSendSync as resource
use Rattle.lock_table.proofs.table.LockTable.TheSendSync as table
use Rattle.wait_graph.proofs.graph.WaitGraph.TheSendSync as graph
use Rattle.overlays.proofs.layers.Layers.TheSendSync as layers
use Rattle.overlays.proofs.gaps.Gaps.TheSendSync as gaps
use Rattle.overlays.proofs.overlay.Overlay.TheSendSync as overlay
use Rattle.call_contract.specs.contracts.events.Answer as Answer
use Rattle.call_contract.specs.contracts.events.EventAnswer as EventAnswer
use Rattle.call_contract.specs.contracts.events.Noted as Noted
use Rattle.call_contract.proofs.events.Event.TheSendSync as event
use Rattle.call_contract.specs.declared.tree_call.TreeCall as call
use Rattle.node_seq.specs.declared.node_read.NodeRead as base
use Rattle.node_records.specs.contracts.pending.Pending as Pending
use Rattle.tx_core.specs.contracts.engine.Core as Core
use Rattle.tx_core.specs.contracts.parts.Parts as Parts
use Rattle.tx_core.specs.contracts.parts.Passed as Passed
use Rattle.tx_core.specs.contracts.parts.Place as Place
use Rattle.tx_core.specs.contracts.undrained.Bodies as Bodies

fragment_send : IsSend (Fragment.the_field).row
fragment_send = search (sendable, crosses, list.the_send, text.the_send, knot.send-Fragment) depth 20

fragment_row_send : IsSend Fragment.the_row
fragment_row_send = search (sendable, fragment_send) depth 20

reply_send : IsSend (Reply.the_field).row
reply_send = search (sendable, crosses, label.the_send, list.the_send, text.the_send, option.the_field_send, fragment_send, fragment_row_send, hit.the_send, refusal.the_field_send) depth 40

answer_send : IsSend (Answer.the_field).row
answer_send = search (sendable, list.the_send, resource.the_field_send, reply_send) depth 60

event_answer_send : IsSend (EventAnswer.the_field).row
event_answer_send = search (sendable, answer_send) depth 20

place_send : IsSend Place.the_row
place_send = search (sendable, option.the_field_send, overlay.the_send) depth 20

passed_send : IsSend Passed.the_row
passed_send = search (sendable, gaps.the_send) depth 20

pending_send : IsSend Pending.the_row
pending_send = search (sendable, list.the_send) depth 20

bodies_send : IsSend (Bodies.the_field).row
bodies_send = search (sendable, crosses, pending_send) depth 20

module _ (C : RattleType) where
  noted_send : IsSend C → IsSend (Noted.the_row C)
  noted_send c = search (sendable, event.the_field_send, event_answer_send) depth 20

module _ (C B : RattleType) where
  parts_send : IsSend C → IsSend B → IsSend (Parts.the_field C B).row
  parts_send c b = search (sendable, crosses, BTreeMap-send, layers.the_send, table.the_send, graph.the_send, option.the_field_send, place_send, passed_send, noted_send) depth 40

  module _ (f : call.Ghosts C.Denot) (g : base.Ghosts B.Denot) where
    pub core_send : IsSend C → IsSend B → IsSend (Core.the_row C B f g)
    core_send c b = search (sendable, crosses, parts_send, bodies_send) depth 20
