-- A worker goes to another thread where its port may: one fact for each type that holds the one before.
use denote.RattleType.{RattleType}
use denote.Param.Send.{IsSend, sendable}
use Rattle.std.proofs.Crossing.{crosses}
use Rattle.std.proofs.option.Option.TheSendSync as option
use Rattle.dewey_labels.proofs.label.Label.TheSendSync as label
use Rattle.dewey_labels.proofs.list.List.TheSendSync as list
use Rattle.dewey_labels.proofs.text.Text.TheSendSync as text
use Rattle.lock_resources.proofs.resource.Resource.TheSendSync as resource
use Rattle.tree_model.proofs.fragment.Fragment.TheLaws.TheKnot as knot
use Rattle.tree_model.proofs.reply.Hit.TheSendSync as hit
use Rattle.tree_model.proofs.refusal.Refusal.TheSendSync as refusal
use Rattle.tree_model.specs.contracts.fragment.Fragment as Fragment
use Rattle.tree_model.specs.contracts.reply.Reply as Reply
use Rattle.command_lines.specs.contracts.line_reply.LineAnswer as LineAnswer
use Rattle.command_lines.specs.contracts.line_reply.LineReply as LineReply
use Rattle.worker_run.specs.contracts.worker.Worker as Worker

fragment_send : IsSend (Fragment.the_field).row
fragment_send = search (sendable, crosses, list.the_send, text.the_send, knot.send-Fragment) depth 20

fragment_row_send : IsSend Fragment.the_row
fragment_row_send = search (sendable, fragment_send) depth 20

reply_send : IsSend (Reply.the_field).row
reply_send = search (sendable, crosses, label.the_send, list.the_send, text.the_send, option.the_field_send, fragment_send, fragment_row_send, hit.the_send, refusal.the_field_send) depth 40

line_answer_send : IsSend (LineAnswer.the_field).row
line_answer_send = search (sendable, list.the_send, resource.the_field_send, reply_send) depth 60

line_reply_send : IsSend (LineReply.the_field).row
line_reply_send = search (sendable, list.the_send, text.the_send, line_answer_send) depth 60

module _ (T : RattleType) where
  pub worker_send : IsSend T → IsSend (Worker.the_row T)
  worker_send s = search (sendable, crosses, line_reply_send) depth 20
