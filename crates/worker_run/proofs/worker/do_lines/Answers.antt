use Rattle.std.proofs.Common.{rules, ◌≡◌, ◌<◌, ◌==◌, true, false, length, vec_capacity, slice_index_or}
use Rattle.command_lines.specs.ValidCommands.{IsValidCommand}
use Rattle.worker_run.proofs.WorkLaws.{answered, failed, line_at, passed, room_answered, room_passed}
use Rattle.worker_run.proofs.worker.do_lines.Goals as goal
use Rattle.worker_run.proofs.worker.do_lines.Goals.{then-command-session+in-Ok, else-command-session}

-- src/worker.rt:32:27
pub returns-in-Err : goal.returns-in-Err
returns-in-Err g c =
    let lt : c.loop-command.command-index < length c.args.lines.now = search rules in
    let at : c.command-item.result ≡ slice_index_or c.args.lines.now c.loop-command.command-index c.command-item.result = search rules in
    let is : (c.command-item.result.session == (g.T.SessionPort.ports.told c.args.port.now).session) ≡ true = search rules in
    failed g.T.SessionPort.ports c.args.lines.now c.loop-command.command-index c.args.port.now c.loop-command.port c.line-answer.new.self
    c.args.replies.now.items c.loop-command.replies.items c.command-item.result c.in-Err.field-0 lt at is c.loop-command.invariant.0 c.in-Err.ensures

-- src/worker.rt:24:5
pub loop-command-preserved : goal.loop-command-preserved
loop-command-preserved g c =
    let lt : c.loop-command.command-index < length c.args.lines.now = search rules in
    let at : c.command-item.result ≡ slice_index_or c.args.lines.now c.loop-command.command-index c.command-item.result = search rules in
    let m = g.T.SessionPort.ports in
    let old = m.told c.args.port.now in
    elim c.if-command-session.branch [
      | then-command-session+in-Ok w ↦
          let is : (c.command-item.result.session == old.session) ≡ true = search rules in
          let next = answered m g.met.T.SessionPort.did_on c.args.lines.now c.loop-command.command-index c.args.port.now c.loop-command.port w.line-answer.new.self
          c.args.replies.now.items c.loop-command.replies.items c.command-item.result w.in-Ok.reply lt at is c.loop-command.invariant.0 w.in-Ok.ensures in
          let room = room_answered c.args.lines.now c.loop-command.command-index old.session c.loop-command.replies.items (vec_capacity c.loop-command.replies) (vec_capacity w.keep.new.items)
          c.command-item.result w.in-Ok.reply lt at is w.keep.ensures.room c.loop-command.invariant.1 in
          (rw (w.port-is, w.replies-is, w.keep.ensures.items) next, rw (w.replies-is, w.keep.ensures.items) room, c.loop-command.invariant.2)
      | else-command-session w ↦
          let is : (c.command-item.result.session == old.session) ≡ false = search rules in
          let next = passed m c.args.lines.now c.loop-command.command-index c.args.port.now c.loop-command.port c.args.replies.now.items c.loop-command.replies.items
          c.command-item.result lt at is c.loop-command.invariant.0 in
          let room = room_passed c.args.lines.now c.loop-command.command-index old.session c.loop-command.replies.items (vec_capacity c.loop-command.replies) c.command-item.result lt at is c.loop-command.invariant.1 in
          (rw (w.port-is, w.replies-is) next, rw w.replies-is room, c.loop-command.invariant.2)
    ]

pub line-answer-requires-clause-valid : goal.line-answer-requires-clause-valid
line-answer-requires-clause-valid g c =
    let lt : c.loop-command.command-index < length c.args.lines.now = search rules in
    let at : c.command-item.result ≡ slice_index_or c.args.lines.now c.loop-command.command-index c.command-item.result = search rules in
    line_at IsValidCommand c.args.lines.now c.loop-command.command-index c.command-item.result lt at c.requires.valid
