use Rattle.std.proofs.Common.{sym}
use Rattle.worker_run.proofs.WorkLaws.{served_lines, served_nothing}
use Rattle.worker_run.proofs.worker.work.Goals as goal

-- src/worker.rt:60:1
pub returns-in-Some : goal.returns-in-Some
returns-in-Some g c = served_nothing g.T.SessionPort.ports c.args.lines.now c.args.worker.now.port c.end.new.self c.args.worker.now.replies.items c.in-Some.field-0 (sym c.in-Some.ensures) c.end.ensures

-- src/worker.rt:60:1
pub returns-in-None : goal.returns-in-None
returns-in-None g c = served_lines g.T.SessionPort.ports c.args.lines.now c.args.worker.now.port c.do_lines.new.port c.end-in-None.new.self
    c.args.worker.now.replies.items c.do_lines.new.replies.items (sym c.in-None.ensures) c.do_lines.ensures c.end-in-None.ensures
