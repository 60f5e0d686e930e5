use Rattle.std.proofs.Common.{slice_index_or, subst}
use denote.Param.Send.{sendable}
use Rattle.std.proofs.alloc.Global.TheSendSync as heap
use Rattle.command_lines.proofs.Sent.{command_sync}
use Rattle.worker_run.specs.inside.Working.{HasServed}
use Rattle.worker_run.proofs.Sent.{worker_send}
use Rattle.worker_run.proofs.run.run_all.Goals as goal

-- src/run.rt:47:5
pub for_each_mut-requires-send-T : goal.for_each_mut-requires-send-T
for_each_mut-requires-send-T g c κs within = let s = c.type_bounds.send-T in search (sendable, worker_send) depth 20

-- src/run.rt:47:5
pub for_each_mut-requires-sync-F : goal.for_each_mut-requires-sync-F
for_each_mut-requires-sync-F g c κs within = let r = c.type_bounds.sync-R in let t = c.type_bounds.sync-G in search (sendable, heap.the_sync, command_sync) depth 20

-- src/run.rt:31:1
pub returns-clause-each : goal.returns-clause-each
returns-clause-each g c = λ i d lt.
    let m = g.T.SessionPort.ports in
    let lines = c.args.lines.now in
    let at = (c.for_each_mut.ensures i d lt).1 in
    subst (λ x. HasServed m lines x.port (slice_index_or c.for_each_mut.new.s i d).port x.replies.items (slice_index_or c.for_each_mut.new.s i d).replies.items) at.argument_is
    (subst (λ y. HasServed m lines at.argument.now.port y.port at.argument.now.replies.items y.replies.items) at.left at.call)
