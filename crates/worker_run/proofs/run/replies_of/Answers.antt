use Rattle.std.proofs.Common.{◌≡◌, sym, subst, List, Ok, None}
use Rattle.command_lines.specs.declared.line_reply.LineReply.{LineReply}
use Rattle.worker_run.specs.Workers.{first_fault}
use Rattle.worker_run.specs.inside.Merging.{AllServed, ports_in}
use Rattle.worker_run.specs.inside.Running.{RunLeaves}
use Rattle.worker_run.specs.inside.Working.{HasServed}
use Rattle.worker_run.proofs.RunLaws.{all_full, all_replied, all_worked, at_each_place, one_seat}
use Rattle.worker_run.proofs.run.replies_of.Goals as goal

-- src/run.rt:87:13
pub merge-requires-clause-full : goal.merge-requires-clause-full
merge-requires-clause-full g c =
    let m = g.T.SessionPort.ports in
    let ws = c.args.workers.now in
    let vs = c.run_all.new.workers in
    let served : AllServed m c.args.lines.now ws vs =
    at_each_place (λ v w. HasServed m c.args.lines.now v.port w.port v.replies.items w.replies.items) ws vs c.run_all.ensures.len c.run_all.ensures.each in
    all_full m c.args.lines.now ws vs c.requires.ready served (sym c.in-None.ensures)

-- src/run.rt:87:13
pub merge-requires-clause-one_seat : goal.merge-requires-clause-one_seat
merge-requires-clause-one_seat g c =
    let m = g.T.SessionPort.ports in
    let ws = c.args.workers.now in
    let vs = c.run_all.new.workers in
    let served : AllServed m c.args.lines.now ws vs =
    at_each_place (λ v w. HasServed m c.args.lines.now v.port w.port v.replies.items w.replies.items) ws vs c.run_all.ensures.len c.run_all.ensures.each in
    one_seat m c.args.lines.now ws vs served c.requires.one_port

-- src/run.rt:69:1
pub returns-in-Some : goal.returns-in-Some
returns-in-Some g c =
    let m = g.T.SessionPort.ports in
    let ws = c.args.workers.now in
    let vs = c.run_all.new.workers in
    let served : AllServed m c.args.lines.now ws vs =
    at_each_place (λ v w. HasServed m c.args.lines.now v.port w.port v.replies.items w.replies.items) ws vs c.run_all.ensures.len c.run_all.ensures.each in
    record { worked = all_worked m c.args.lines.now ws vs served; gives = sym c.in-Some.ensures }

-- src/run.rt:69:1
pub returns-in-None : goal.returns-in-None
returns-in-None g c =
    let m = g.T.SessionPort.ports in
    let lines = c.args.lines.now in
    let ws = c.args.workers.now in
    let vs = c.run_all.new.workers in
    let served : AllServed m lines ws vs =
    at_each_place (λ v w. HasServed m lines v.port w.port v.replies.items w.replies.items) ws vs c.run_all.ensures.len c.run_all.ensures.each in
    let none : first_fault m (ports_in vs) ≡ None = sym c.in-None.ensures in
    let leaves : RunLeaves m lines (ports_in ws) (ports_in vs) (Ok c.merge.new.out.items) = record {
      worked = all_worked m lines ws vs served;
      gives = (c.merge.ensures.all, all_replied m lines ws vs c.merge.new.out.items c.requires.ready served none c.merge.ensures.merged c.merge.ensures.all, none);
    } in
    subst (λ ps. RunLeaves m lines (ports_in ws) ps (Ok c.from_vec.result)) (sym c.merge.ensures.ports)
    (subst (λ (rs : List LineReply). RunLeaves m lines (ports_in ws) (ports_in vs) (Ok rs)) (sym c.from_vec.ensures) leaves)
