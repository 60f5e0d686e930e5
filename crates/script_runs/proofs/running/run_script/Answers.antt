use Rattle.std.proofs.Common.{rules, ◌≡◌, ◌≢◌, ◌+◌, ◌-◌, ap, ◌∙◌, subst, sym, Ok, Err}
use Rattle.outside_traits.specs.Faults.{FaultCounted}
use Rattle.script_runs.specs.Counts.{CountedWhere, DisksCountedWhere}
use Rattle.script_runs.specs.Lines.{line_limit}
use Rattle.script_runs.specs.inside.Feeding.{TakesFrom, went}
use Rattle.script_runs.specs.declared.feeding.Stop.{Stop}
use Rattle.script_runs.specs.declared.feeding.Stop.TheVariants as stop
use Rattle.script_runs.specs.declared.halt.Halt.TheVariants.{DiskFault}
use Rattle.script_runs.specs.declared.running.Input.TheVariants as input
use Rattle.script_runs.proofs.AnswerLaws.{as_stop, step_is_no_stop}
use Rattle.script_runs.proofs.EndLaws.{as_input, as_end, end_is_no_stop, run_ended, run_failed, run_halted, run_long, run_unwritten}
use Rattle.script_runs.proofs.InputLaws.{came}
use Rattle.script_runs.proofs.RunLaws.{run_done, run_end_stopped, run_read_fault, run_stopped, run_too_long, run_too_long_unwritten}
use Rattle.script_runs.proofs.running.run_script.Goals as goal

long_is_no_failed_write : as_input stop.LineTooLong ≡ Err stop.WriteFault → ⊥
long_is_no_failed_write it = cc

long_is_no_failed_disk : as_input stop.LineTooLong ≡ Err (stop.Halted DiskFault) → ⊥
long_is_no_failed_disk it = cc

end_is_no_failed_read : as_end input.Ended ≡ Ok input.Fault → ⊥
end_is_no_failed_read it = cc

stop_is_no_input : (e : Stop) → as_input e ≡ Ok input.Fault → ⊥
stop_is_no_input e it = cc

pub returns-in-Ok : goal.returns-in-Ok
returns-in-Ok g c =
    let m = g.M.LineMachine.machine in
    let asked = g.S.Source.asked c.take_all.new.source - g.S.Source.given c.args.source.now in
    let took = c.in-Ok-Ended.ensures in
    let so = took.takes in
    let f = c.in-Ok.ensures in
    let whole = took.ended (ap as_end c.in-Ok-Ended.field-0-is) in
    run_ended m g.S.Source.left g.S.Source.given g.S.Source.asked g.S.Source.faults g.K.Sink.held g.K.Sink.faults _ _ _ _ _ _
    (so.0, so.1, so.2, λ s stands. let p = so.3 s stands in run_done m line_limit s c.args.script.now c.requires.new _ so.0 asked c.take_all.new.script c.finish.new.self _ _ _ p (f.ends p.leaves.comes.0 p.leaves.comes.1) whole)
    took.bound
    whole
    (took.read.exact (λ it. end_is_no_failed_read (sym (ap as_end c.in-Ok-Ended.field-0-is) ∙ it)))
    (f.write.exact (step_is_no_stop _) ∙ took.write.exact (end_is_no_stop _ _))
    (f.disk.exact (step_is_no_stop _) ∙ took.disk.exact (end_is_no_stop _ _))
    f.ready

pub returns-in-Err-finish : goal.returns-in-Err-finish
returns-in-Err-finish g c =
    let m = g.M.LineMachine.machine in
    let asked = g.S.Source.asked c.take_all.new.source - g.S.Source.given c.args.source.now in
    let took = c.in-Ok-Ended.ensures in
    let so = took.takes in
    let f = c.in-Err-finish.ensures in
    let e = c.in-Err-finish.stop in
    let whole = took.ended (ap as_end c.in-Ok-Ended.field-0-is) in
    run_halted m g.S.Source.left g.S.Source.given g.S.Source.asked g.S.Source.faults g.K.Sink.held g.K.Sink.faults _ _ _ _ _ _ _ e c.end_of_stop.ensures
    (so.0, so.1, so.2, λ s stands. let p = so.3 s stands in run_end_stopped m line_limit s c.args.script.now c.requires.new _ so.0 asked c.take_all.new.script c.finish.new.self _ _ _ e (λ is. f.error (ap as_stop is)) p (f.ends p.leaves.comes.0 p.leaves.comes.1) whole)
    took.bound
    (took.read.exact (λ it. end_is_no_failed_read (sym (ap as_end c.in-Ok-Ended.field-0-is) ∙ it)))
    (subst (λ n. CountedWhere (as_stop e ≡ Err stop.WriteFault) n (g.K.Sink.faults c.finish.new.sink)) (took.write.exact (end_is_no_stop _ _)) f.write)
    (subst (λ n. DisksCountedWhere (as_stop e ≡ Err (stop.Halted DiskFault)) n (m.faults c.finish.new.self.machine)) (took.disk.exact (end_is_no_stop _ _)) f.disk)
    f.damaged

pub returns-in-Ok-Fault : goal.returns-in-Ok-Fault
returns-in-Ok-Fault g c =
    let m = g.M.LineMachine.machine in
    let asked = g.S.Source.asked c.take_all.new.source - g.S.Source.given c.args.source.now in
    let took = c.in-Ok-Fault.ensures in
    let so = took.takes in
    run_failed m g.S.Source.left g.S.Source.given g.S.Source.asked g.S.Source.faults g.K.Sink.held g.K.Sink.faults _ _ _ _ _ _
    (so.0, so.1, so.2, λ s stands. run_read_fault m line_limit s c.args.script.now c.requires.new _ so.0 asked c.take_all.new.script _ _ (so.3 s stands) took.written.0 took.written.1)
    took.bound
    (took.read.cause (ap as_end c.in-Ok-Fault.field-0-is))
    (took.write.exact (end_is_no_stop _ _))
    (took.disk.exact (end_is_no_stop _ _))

pub returns-in-Ok-flush : goal.returns-in-Ok-flush
returns-in-Ok-flush g c =
    let m = g.M.LineMachine.machine in
    let asked = g.S.Source.asked c.take_all.new.source - g.S.Source.given c.args.source.now in
    let took = c.in-Err-LineTooLong.ensures in
    let so = took.takes in
    let f = c.in-Ok-flush.ensures in
    run_long m g.S.Source.left g.S.Source.given g.S.Source.asked g.S.Source.faults g.K.Sink.held g.K.Sink.faults _ _ _ _ _ _ _ (
      so.0,
      so.1,
      so.2,
      λ s stands.
          let long = subst (λ (e : Stop). TakesFrom m line_limit s c.args.script.now c.take_all.new.script (g.K.Sink.held c.args.sink.now) (g.K.Sink.held c.take_all.new.sink) so.0 asked (Err e)) c.in-Err-LineTooLong.field-0-is (so.3 s stands) in
          run_too_long m line_limit s c.args.script.now c.requires.new _ so.0 asked c.take_all.new.script c.flush.new.self _ _ _ (c.lines.result + 1) long f.leaves f.machine f.empty (ap (λ k. k + 1) (c.lines.ensures ∙ f.lines)),
    )
    took.bound
    (took.read.exact (stop_is_no_input _))
    (f.write.exact (step_is_no_stop _) ∙ took.write.exact (λ it. long_is_no_failed_write (sym (ap as_input c.in-Err-LineTooLong.field-0-is) ∙ it)))
    (ap m.faults f.machine ∙ took.disk.exact (λ it. long_is_no_failed_disk (sym (ap as_input c.in-Err-LineTooLong.field-0-is) ∙ it)))

pub returns-in-Err-flush : goal.returns-in-Err-flush
returns-in-Err-flush g c =
    let m = g.M.LineMachine.machine in
    let asked = g.S.Source.asked c.take_all.new.source - g.S.Source.given c.args.source.now in
    let took = c.in-Err-LineTooLong.ensures in
    let so = took.takes in
    let f = c.in-Err-flush.ensures in
    run_unwritten m g.S.Source.left g.S.Source.given g.S.Source.asked g.S.Source.faults g.K.Sink.held g.K.Sink.faults _ _ _ _ _ _ (
      so.0,
      so.1,
      so.2,
      λ s stands.
          let long = subst (λ (e : Stop). TakesFrom m line_limit s c.args.script.now c.take_all.new.script (g.K.Sink.held c.args.sink.now) (g.K.Sink.held c.take_all.new.sink) so.0 asked (Err e)) c.in-Err-LineTooLong.field-0-is (so.3 s stands) in
          run_too_long_unwritten m line_limit s c.args.script.now c.requires.new _ so.0 asked c.take_all.new.script c.flush.new.self _ _ _ c.in-Err-flush.field-0 long f.leaves f.machine,
    )
    took.bound
    (took.read.exact (stop_is_no_input _))
    (subst (λ n. FaultCounted n (g.K.Sink.faults c.flush.new.sink)) (took.write.exact (λ it. long_is_no_failed_write (sym (ap as_input c.in-Err-LineTooLong.field-0-is) ∙ it))) (f.write.counted f.error))
    (ap m.faults f.machine ∙ took.disk.exact (λ it. long_is_no_failed_disk (sym (ap as_input c.in-Err-LineTooLong.field-0-is) ∙ it)))

pub returns-in-Err : goal.returns-in-Err
returns-in-Err g c =
    let m = g.M.LineMachine.machine in
    let asked = g.S.Source.asked c.take_all.new.source - g.S.Source.given c.args.source.now in
    let took = c.in-Err.ensures in
    let so = took.takes in
    let e = c.in-Err.stop in
    let apart : e ≢ stop.LineTooLong = search rules in
    run_halted m g.S.Source.left g.S.Source.given g.S.Source.asked g.S.Source.faults g.K.Sink.held g.K.Sink.faults _ _ _ _ _ _ _ e c.end_of_stop-in-Err.ensures
    (so.0, so.1, so.2, λ s stands. run_stopped m line_limit s c.args.script.now c.requires.new _ so.0 asked c.take_all.new.script _ _ e apart (so.3 s stands))
    took.bound
    (took.read.exact (stop_is_no_input _))
    (record { counted = λ it. took.write.counted (ap came it); exact = λ other. took.write.exact (λ it. other (ap went it)) })
    (record { counted = λ it. took.disk.counted (ap came it); exact = λ other. took.disk.exact (λ it. other (ap went it)) })
    (λ place it. took.damaged place (ap came it))
