use Rattle.std.proofs.Common.{rules, ◌≡◌, true, false, eqb, List, ℕ, [], ◌∷◌, length, refl, sym, ap, ◌∙◌, subst, Err}
use Rattle.std.specs.Prelude.{Result, Ok, OnOk}
use Rattle.script_runs.specs.Counts.{DisksCountedWhere}
use Rattle.script_runs.specs.declared.feeding.Stop.{Stop}
use Rattle.script_runs.specs.declared.feeding.Stop.TheVariants.{Halted}
use Rattle.script_runs.specs.declared.halt.Halt.TheVariants.{DiskFault}
use Rattle.script_runs.specs.Lines.{ended, last_line, line_limit}
use Rattle.script_runs.specs.inside.Feeding.{EndsFrom}
use Rattle.script_runs.proofs.AnswerLaws.{stopped_at, step_is_no_stop, unwritten_no_disk, unwritten_not_long}
use Rattle.script_runs.proofs.FeedingLaws.{ended_at_end, ended_at_once, empty_is, empty_is_not}
use Rattle.script_runs.proofs.LogLaws.{flushed_on, ends_as}
use Rattle.script_runs.proofs.feeding.Script.finish.Goals as goal

-- what holds anyhow holds where a step went on
on_ok : (r : Result (Unit {0}) Stop) (P : Type 0) → P → OnOk r P
on_ok (Ok done) P p = p
on_ok (Err e) P p = tt

none_came : (line now : List ℕ) → line ≡ now → eqb (length line) 0 ≡ true → now ≡ []
none_came line now same test = sym same ∙ empty_is line test

one_ends : (line now : List ℕ) → line ≡ now → eqb (length line) 0 ≡ false → ended now (10 ∷ []) ≡ last_line now
one_ends line now same test = ended_at_end now (λ e. empty_is_not line test (same ∙ e))

pub returns-then-is_empty-clause-ends : goal.returns-then-is_empty-clause-ends
returns-then-is_empty-clause-ends g c = λ s stands.
    let m = g.M.LineMachine.machine in
    let empty = none_came c.self.inside.unended.items c.args.self.now.unended (ap (λ k. k.unended) c.self.view_is) (search rules) in
    ends_as m line_limit s c.args.self.now c.flush.new.self _ _ [] c.flush.result (ended_at_once _ empty) (c.flush.ensures.leaves s stands) c.flush.ensures.empty

pub returns-in_err-end_line-clause-ends : goal.returns-in_err-end_line-clause-ends
returns-in_err-end_line-clause-ends g c = λ s stands.
    let m = g.M.LineMachine.machine in
    let h = g.K.Sink.held c.args.sink.now in
    let stop = stopped_at c.from_residual.result c.in_err-end_line.field-0.0 c.from_residual.ensures.1 in
    let lines = one_ends c.self.inside.unended.items c.args.self.now.unended (ap (λ k. k.unended) c.self.view_is) (search rules) in
    subst (EndsFrom m line_limit s c.args.self.now c.end_line.new.self h h) (sym stop)
    (ends_as m line_limit s c.args.self.now c.end_line.new.self h h (10 ∷ []) (Err c.in_err-end_line.field-0.0) lines (c.in_err-end_line.ensures.leaves h s stands) tt)

pub returns-in_err-flush-clause-ends : goal.returns-in_err-flush-clause-ends
returns-in_err-flush-clause-ends g c = λ s stands.
    let m = g.M.LineMachine.machine in
    let h = g.K.Sink.held c.args.sink.now in
    let e = c.in_err-flush.field-0.0 in
    let stop = stopped_at c.from_residual-in_err-flush.result e c.from_residual-in_err-flush.ensures.1 in
    let lines = one_ends c.self.inside.unended.items c.args.self.now.unended (ap (λ k. k.unended) c.self.view_is) (search rules) in
    subst (EndsFrom m line_limit s c.args.self.now c.flush-2.new.self h _) (sym stop)
    (ends_as m line_limit s c.args.self.now c.flush-2.new.self h _ (10 ∷ []) (Err e) lines
    (flushed_on m line_limit s c.args.self.now c.end_line.new.self c.flush-2.new.self h h _ (10 ∷ []) (Err e) (c.in_ok-end_line.ensures.leaves h s stands) c.in_err-flush.ensures.leaves) tt)

pub returns-clause-ends : goal.returns-clause-ends
returns-clause-ends g c = λ s stands.
    let m = g.M.LineMachine.machine in
    let h = g.K.Sink.held c.args.sink.now in
    let i = g.K.Sink.held c.flush-2.new.sink in
    let lines = one_ends c.self.inside.unended.items c.args.self.now.unended (ap (λ k. k.unended) c.self.view_is) (search rules) in
    let written = flushed_on m line_limit s c.args.self.now c.end_line.new.self c.flush-2.new.self h h i (10 ∷ []) (Ok tt) (c.in_ok-end_line.ensures.leaves h s stands) c.in_ok-flush.ensures.leaves in
    let empty : OnOk c.rest.result (c.rest.new.self.pending ≡ []) = on_ok c.rest.result _ (c.rest.ensures.pending ∙ c.in_ok-flush.ensures.empty) in
    ends_as m line_limit s c.args.self.now c.rest.new.self h i (10 ∷ []) c.rest.result lines
    (flushed_on m line_limit s c.args.self.now c.flush-2.new.self c.rest.new.self h i i (10 ∷ []) c.rest.result written (c.rest.ensures.leaves i)) empty

-- ---- the counts of faults

pub returns-then-is_empty-clause-write : goal.returns-then-is_empty-clause-write
returns-then-is_empty-clause-write g c = c.flush.ensures.write

pub returns-then-is_empty-clause-disk : goal.returns-then-is_empty-clause-disk
returns-then-is_empty-clause-disk g c = record {
  counted = λ it. absurd (unwritten_no_disk c.flush.result c.flush.ensures.error it);
  exact = λ other. ap g.M.LineMachine.machine.faults c.flush.ensures.machine;
}

pub returns-then-is_empty-clause-error : goal.returns-then-is_empty-clause-error
returns-then-is_empty-clause-error g c = unwritten_not_long c.flush.result c.flush.ensures.error

pub returns-in_err-end_line-clause-write : goal.returns-in_err-end_line-clause-write
returns-in_err-end_line-clause-write g c =
    let stop = stopped_at c.from_residual.result c.in_err-end_line.field-0.0 c.from_residual.ensures.1 in
    record { counted = λ it. absurd (c.in_err-end_line.ensures.cause.0 (sym stop ∙ it)); exact = λ other. refl }

pub returns-in_err-end_line-clause-disk : goal.returns-in_err-end_line-clause-disk
returns-in_err-end_line-clause-disk g c =
    let stop = stopped_at c.from_residual.result c.in_err-end_line.field-0.0 c.from_residual.ensures.1 in
    record { counted = λ it. c.in_err-end_line.ensures.disk.counted (sym stop ∙ it); exact = λ other. c.in_err-end_line.ensures.disk.exact (λ it. other (stop ∙ it)) }

pub returns-in_err-end_line-clause-error : goal.returns-in_err-end_line-clause-error
returns-in_err-end_line-clause-error g c = λ it. c.in_err-end_line.ensures.cause.1 (sym (stopped_at c.from_residual.result c.in_err-end_line.field-0.0 c.from_residual.ensures.1) ∙ it)

pub returns-in_err-flush-clause-write : goal.returns-in_err-flush-clause-write
returns-in_err-flush-clause-write g c =
    let stop = stopped_at c.from_residual-in_err-flush.result c.in_err-flush.field-0.0 c.from_residual-in_err-flush.ensures.1 in
    record { counted = λ it. c.in_err-flush.ensures.write.counted (sym stop ∙ it); exact = λ other. c.in_err-flush.ensures.write.exact (λ it. other (stop ∙ it)) }

pub returns-in_err-flush-clause-disk : goal.returns-in_err-flush-clause-disk
returns-in_err-flush-clause-disk g c =
    let stop = stopped_at c.from_residual-in_err-flush.result c.in_err-flush.field-0.0 c.from_residual-in_err-flush.ensures.1 in
    record {
      counted = λ it. absurd (unwritten_no_disk _ c.in_err-flush.ensures.error (sym stop ∙ it));
      exact = λ other. ap g.M.LineMachine.machine.faults c.in_err-flush.ensures.machine ∙ c.in_ok-end_line.ensures.disk.exact (step_is_no_stop _);
    }

pub returns-in_err-flush-clause-error : goal.returns-in_err-flush-clause-error
returns-in_err-flush-clause-error g c = λ it. unwritten_not_long _ c.in_err-flush.ensures.error (sym (stopped_at c.from_residual-in_err-flush.result c.in_err-flush.field-0.0 c.from_residual-in_err-flush.ensures.1) ∙ it)

pub returns-clause-write : goal.returns-clause-write
returns-clause-write g c = record { counted = λ it. absurd (c.rest.ensures.cause.0 it); exact = λ other. c.in_ok-flush.ensures.write.exact (step_is_no_stop _) }

pub returns-clause-disk : goal.returns-clause-disk
returns-clause-disk g c =
    let m = g.M.LineMachine.machine in
    subst (λ n. DisksCountedWhere (c.rest.result ≡ Err (Halted DiskFault)) n (m.faults c.rest.new.self.machine)) (ap m.faults c.in_ok-flush.ensures.machine ∙ c.in_ok-end_line.ensures.disk.exact (step_is_no_stop _)) c.rest.ensures.disk

pub returns-clause-error : goal.returns-clause-error
returns-clause-error g c = c.rest.ensures.cause.1
