use Rattle.std.proofs.Common.{rules, ◌≡◌, [], ◌∷◌, ◌++◌, sym, subst, Ok, Err}
use Rattle.script_runs.specs.Lines.{line_limit}
use Rattle.script_runs.specs.inside.Feeding.{LeavesFrom}
use Rattle.script_runs.proofs.LogLaws.{leaves_on, flushed_on, leaves_more}
use Rattle.script_runs.proofs.feeding.Script.take_line.Goals as goal

pub returns-in_err-extend-clause-leaves : goal.returns-in_err-extend-clause-leaves
returns-in_err-extend-clause-leaves g c = λ s stands.
    let m = g.M.LineMachine.machine in
    let h = g.K.Sink.held c.args.sink.now in
    let stop : c.from_residual.result ≡ Err c.in_err-extend.field-0.0 = search rules in
    subst (LeavesFrom m line_limit s c.args.self.now c.extend.new.self h h (c.args.line.now ++ 10 ∷ [])) (sym stop)
    (leaves_more m line_limit s c.args.self.now c.extend.new.self h h c.args.line.now (10 ∷ []) c.in_err-extend.field-0.0 (c.in_err-extend.ensures.leaves h s stands))

pub returns-in_err-end_line-clause-leaves : goal.returns-in_err-end_line-clause-leaves
returns-in_err-end_line-clause-leaves g c = λ s stands.
    let m = g.M.LineMachine.machine in
    let h = g.K.Sink.held c.args.sink.now in
    let stop : c.from_residual-in_err-end_line.result ≡ Err c.in_err-end_line.field-0.0 = search rules in
    subst (LeavesFrom m line_limit s c.args.self.now c.end_line.new.self h h (c.args.line.now ++ 10 ∷ [])) (sym stop)
    (leaves_on m line_limit s c.args.self.now c.extend.new.self c.end_line.new.self h h h c.args.line.now (10 ∷ []) (Err c.in_err-end_line.field-0.0) (c.in_ok-extend.ensures.leaves h s stands) (c.in_err-end_line.ensures.leaves h))

pub returns-in_err-flush_if_due-clause-leaves : goal.returns-in_err-flush_if_due-clause-leaves
returns-in_err-flush_if_due-clause-leaves g c = λ s stands.
    let m = g.M.LineMachine.machine in
    let h = g.K.Sink.held c.args.sink.now in
    let e = c.in_err-flush_if_due.field-0.0 in
    let stop : c.from_residual-in_err-flush_if_due.result ≡ Err e = search rules in
    let ended = leaves_on m line_limit s c.args.self.now c.extend.new.self c.end_line.new.self h h h c.args.line.now (10 ∷ []) (Ok tt) (c.in_ok-extend.ensures.leaves h s stands) (c.in_ok-end_line.ensures.leaves h) in
    subst (LeavesFrom m line_limit s c.args.self.now c.flush_if_due.new.self h _ (c.args.line.now ++ 10 ∷ [])) (sym stop)
    (flushed_on m line_limit s c.args.self.now c.end_line.new.self c.flush_if_due.new.self h h _ (c.args.line.now ++ 10 ∷ []) (Err e) ended c.in_err-flush_if_due.ensures.leaves)

pub returns-clause-leaves : goal.returns-clause-leaves
returns-clause-leaves g c = λ s stands.
    let m = g.M.LineMachine.machine in
    let h = g.K.Sink.held c.args.sink.now in
    let i = g.K.Sink.held c.flush_if_due.new.sink in
    let ended = leaves_on m line_limit s c.args.self.now c.extend.new.self c.end_line.new.self h h h c.args.line.now (10 ∷ []) (Ok tt) (c.in_ok-extend.ensures.leaves h s stands) (c.in_ok-end_line.ensures.leaves h) in
    let written = flushed_on m line_limit s c.args.self.now c.end_line.new.self c.flush_if_due.new.self h h i (c.args.line.now ++ 10 ∷ []) (Ok tt) ended c.in_ok-flush_if_due.ensures.leaves in
    flushed_on m line_limit s c.args.self.now c.flush_if_due.new.self c.rest.new.self h i i (c.args.line.now ++ 10 ∷ []) c.rest.result written (c.rest.ensures.leaves i)
