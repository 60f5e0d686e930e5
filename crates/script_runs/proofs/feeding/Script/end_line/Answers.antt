use Rattle.std.proofs.Common.{rules, ◌≡◌, [], ◌∷◌, sym, subst, Err}
use Rattle.script_runs.specs.inside.Feeding.{LeavesFrom}
use Rattle.script_runs.specs.Lines.{line_limit}
use Rattle.script_runs.specs.declared.feeding.Stop.TheVariants.{Halted}
use Rattle.script_runs.proofs.LogLaws.{leaves_halted, does_line}
use Rattle.script_runs.specs.inside.Feeding.{with_state}
use Rattle.script_runs.proofs.feeding.Script.end_line.Goals as goal

pub returns-in_err-do_line-clause-leaves : goal.returns-in_err-do_line-clause-leaves
returns-in_err-do_line-clause-leaves g c = λ held s stands.
    let m = g.M.LineMachine.machine in
    let stop : c.from_residual.result ≡ Err (Halted c.in_err-do_line.field-0.0) = search rules in
    subst (LeavesFrom m line_limit s c.args.self.now c.do_line.new.self held held (10 ∷ [])) (sym stop)
    (leaves_halted m line_limit s c.args.self.now c.do_line.new.self held c.in_err-do_line.field-0.0 c.do_line.ensures.fixed (c.do_line.ensures.any_moment s stands))

pub returns-clause-leaves : goal.returns-clause-leaves
returns-clause-leaves g c = λ held s stands.
    let m = g.M.LineMachine.machine in
    let fed = c.in_ok-do_line.ensures.fed held s stands in
    record {
      comes = fed;
      does = does_line m line_limit (with_state m c.args.self.now s) held c.args.self.now.machine c.do_line.new.self c.args.self.now.unended (fed.2.short.0) c.in_ok-do_line.ensures.valid fed.2.lines c.do_line.ensures.fixed (c.in_ok-do_line.ensures.settled s stands) (c.do_line.ensures.any_moment s stands);
    }
