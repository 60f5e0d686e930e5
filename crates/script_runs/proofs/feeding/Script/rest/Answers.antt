use Rattle.std.proofs.Common.{rules, ◌≡◌, [], ap, refl, subst, sym, Ok, Err}
use Rattle.script_runs.specs.inside.Feeding.{LeavesFrom, Script}
use Rattle.script_runs.specs.Lines.{line_limit}
use Rattle.script_runs.specs.declared.feeding.Stop.TheVariants.{Halted}
use Rattle.script_runs.proofs.LogLaws.{leaves_rest, leaves_unrested}
use Rattle.script_runs.proofs.feeding.Script.rest.Goals as goal

pub returns-in_err-rest-clause-leaves : goal.returns-in_err-rest-clause-leaves
returns-in_err-rest-clause-leaves g c = λ held s stands.
    let m = g.M.LineMachine.machine in
    let h = c.in_err-rest.field-0.0 in
    let stop : c.from_residual.result ≡ Err (Halted h) = search rules in
    let now : m.stands c.self.inside.machine s = subst (λ k. m.stands k s) (sym (ap (λ k. k.machine) c.self.view_is)) stands in
    let old : Script g.row.M.Denot = record { machine = c.self.inside.machine; lines = c.self.inside.lines; unended = c.self.inside.unended.items; pending = c.self.inside.pending.items } in
    let new : Script g.row.M.Denot = record { machine = c.rest.new.self; lines = c.self.inside.lines; unended = c.self.inside.unended.items; pending = c.self.inside.pending.items } in
    subst (LeavesFrom m line_limit s c.args.self.now new held held []) (sym stop)
    (subst (λ k. LeavesFrom m line_limit s k new held held [] (Err (Halted h))) c.self.view_is
    (leaves_unrested m line_limit s old new held h c.rest.ensures.fixed (c.rest.ensures.any_moment s now)))

pub returns-clause-leaves : goal.returns-clause-leaves
returns-clause-leaves g c = λ held s stands.
    let m = g.M.LineMachine.machine in
    let now : m.stands c.self.inside.machine s = subst (λ k. m.stands k s) (sym (ap (λ k. k.machine) c.self.view_is)) stands in
    let old : Script g.row.M.Denot = record { machine = c.self.inside.machine; lines = c.self.inside.lines; unended = c.self.inside.unended.items; pending = c.self.inside.pending.items } in
    let new : Script g.row.M.Denot = record { machine = c.rest.new.self; lines = c.self.inside.lines; unended = c.self.inside.unended.items; pending = c.self.inside.pending.items } in
    subst (λ k. LeavesFrom m line_limit s k new held held [] (Ok tt)) c.self.view_is
    (leaves_rest m line_limit s old new held (c.in_ok-rest.ensures.state s now) refl refl refl c.rest.ensures.fixed (c.in_ok-rest.ensures.settled s now) (c.rest.ensures.any_moment s now))
