use Rattle.script_runs.specs.Lines.{line_limit}
use Rattle.script_runs.proofs.LogLaws.{leaves_none}
use Rattle.script_runs.proofs.feeding.Script.flush_if_due.Goals as goal

pub returns-clause-leaves : goal.returns-clause-leaves
returns-clause-leaves g c = λ s stands. leaves_none g.M.LineMachine.machine line_limit s c.args.self.now (g.K.Sink.held c.args.sink.now) stands
