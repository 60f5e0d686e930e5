use Rattle.session_driver.proofs.Runs.{lines_run, lines_state}
use Rattle.session_driver.proofs.laws.lines_run_the_machine.Goals as goal

pub returns : goal.returns
returns g c = record {
  run = λ st lines. lines_run g.C.TreeCall.meaning st lines;
  state = λ st lines. lines_state g.C.TreeCall.meaning st lines;
}
