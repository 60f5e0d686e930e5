use Rattle.std.proofs.Common.{◌≡◌, ◌+◌, ◌≤◌, ◌++◌, List, ℕ, length, Ok}
use Rattle.script_runs.specs.inside.Feeding.{LeavesFrom}
use Rattle.script_runs.specs.Lines.{line_limit}
use Rattle.script_runs.proofs.feeding.Script.feed.Given as goal

abbrev pub invariant-loop-place : goal.invariant-loop-place
invariant-loop-place g l = record {
  so_far : (done : List ℕ)
      × (l.piece ≡ done ++ l.rest)
      × ((s : g.M.LineMachine.machine.State) → g.M.LineMachine.machine.stands l.fn.self.machine s → LeavesFrom g.M.LineMachine.machine line_limit s l.fn.self l.self (g.K.Sink.held l.fn.sink) (g.K.Sink.held l.sink) done (Ok tt));
  ready : g.M.LineMachine.machine.usable l.self.machine;
  room : l.self.lines + length l.rest ≤ l.fn.self.lines + length l.piece;
  no_write_fault : g.K.Sink.faults l.sink ≡ g.K.Sink.faults l.fn.sink;
  no_disk_fault : g.M.LineMachine.machine.faults l.self.machine ≡ g.M.LineMachine.machine.faults l.fn.self.machine;
}

abbrev pub decreases-loop-place : goal.decreases-loop-place
decreases-loop-place g l = length l.rest
