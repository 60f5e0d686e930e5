use Rattle.std.proofs.Common.{◌≡◌, ◌+◌, ◌-◌, ◌≤◌, List, ℕ, length}
use Rattle.std.specs.Prelude.{Ok}
use Rattle.outside_traits.specs.Bytes.{Gave}
use Rattle.script_runs.specs.Lines.{line_limit}
use Rattle.outside_kinds.specs.Bounds.{input_limit}
use Rattle.script_runs.specs.inside.Feeding.{TakesFrom}
use Rattle.script_runs.proofs.running.take_pieces.Given as goal

abbrev pub invariant-loop-source : goal.invariant-loop-source
invariant-loop-source g l = record {
  so_far : (read : List ℕ) × Gave (g.S.Source.left l.fn.source.inner.now) (g.S.Source.left l.source.inner.now) read × (g.S.Source.given l.source.inner.now ≡ g.S.Source.given l.fn.source.inner.now + length read)
      × ((s : g.M.LineMachine.machine.State) → g.M.LineMachine.machine.stands l.fn.script.machine s
      → TakesFrom g.M.LineMachine.machine line_limit s l.fn.script l.script (g.K.Sink.held l.fn.sink) (g.K.Sink.held l.sink) read (g.S.Source.asked l.source.inner.now - g.S.Source.given l.fn.source.inner.now) (Ok tt));
  ready : g.M.LineMachine.machine.usable l.script.machine;
  same_reference : l.source.inner.ghost_name ≡ l.fn.source.inner.ghost_name;
  used : g.S.Source.given l.source.inner.now + l.source.room ≡ g.S.Source.given l.fn.source.inner.now + input_limit;
  lines : l.script.lines + l.source.room ≤ input_limit;
  no_read_fault : g.S.Source.faults l.source.inner.now ≡ g.S.Source.faults l.fn.source.inner.now;
  no_write_fault : g.K.Sink.faults l.sink ≡ g.K.Sink.faults l.fn.sink;
  no_disk_fault : g.M.LineMachine.machine.faults l.script.machine ≡ g.M.LineMachine.machine.faults l.fn.script.machine;
}

abbrev pub decreases-loop-source : goal.decreases-loop-source
decreases-loop-source g l = l.source.room
