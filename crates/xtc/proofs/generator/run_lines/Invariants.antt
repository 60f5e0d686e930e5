use Rattle.std.proofs.Common.{◌≡◌, IsTrue, false, length}
use Rattle.xtc.specs.Checkpoints.{is_positive}
use Rattle.xtc.specs.StoreMachine.{file_in}
use Rattle.xtc.specs.inside.Counting.{GoesOn, HasRun}
use Rattle.xtc.specs.inside.Renewing.{FromState, counts_in, kept}
use Rattle.xtc.proofs.generator.run_lines.Given as goal

-- the first lines are done and counted, the next one may be asked, and no disk has failed
abbrev pub invariant-loop-line : goal.invariant-loop-line
invariant-loop-line g l = record {
  run : FromState g.J.Disk.is_known g.P.Disk.is_known g.P.Disk.history (kept l.fn.core l.fn.journal l.fn.checkpoints)
      (λ s. HasRun g.P.Disk.is_known g.P.Disk.history s l.fn.script l.script (kept l.fn.core l.fn.journal l.fn.checkpoints) (kept l.core l.journal l.checkpoints) l.fn.summary l.summary);
  goes_on : GoesOn g.P.Disk.is_known g.P.Disk.history (kept l.fn.core l.fn.journal l.fn.checkpoints) (kept l.core l.journal l.checkpoints);
  still : IsTrue g.P.Disk.is_known → is_positive l.fn.checkpoints.every ≡ false
      → file_in g.P.Disk.history (kept l.core l.journal l.checkpoints) ≡ file_in g.P.Disk.history (kept l.fn.core l.fn.journal l.fn.checkpoints);
  no_fault : counts_in g.P.Disk.faults (kept l.core l.journal l.checkpoints) ≡ counts_in g.P.Disk.faults (kept l.fn.core l.fn.journal l.fn.checkpoints);
}

abbrev pub decreases-loop-line : goal.decreases-loop-line
decreases-loop-line g l = length l.script
