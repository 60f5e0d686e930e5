use Rattle.std.proofs.Common.{length}
use Rattle.xtc_tests.proofs.generator.script.Given as goal

-- the lines that are left
abbrev pub decreases-loop-line : goal.decreases-loop-line
decreases-loop-line l = length l.lines
