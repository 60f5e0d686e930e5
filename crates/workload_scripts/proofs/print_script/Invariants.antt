use Rattle.std.proofs.Common.{length}
use Rattle.workload_scripts.proofs.print_script.Given as goal

-- the lines that are left
abbrev pub decreases-loop-line : goal.decreases-loop-line
decreases-loop-line g l = length l.script
