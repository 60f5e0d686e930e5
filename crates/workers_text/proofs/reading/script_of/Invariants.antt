use Rattle.std.proofs.Common.{◌≡◌, ◌+◌, ◌≤◌, ◌++◌, length}
use Rattle.script_runs.specs.Lines.{lines_of}
use Rattle.workers_text.specs.Entries.{entries_from, entries_of}
use Rattle.workers_text.proofs.reading.script_of.Given as goal

-- the lines so far are those that the script has, and the others are still to come
abbrev pub invariant-loop-place : goal.invariant-loop-place
invariant-loop-place l = record {
  so_far : l.script.entries ++ entries_from l.lines (lines_of l.rest) ≡ entries_of l.bytes;
  count : l.lines + length l.rest ≤ length l.bytes;
}

abbrev pub decreases-loop-place : goal.decreases-loop-place
decreases-loop-place l = length l.rest
