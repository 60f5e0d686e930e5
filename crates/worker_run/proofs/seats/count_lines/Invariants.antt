use Rattle.std.proofs.Common.{◌≡◌, ◌≤◌, length, take}
use Rattle.worker_run.specs.Workers.{own_lines}
use Rattle.worker_run.proofs.seats.count_lines.Given as goal

abbrev pub invariant-loop-command : goal.invariant-loop-command
invariant-loop-command l = (l.count ≡ length (own_lines l.fn.session (take l.command-index l.fn.lines))) × (l.count ≤ l.command-index)
