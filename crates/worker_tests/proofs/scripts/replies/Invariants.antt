use Rattle.std.proofs.Common.{◌≡◌, length}
use Rattle.worker_tests.proofs.scripts.replies.Given as goal

abbrev pub invariant-loop-command : goal.invariant-loop-command
invariant-loop-command l = length l.replies.items ≡ l.command-index
