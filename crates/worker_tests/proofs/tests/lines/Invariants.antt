use Rattle.std.specs.List.{AllByRecursion}
use Rattle.command_lines.specs.ValidCommands.{IsValidCommand}
use Rattle.worker_tests.proofs.tests.lines.Given as goal

abbrev pub invariant-loop-session : goal.invariant-loop-session
invariant-loop-session l = AllByRecursion IsValidCommand l.lines
