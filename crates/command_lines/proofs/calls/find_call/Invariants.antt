use Rattle.std.proofs.Common.{◌≡◌, map, drop}
use Rattle.command_lines.specs.Calls.{find_call}
use Rattle.command_lines.proofs.calls.find_call.Given as goal

-- the rows left have what all have
abbrev pub invariant-loop-word : goal.invariant-loop-word
invariant-loop-word l =
    find_call l.name (map (λ row. (row.0.now, row.1)) l.rows) ≡ find_call l.name (map (λ row. (row.0.now, row.1)) (drop l.word-index l.rows))
