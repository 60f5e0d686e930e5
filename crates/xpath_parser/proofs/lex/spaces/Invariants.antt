use Rattle.std.proofs.Common.{◌≡◌, ◌+◌, ◌-◌, ◌≤◌, length, drop}
use Rattle.std.specs.List.{prefix_len}
use Rattle.path_model.specs.Numbers.{is_space}
use Rattle.xpath_parser.proofs.lex.spaces.Given as goal

abbrev pub invariant-loop-end : goal.invariant-loop-end
invariant-loop-end l = (l.end + prefix_len is_space (drop l.end l.z) ≡ prefix_len is_space l.z) × (l.end ≤ length l.z)

abbrev pub decreases-loop-end : goal.decreases-loop-end
decreases-loop-end l = length l.z - l.end
