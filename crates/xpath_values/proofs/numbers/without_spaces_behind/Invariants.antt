use Rattle.std.proofs.Common.{◌≡◌, length, reverse}
use Rattle.path_model.specs.Numbers.{without_front}
use Rattle.xpath_values.proofs.numbers.without_spaces_behind.Given as goal

abbrev pub invariant-loop-rest : goal.invariant-loop-rest
invariant-loop-rest l = without_front (reverse l.rest) ≡ without_front (reverse l.bytes)

abbrev pub decreases-loop-rest : goal.decreases-loop-rest
decreases-loop-rest l = length l.rest
