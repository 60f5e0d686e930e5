use Rattle.std.proofs.Common.{◌≡◌, drop}
use Rattle.xpath_eval.proofs.sameness.are_same_operators.Given as goal

abbrev pub invariant-loop-index : goal.invariant-loop-index
invariant-loop-index l = drop l.index l.ones ≡ drop l.index l.others → l.ones ≡ l.others
