use Rattle.std.proofs.Common.{◌≡◌, drop, map}
use Rattle.path_model.specs.PlainPaths.{plain, plain_step}
use Rattle.xpath_eval.proofs.sameness.+sameness.Given as goal

abbrev pub invariant-are_same-loop-index : goal.invariant-are_same-loop-index
invariant-are_same-loop-index l = map plain (drop l.index l.ones) ≡ map plain (drop l.index l.others) → map plain l.ones ≡ map plain l.others

abbrev pub invariant-are_same_steps-loop-index : goal.invariant-are_same_steps-loop-index
invariant-are_same_steps-loop-index l = map plain_step (drop l.index l.ones) ≡ map plain_step (drop l.index l.others) → map plain_step l.ones ≡ map plain_step l.others
