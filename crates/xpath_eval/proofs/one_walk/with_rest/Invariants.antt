use Rattle.std.proofs.Common.{◌≡◌, ◌∷◌, take}
use Rattle.xpath_eval.proofs.one_walk.with_rest.Given as goal

abbrev pub invariant-loop-step : goal.invariant-loop-step
invariant-loop-step l = l.steps ≡ l.fn.first ∷ take l.step-index l.rest
