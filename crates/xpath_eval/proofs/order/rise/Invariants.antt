use Rattle.std.proofs.Common.{◌∷◌, drop}
use Rattle.path_model.specs.Sets.{Rises}
use Rattle.xpath_axes.specs.Positions.{plain, all_plain}
use Rattle.xpath_eval.proofs.order.rise.Given as goal

abbrev pub invariant-loop-position : goal.invariant-loop-position
invariant-loop-position l = Rises (plain l.last ∷ all_plain (drop l.position-index l.rest)) → Rises (all_plain l.positions)
