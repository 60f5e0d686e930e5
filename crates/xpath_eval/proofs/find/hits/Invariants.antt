use Rattle.std.proofs.Common.{◌≡◌, map, take}
use Rattle.path_model.specs.Finds.{hit_of}
use Rattle.xpath_axes.specs.Positions.{all_plain}
use Rattle.xpath_eval.proofs.find.hits.Given as goal

abbrev pub invariant-loop-position : goal.invariant-loop-position
invariant-loop-position l = l.hits ≡ map hit_of (all_plain (take l.position-index l.positions))
