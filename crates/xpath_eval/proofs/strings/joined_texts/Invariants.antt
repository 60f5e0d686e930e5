use Rattle.std.proofs.Common.{◌≡◌, ◌++◌, drop, string_bytes}
use Rattle.path_model.specs.Meaning.{joined_texts}
use Rattle.xpath_axes.specs.Positions.{all_plain}
use Rattle.xpath_eval.proofs.strings.joined_texts.Given as goal

abbrev pub invariant-loop-position : goal.invariant-loop-position
invariant-loop-position l = string_bytes l.joined ++ joined_texts (all_plain (drop l.position-index l.positions)) ≡ joined_texts (all_plain l.positions)
