use Rattle.std.proofs.Common.{◌≡◌, drop}
use Rattle.path_model.specs.Functions.{added_up, zero_number}
use Rattle.xpath_values.proofs.numbers.sum.Given as goal

-- the total so far, with the rest added up, is that of all
abbrev pub invariant-loop-text : goal.invariant-loop-text
invariant-loop-text l = added_up l.total (drop l.text-index l.texts) ≡ added_up zero_number l.texts
