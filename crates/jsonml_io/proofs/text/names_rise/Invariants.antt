use Rattle.std.proofs.Common.{◌≡◌, length}
use Rattle.jsonml_io.specs.inside.Tokens.{names_rise}
use Rattle.jsonml_io.proofs.text.names_rise.Given as goal

abbrev pub invariant-loop-rest : goal.invariant-loop-rest
invariant-loop-rest l = names_rise l.rest ≡ names_rise l.attrs

abbrev pub decreases-loop-rest : goal.decreases-loop-rest
decreases-loop-rest l = length l.rest
