use Rattle.std.proofs.Common.{◌∙◌}
use Rattle.xpath_parser.specs.Grammar.{step_along}
use Rattle.xpath_parser.proofs.Rules.{goes_on}
use Rattle.xpath_parser.proofs.grammar.Grammar.step_along.Goals as goal

pub returns : goal.returns
unfolding step_along
returns g c = goes_on _ _ _ c.in_ok-test.ensures ∙ goes_on _ _ _ c.in_ok-tests.ensures
