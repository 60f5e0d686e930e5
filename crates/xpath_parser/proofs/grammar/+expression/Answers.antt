use Rattle.std.proofs.Common.{ap}
use Rattle.xpath_parser.proofs.Levels.{expression_is}
use Rattle.xpath_parser.proofs.Rules.{read_as}
use Rattle.xpath_parser.proofs.grammar.+expression.Goals as goal

pub returns : goal.returns
returns t c = read_as c.expression_of.result c.expression_of.new.tokens (ap (λ p. p c.args.tokens.now) (expression_is c.args.room c.args.level)) c.expression_of.ensures
