use Rattle.std.proofs.Common.{◌∙◌, ap, sym}
use Rattle.xpath_parser.specs.Grammar.{step, step_by, inside}
use Rattle.xpath_parser.proofs.Otherwise.{other_step}
use Rattle.xpath_parser.proofs.Rules.{read_as}
use Rattle.xpath_parser.proofs.grammar.Grammar.step.Goals as goal

pub returns-in_default : goal.returns-in_default
unfolding step
returns-in_default g c =
    let room = c.args.self.now.room in
    let i = c.args.tokens.now in
    let as_seen = ap (λ kind. step_by room (inside room) c.args.call kind i) (sym c.peek.ensures) in
    let otherwise = ap (λ p. p i) (other_step room (inside room) c.args.call c.peek.result c.in_default.not-Dot c.in_default.not-DoubleDot c.in_default.not-At c.in_default.not-Name) in
    read_as c.step_along-in_default.result c.step_along-in_default.new.tokens (as_seen ∙ otherwise) c.step_along-in_default.ensures
