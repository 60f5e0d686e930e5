use Rattle.std.proofs.Common.{rules, arith, ◌∙◌, ap, sym}
use Rattle.std.proofs.lemmas.Grind.{common_steps}
use Rattle.xpath_parser.specs.Grammar.{operand, operand_by, inside}
use Rattle.xpath_parser.proofs.Otherwise.{other_operand}
use Rattle.xpath_parser.proofs.Rules.{read_as, goes_on}
use Rattle.xpath_parser.proofs.grammar.Grammar.operand.Goals as goal

pub returns-in-Open : goal.returns-in-Open
unfolding operand
returns-in-Open g c =
    let room = c.args.self.now.room in
    let i = c.args.tokens.now in
    let as_seen = ap (λ kind. operand_by room (inside room) kind i) (sym c.peek.ensures ∙ c.in-Open.is) in
    read_as c.parenthesized.result c.parenthesized.new.tokens as_seen c.parenthesized.ensures

pub returns-in_err-path-in_default : goal.returns-in_err-path-in_default
unfolding operand
returns-in_err-path-in_default g c =
    let room = c.args.self.now.room in
    let i = c.args.tokens.now in
    let as_seen = ap (λ kind. operand_by room (inside room) kind i) (sym c.peek.ensures) in
    let otherwise = ap (λ p. p i) (other_operand room (inside room) c.peek.result c.in_default.not-Number c.in_default.not-Literal c.in_default.not-Open c.in_default.not-Name c.in_default.not-Fraction c.in_default.not-Variable) in
    let e = as_seen ∙ otherwise in
    first_of (search rules, grind (arith, common_steps))

pub returns-in_ok-path-in_default : goal.returns-in_ok-path-in_default
unfolding operand
returns-in_ok-path-in_default g c =
    let room = c.args.self.now.room in
    let i = c.args.tokens.now in
    let as_seen = ap (λ kind. operand_by room (inside room) kind i) (sym c.peek.ensures) in
    let otherwise = ap (λ p. p i) (other_operand room (inside room) c.peek.result c.in_default.not-Number c.in_default.not-Literal c.in_default.not-Open c.in_default.not-Name c.in_default.not-Fraction c.in_default.not-Variable) in
    let e = as_seen ∙ otherwise in
    e ∙ goes_on _ _ _ c.in_ok-path-in_default.ensures
