use Rattle.std.proofs.Common.{rules, arith, sym}
use Rattle.std.proofs.lemmas.Grind.{common_steps}
use Rattle.xpath_parser.specs.Grammar.{inside}
use Rattle.xpath_parser.proofs.Rules.{known_call}
use Rattle.xpath_parser.proofs.grammar.Grammar.call.Goals as goal

pub returns-in_err-open_part : goal.returns-in_err-open_part
returns-in_err-open_part g c =
    let e = known_call c.args.self.now.room (inside c.args.self.now.room) c.args.name.now c.in-Some.function c.args.tokens.now (sym c.in-Some.ensures) in
    first_of (search rules, grind (arith, common_steps))

pub returns-in_err-operands : goal.returns-in_err-operands
returns-in_err-operands g c =
    let e = known_call c.args.self.now.room (inside c.args.self.now.room) c.args.name.now c.in-Some.function c.args.tokens.now (sym c.in-Some.ensures) in
    first_of (search rules, grind (arith, common_steps))

pub returns : goal.returns
returns g c =
    let e = known_call c.args.self.now.room (inside c.args.self.now.room) c.args.name.now c.in-Some.function c.args.tokens.now (sym c.in-Some.ensures) in
    first_of (search rules, grind (arith, common_steps))
