use Rattle.std.proofs.Common.{rules, arith}
use Rattle.std.proofs.lemmas.Grind.{common_steps}
use Rattle.xpath_parser.specs.Grammar.{some_arguments, arguments_from, inside}
use Rattle.xpath_parser.proofs.Turns.{one_more, no_more}
use Rattle.xpath_parser.proofs.grammar.Grammar.some_arguments.Goals as goal

pub loop-turn-init : goal.loop-turn-init
unfolding some_arguments
loop-turn-init g c = first_of (search rules, grind (arith, common_steps))

pub returns-then-sees : goal.returns-then-sees
unfolding arguments_from
returns-then-sees g c =
    let e = one_more (λ n. arguments_from c.args.self.now.room (inside c.args.self.now.room) c.args.function n c.loop-turn.found c.loop-turn.tokens) _ c.loop-turn._turn c.loop-turn-test.true c.loop-turn.invariant in
    first_of (search rules, grind (arith, common_steps))

pub returns-then-len-function : goal.returns-then-len-function
unfolding arguments_from
returns-then-len-function g c =
    let e = one_more (λ n. arguments_from c.args.self.now.room (inside c.args.self.now.room) c.args.function n c.loop-turn.found c.loop-turn.tokens) _ c.loop-turn._turn c.loop-turn-test.true c.loop-turn.invariant in
    first_of (search rules, grind (arith, common_steps))

pub returns-in_err-argument : goal.returns-in_err-argument
unfolding arguments_from
returns-in_err-argument g c =
    let e = one_more (λ n. arguments_from c.args.self.now.room (inside c.args.self.now.room) c.args.function n c.loop-turn.found c.loop-turn.tokens) _ c.loop-turn._turn c.loop-turn-test.true c.loop-turn.invariant in
    first_of (search rules, grind (arith, common_steps))

pub loop-turn-preserved : goal.loop-turn-preserved
unfolding arguments_from
loop-turn-preserved g c =
    let e = one_more (λ n. arguments_from c.args.self.now.room (inside c.args.self.now.room) c.args.function n c.loop-turn.found c.loop-turn.tokens) _ c.loop-turn._turn c.loop-turn-test.true c.loop-turn.invariant in
    first_of (search rules, grind (arith, common_steps))

pub returns : goal.returns
unfolding arguments_from
returns g c =
    let e = no_more (λ n. arguments_from c.args.self.now.room (inside c.args.self.now.room) c.args.function n c.loop-turn.found c.loop-turn.tokens) _ c.loop-turn._turn c.loop-turn-test.false c.loop-turn.invariant in
    first_of (search rules, grind (arith, common_steps))
