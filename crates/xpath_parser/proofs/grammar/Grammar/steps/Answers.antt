use Rattle.std.proofs.Common.{rules, arith}
use Rattle.std.proofs.lemmas.Grind.{common_steps}
use Rattle.xpath_parser.specs.Grammar.{steps, steps_from, inside}
use Rattle.xpath_parser.proofs.Turns.{one_more, no_more}
use Rattle.xpath_parser.proofs.grammar.Grammar.steps.Goals as goal

pub loop-turn-init : goal.loop-turn-init
unfolding steps
loop-turn-init g c = first_of (search rules, grind (arith, common_steps))

pub returns-then-not-sees : goal.returns-then-not-sees
unfolding steps_from
returns-then-not-sees g c =
    let e = one_more (λ n. steps_from c.args.self.now.room (inside c.args.self.now.room) n c.loop-turn.found c.loop-turn.tokens) _ c.loop-turn._turn c.loop-turn-test.true c.loop-turn.invariant in
    first_of (search rules, grind (arith, common_steps))

pub returns-in_err-step : goal.returns-in_err-step
unfolding steps_from
returns-in_err-step g c =
    let e = one_more (λ n. steps_from c.args.self.now.room (inside c.args.self.now.room) n c.loop-turn.found c.loop-turn.tokens) _ c.loop-turn._turn c.loop-turn-test.true c.loop-turn.invariant in
    first_of (search rules, grind (arith, common_steps))

pub returns-in_err-step-2 : goal.returns-in_err-step-2
unfolding steps_from
returns-in_err-step-2 g c =
    let e = one_more (λ n. steps_from c.args.self.now.room (inside c.args.self.now.room) n c.loop-turn.found c.loop-turn.tokens) _ c.loop-turn._turn c.loop-turn-test.true c.loop-turn.invariant in
    first_of (search rules, grind (arith, common_steps))

pub loop-turn-preserved : goal.loop-turn-preserved
unfolding steps_from
loop-turn-preserved g c =
    let e = one_more (λ n. steps_from c.args.self.now.room (inside c.args.self.now.room) n c.loop-turn.found c.loop-turn.tokens) _ c.loop-turn._turn c.loop-turn-test.true c.loop-turn.invariant in
    first_of (search rules, grind (arith, common_steps))

pub returns : goal.returns
unfolding steps_from
returns g c =
    let e = no_more (λ n. steps_from c.args.self.now.room (inside c.args.self.now.room) n c.loop-turn.found c.loop-turn.tokens) _ c.loop-turn._turn c.loop-turn-test.false c.loop-turn.invariant in
    first_of (search rules, grind (arith, common_steps))

pub loop-turn-preserved-then-sees : goal.loop-turn-preserved-then-sees
unfolding steps_from
loop-turn-preserved-then-sees g c =
    let e = one_more (λ n. steps_from c.args.self.now.room (inside c.args.self.now.room) n c.loop-turn.found c.loop-turn.tokens) _ c.loop-turn._turn c.loop-turn-test.true c.loop-turn.invariant in
    first_of (search rules, grind (arith, common_steps))
