use Rattle.std.proofs.Common.{rules, arith}
use Rattle.std.proofs.lemmas.Grind.{common_steps}
use Rattle.xpath_parser.specs.Grammar.{predicates, predicates_from, inside}
use Rattle.xpath_parser.proofs.Turns.{one_more, no_more}
use Rattle.xpath_parser.proofs.grammar.Grammar.predicates.Goals as goal

pub loop-turn-init : goal.loop-turn-init
unfolding predicates
loop-turn-init g c = first_of (search rules, grind (arith, common_steps))

pub returns-then-not-sees : goal.returns-then-not-sees
unfolding predicates_from
returns-then-not-sees g c =
    let e = one_more (λ n. predicates_from c.args.self.now.room (inside c.args.self.now.room) n c.loop-turn.found c.loop-turn.tokens) _ c.loop-turn._turn c.loop-turn-test.true c.loop-turn.invariant in
    first_of (search rules, grind (arith, common_steps))

pub returns-in_err-open_part : goal.returns-in_err-open_part
unfolding predicates_from
returns-in_err-open_part g c =
    let e = one_more (λ n. predicates_from c.args.self.now.room (inside c.args.self.now.room) n c.loop-turn.found c.loop-turn.tokens) _ c.loop-turn._turn c.loop-turn-test.true c.loop-turn.invariant in
    first_of (search rules, grind (arith, common_steps))

pub returns-in_err-test : goal.returns-in_err-test
unfolding predicates_from
returns-in_err-test g c =
    let e = one_more (λ n. predicates_from c.args.self.now.room (inside c.args.self.now.room) n c.loop-turn.found c.loop-turn.tokens) _ c.loop-turn._turn c.loop-turn-test.true c.loop-turn.invariant in
    first_of (search rules, grind (arith, common_steps))

pub returns-in_err-close : goal.returns-in_err-close
unfolding predicates_from
returns-in_err-close g c =
    let e = one_more (λ n. predicates_from c.args.self.now.room (inside c.args.self.now.room) n c.loop-turn.found c.loop-turn.tokens) _ c.loop-turn._turn c.loop-turn-test.true c.loop-turn.invariant in
    first_of (search rules, grind (arith, common_steps))

pub loop-turn-preserved : goal.loop-turn-preserved
unfolding predicates_from
loop-turn-preserved g c =
    let e = one_more (λ n. predicates_from c.args.self.now.room (inside c.args.self.now.room) n c.loop-turn.found c.loop-turn.tokens) _ c.loop-turn._turn c.loop-turn-test.true c.loop-turn.invariant in
    first_of (search rules, grind (arith, common_steps))

pub returns : goal.returns
unfolding predicates_from
returns g c =
    let e = no_more (λ n. predicates_from c.args.self.now.room (inside c.args.self.now.room) n c.loop-turn.found c.loop-turn.tokens) _ c.loop-turn._turn c.loop-turn-test.false c.loop-turn.invariant in
    first_of (search rules, grind (arith, common_steps))
