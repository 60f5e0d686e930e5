use Rattle.std.proofs.Common.{rules, arith, Ok, ◌-◌, ◌∙◌, ap, sym}
use Rattle.std.proofs.lemmas.Grind.{common_steps}
use Rattle.xpath_parser.specs.Grammar.{chain, links_from, inside}
use Rattle.xpath_parser.proofs.Turns.{one_more, no_more}
use Rattle.xpath_parser.proofs.Rules.{read_as, chain_ends, chain_goes_on, more_links, last_link, no_turns, missing}
use Rattle.xpath_parser.proofs.grammar.Grammar.+chain.Goals as goal

pub returns-then-level-eq0 : goal.returns-then-level-eq0
returns-then-level-eq0 g t c =
    let room = c.args.self.now.room in
    read_as c.unary.result c.unary.new.tokens (chain_ends room (inside room) c.args.level c.args.tokens.now (omega arith)) c.unary.ensures

pub returns-in_err-last : goal.returns-in_err-last
returns-in_err-last g t c =
    let room = c.args.self.now.room in
    let e = chain_goes_on room (inside room) c.args.level c.args.tokens.now (omega arith) in
    first_of (search rules, grind (arith, common_steps))

pub loop-turn-init : goal.loop-turn-init
loop-turn-init g t c =
    let room = c.args.self.now.room in
    let e = chain_goes_on room (inside room) c.args.level c.args.tokens.now (omega arith) in
    first_of (search rules, grind (arith, common_steps))

pub returns-in_default : goal.returns-in_default
returns-in_default g t c =
    let room = c.args.self.now.room in
    let e = one_more (λ n. links_from (chain room (inside room) (c.args.level - 1)) c.args.level n c.loop-turn.operands c.loop-turn.operators c.loop-turn.last c.loop-turn.tokens) _ c.loop-turn._turn c.loop-turn-test.true c.loop-turn.invariant in
    let none = sym c.operator.ensures ∙ missing c.operator.result c.in_default.not-Some in
    let ended = e ∙ last_link (chain room (inside room) (c.args.level - 1)) c.args.level _ c.loop-turn.operands c.loop-turn.operators c.loop-turn.last c.loop-turn.tokens none in
    ended ∙ ap (λ x. Ok (x, c.loop-turn.tokens)) (sym c.in_ok-chain_of.ensures)

pub returns-in_err-next : goal.returns-in_err-next
returns-in_err-next g t c =
    let room = c.args.self.now.room in
    let e = one_more (λ n. links_from (chain room (inside room) (c.args.level - 1)) c.args.level n c.loop-turn.operands c.loop-turn.operators c.loop-turn.last c.loop-turn.tokens) _ c.loop-turn._turn c.loop-turn-test.true c.loop-turn.invariant in
    let more = e ∙ more_links (chain room (inside room) (c.args.level - 1)) c.args.level _ c.loop-turn.operands c.loop-turn.operators c.loop-turn.last c.loop-turn.tokens c.in-Some.op (sym c.in-Some.ensures) in
    first_of (search rules, grind (arith, common_steps))

pub loop-turn-preserved : goal.loop-turn-preserved
loop-turn-preserved g t c =
    let room = c.args.self.now.room in
    let e = one_more (λ n. links_from (chain room (inside room) (c.args.level - 1)) c.args.level n c.loop-turn.operands c.loop-turn.operators c.loop-turn.last c.loop-turn.tokens) _ c.loop-turn._turn c.loop-turn-test.true c.loop-turn.invariant in
    let more = e ∙ more_links (chain room (inside room) (c.args.level - 1)) c.args.level _ c.loop-turn.operands c.loop-turn.operators c.loop-turn.last c.loop-turn.tokens c.in-Some.op (sym c.in-Some.ensures) in
    first_of (search rules, grind (arith, common_steps))

pub returns : goal.returns
returns g t c =
    let room = c.args.self.now.room in
    let e = no_more (λ n. links_from (chain room (inside room) (c.args.level - 1)) c.args.level n c.loop-turn.operands c.loop-turn.operators c.loop-turn.last c.loop-turn.tokens) _ c.loop-turn._turn c.loop-turn-test.false c.loop-turn.invariant in
    let ended = e ∙ no_turns (chain room (inside room) (c.args.level - 1)) c.args.level c.loop-turn.operands c.loop-turn.operators c.loop-turn.last c.loop-turn.tokens in
    ended ∙ ap (λ x. Ok (x, c.loop-turn.tokens)) (sym c.in_ok-chain_of-2.ensures)
