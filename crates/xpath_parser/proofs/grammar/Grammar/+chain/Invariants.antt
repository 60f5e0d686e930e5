use Rattle.std.proofs.Common.{◌≡◌, ◌-◌}
use Rattle.xpath_parser.specs.Grammar.{chain, links_from, inside}
use Rattle.xpath_parser.proofs.grammar.Grammar.+chain.Given as goal

abbrev pub decreases-chain : goal.decreases-chain
decreases-chain g l = l.level

abbrev pub invariant-loop-turn : goal.invariant-loop-turn
invariant-loop-turn g l =
    chain l.self.room (inside l.self.room) l.level l.fn.tokens
    ≡ links_from (chain l.self.room (inside l.self.room) (l.level - 1)) l.level (l._turn-end - l._turn) l.operands l.operators l.last l.tokens
