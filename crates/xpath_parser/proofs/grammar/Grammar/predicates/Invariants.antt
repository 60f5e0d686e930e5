use Rattle.std.proofs.Common.{◌≡◌, ◌-◌}
use Rattle.xpath_parser.specs.Grammar.{predicates, predicates_from, inside}
use Rattle.xpath_parser.proofs.grammar.Grammar.predicates.Given as goal

abbrev pub invariant-loop-turn : goal.invariant-loop-turn
invariant-loop-turn g l =
    predicates l.self.room (inside l.self.room) l.fn.tokens
    ≡ predicates_from l.self.room (inside l.self.room) (l._turn-end - l._turn) l.found l.tokens
