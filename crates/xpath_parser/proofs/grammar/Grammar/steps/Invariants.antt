use Rattle.std.proofs.Common.{◌≡◌, ◌-◌}
use Rattle.xpath_parser.specs.Grammar.{steps, steps_from, inside}
use Rattle.xpath_parser.proofs.grammar.Grammar.steps.Given as goal

abbrev pub invariant-loop-turn : goal.invariant-loop-turn
invariant-loop-turn g l =
    steps l.self.room (inside l.self.room) l.fn.found l.fn.tokens
    ≡ steps_from l.self.room (inside l.self.room) (l._turn-end - l._turn) l.found l.tokens
