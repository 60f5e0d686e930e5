use Rattle.std.proofs.Common.{◌≡◌, ◌-◌}
use Rattle.xpath_parser.specs.Grammar.{some_arguments, arguments_from, inside}
use Rattle.xpath_parser.proofs.grammar.Grammar.some_arguments.Given as goal

abbrev pub invariant-loop-turn : goal.invariant-loop-turn
invariant-loop-turn g l =
    some_arguments l.self.room (inside l.self.room) l.function l.fn.tokens
    ≡ arguments_from l.self.room (inside l.self.room) l.function (l._turn-end - l._turn) l.found l.tokens
