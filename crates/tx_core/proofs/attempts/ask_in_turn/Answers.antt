use Rattle.std.proofs.Common.{refl}
use Rattle.tx_core.proofs.Reached.{reaches, stands_untouched, got_within, got_inside}
use Rattle.tx_core.proofs.attempts.ask_in_turn.Goals as goal

pub returns-clause-got : goal.returns-clause-got
returns-clause-got g c =
    reaches g.C.TreeCall.is_valid g.C.TreeCall.meaning g.B.NodeRead.contents c.args.parts.now _ c.args.session c.args.requests.now c.ask_all.result c.ask_all.ensures
    (record { base = refl; layers = refl; opened = refl; limit = refl; number = refl }) refl refl refl refl

pub returns-clause-within : goal.returns-clause-within
returns-clause-within g c = got_within c.args.parts.now.table c.args.session c.args.requests.now c.ask_all.new.table c.ask_all.result c.ask_all.ensures

pub returns-clause-untouched : goal.returns-clause-untouched
returns-clause-untouched g c = λ none.
    stands_untouched g.C.TreeCall.is_valid g.C.TreeCall.meaning g.B.NodeRead.contents c.args.parts.now _ c.args.session c.args.requests.now c.ask_all.result c.ask_all.ensures none
    (record { base = refl; layers = refl; opened = refl; limit = refl; number = refl }) refl refl refl refl

pub returns-clause-inside : goal.returns-clause-inside
returns-clause-inside g c = got_inside c.args.parts.now.table c.args.session c.args.requests.now c.ask_all.new.table c.ask_all.result c.ask_all.ensures
