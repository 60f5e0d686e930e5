use Rattle.std.proofs.Common.{refl, ap₂, ℕ, nat_lt}
use Rattle.tx_core.proofs.AskedAgain.{are_asked}
use Rattle.tx_core.proofs.Reached.{reaches, got_within}
use Rattle.tx_core.proofs.retries.ask_again.Goals as goal

pub returns-clause-got : goal.returns-clause-got
returns-clause-got g c =
    reaches g.C.TreeCall.is_valid g.C.TreeCall.meaning g.B.NodeRead.contents c.args.parts.now _ c.args.session c.args.requests.now c.ask_all-got.result c.ask_all-got.ensures
    (record { base = refl; layers = refl; opened = refl; limit = refl; number = refl }) refl refl refl refl

pub returns-clause-asked : goal.returns-clause-asked
returns-clause-asked g c =
    are_asked g.C.TreeCall.is_valid g.C.TreeCall.meaning g.B.NodeRead.contents c.args.parts.now _ c.args.session c.args.requests.now c.ask_all-got.result _
    (got_within c.args.parts.now.table c.args.session c.args.requests.now c.ask_all-got.new.table c.ask_all-got.result c.ask_all-got.ensures)
    (ap₂ (λ (x y : ℕ). nat_lt x y) c.count_held-held.ensures c.granted_of.ensures)
    c.ask_all-got.ensures
    (record { base = refl; layers = refl; opened = refl; limit = refl; number = refl }) refl refl refl refl
