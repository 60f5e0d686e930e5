use Rattle.call_contract.specs.CallsOfCalls.{AreValid}
use Rattle.call_contract.proofs.CallsOfCalls.{in_turn_laws}
use Rattle.call_contract.proofs.call_laws.two_calls_may_ask_in_turn.Goals as goal

pub returns : goal.returns
returns g c = λ p told.
    in_turn_laws (AreValid g.C.TreeCall.is_valid g.D.TreeCall.is_valid p g.C.TreeCall.meaning) g.C.TreeCall.is_valid g.D.TreeCall.is_valid g.C.TreeCall.meaning g.D.TreeCall.meaning p
    g.met.C.TreeCall.laws g.met.D.TreeCall.laws (λ a valid. valid) told
