use Rattle.call_contract.proofs.CallsOfCalls.{replaced_laws}
use Rattle.call_contract.proofs.call_laws.requests_may_be_replaced.Goals as goal

pub returns : goal.returns
returns g c = λ f is. replaced_laws g.C.TreeCall.is_valid g.C.TreeCall.meaning g.met.C.TreeCall.laws f is
