use Rattle.call_contract.proofs.CallsOfCalls.{followed_laws}
use Rattle.call_contract.proofs.call_laws.requests_may_follow.Goals as goal

pub returns : goal.returns
returns g c = λ more formed. followed_laws g.C.TreeCall.is_valid g.C.TreeCall.meaning g.met.C.TreeCall.laws more formed
