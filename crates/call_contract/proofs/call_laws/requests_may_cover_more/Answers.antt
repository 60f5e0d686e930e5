use Rattle.call_contract.proofs.CallsOfCalls.{asking_laws}
use Rattle.call_contract.proofs.call_laws.requests_may_cover_more.Goals as goal

pub returns : goal.returns
returns g c = λ asks askable covers. asking_laws g.C.TreeCall.is_valid g.C.TreeCall.meaning g.met.C.TreeCall.laws asks askable covers
