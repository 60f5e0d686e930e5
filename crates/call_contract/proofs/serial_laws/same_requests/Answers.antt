use Rattle.call_contract.proofs.Replay.{same_requests}
use Rattle.call_contract.proofs.serial_laws.same_requests.Goals as goal

pub returns : goal.returns
returns g c = λ c valid t u one other agree. same_requests g.C.TreeCall.is_valid g.C.TreeCall.meaning g.met.C.TreeCall.laws c t u valid one other agree
