use Rattle.call_contract.proofs.CallChanges.{reached_changes}
use Rattle.call_contract.proofs.serial_laws.commit_leaves_changes.Goals as goal

pub returns : goal.returns
returns g c = λ st is. reached_changes g.C.TreeCall.is_valid g.C.TreeCall.meaning g.met.C.TreeCall.laws st is
