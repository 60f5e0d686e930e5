use Rattle.call_contract.proofs.BookLaws.{reached_waiters}
use Rattle.call_contract.proofs.serial_laws.waiting_calls_stand.Goals as goal

pub returns : goal.returns
returns g c = λ st is. reached_waiters g.C.TreeCall.is_valid g.C.TreeCall.meaning g.met.C.TreeCall.laws st is
