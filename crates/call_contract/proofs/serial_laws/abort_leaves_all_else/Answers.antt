use Rattle.call_contract.proofs.BookLaws.{abort_leaves_all_else}
use Rattle.call_contract.proofs.serial_laws.abort_leaves_all_else.Goals as goal

pub returns : goal.returns
returns g c = λ st s a is. abort_leaves_all_else g.C.TreeCall.meaning st s a is
