use Rattle.call_contract.proofs.BookLaws.{sessions_rise}
use Rattle.call_contract.proofs.Rising.{holders_rise, rises_others}
use Rattle.call_contract.proofs.serial_laws.holders_rise.Goals as goal

pub returns : goal.returns
returns g c = λ t n limit b s q. holders_rise q _ (rises_others s _ (sessions_rise g.C.TreeCall.meaning t n limit b))
