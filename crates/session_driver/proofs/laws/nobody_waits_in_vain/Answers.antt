use Rattle.session_driver.proofs.Waiters.{nobody_waits_in_vain}
use Rattle.session_driver.proofs.laws.nobody_waits_in_vain.Goals as goal

pub returns : goal.returns
returns g c = λ t n limit lines. nobody_waits_in_vain g.C.TreeCall.meaning t n limit lines
