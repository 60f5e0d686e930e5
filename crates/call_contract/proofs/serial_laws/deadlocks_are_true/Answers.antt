use Rattle.call_contract.proofs.BookLaws.{deadlock_shown, no_cycle}
use Rattle.call_contract.proofs.serial_laws.deadlocks_are_true.Goals as goal

pub returns : goal.returns
returns g c = record {
  shown = λ t n limit b e cycle same is. deadlock_shown g.C.TreeCall.meaning t n limit b e cycle is same;
  no_cycle = λ t n limit b. no_cycle g.C.TreeCall.meaning t n limit b;
}
