use Rattle.call_contract.specs.States.{start}
use Rattle.call_contract.proofs.SessionBooks.{live_told, queue_told, begun_told, ordinals_told, number_told, from_none}
use Rattle.call_contract.proofs.serial_laws.books_tell_of_sessions.Goals as goal

pub returns : goal.returns
returns g c = record {
  live = λ t n limit b run. live_told g.C.TreeCall.meaning (start t n limit) b run;
  queue = λ t n limit b run. queue_told g.C.TreeCall.meaning (start t n limit) b run;
  begun = λ t n limit b run. from_none _ _ (begun_told g.C.TreeCall.meaning (start t n limit) b run);
  ordinals = λ t n limit b s run. from_none _ _ (ordinals_told g.C.TreeCall.meaning (start t n limit) b s run);
  number = λ t n limit b run. number_told g.C.TreeCall.meaning (start t n limit) b run;
}
