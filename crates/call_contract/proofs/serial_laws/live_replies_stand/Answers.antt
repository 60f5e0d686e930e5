use Rattle.call_contract.proofs.BookLaws.{reached_replies, reached_writes}
use Rattle.call_contract.proofs.serial_laws.live_replies_stand.Goals as goal

pub returns : goal.returns
returns g c = record {
  replies = λ st is. reached_replies g.C.TreeCall.is_valid g.C.TreeCall.meaning g.met.C.TreeCall.laws st is;
  writes = λ st is. reached_writes g.C.TreeCall.is_valid g.C.TreeCall.meaning g.met.C.TreeCall.laws st is;
}
