use Rattle.call_contract.proofs.BookLaws.{reached_commits, reached_apart}
use Rattle.call_contract.proofs.serial_laws.commit_replays_others.Goals as goal

pub returns : goal.returns
returns g c = record {
  replayed = λ st is. reached_commits g.C.TreeCall.is_valid g.C.TreeCall.meaning g.met.C.TreeCall.laws st is;
  apart = λ st is. reached_apart g.C.TreeCall.is_valid g.C.TreeCall.meaning g.met.C.TreeCall.laws st is;
}
