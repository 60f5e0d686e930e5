use Rattle.std.specs.Prelude.{[]}
use Rattle.call_contract.proofs.CallChanges.{calls_lead, one_more, reached_lead}
use Rattle.call_contract.proofs.serial_laws.changes_lead_to_what_is_seen.Goals as goal

pub returns : goal.returns
returns g c = record {
  calls = λ cs t is valid. calls_lead g.C.TreeCall.is_valid g.C.TreeCall.meaning g.met.C.TreeCall.laws cs t is valid;
  one_more = λ cs a t. one_more g.C.TreeCall.meaning cs a t [];
  live = λ st is. reached_lead g.C.TreeCall.is_valid g.C.TreeCall.meaning g.met.C.TreeCall.laws st is;
}
