-- The laws as the contract of calls states them.
use Rattle.tree_model.specs.declared.dom_call.DomCall.{DomCall}
use Rattle.tree_model.proofs.Refusals.{dom_refused}
use Rattle.tree_changes.specs.ValidCalls.{IsValidCall}
use Rattle.tree_changes.proofs.DomLaws.{dom_keeps}
use Rattle.call_contract.specs.Calls.{CallLaws}
use Rattle.dom_laws.specs.Meaning.{dom_meaning}
use Rattle.dom_laws.proofs.Meets.{requests_formed, replies_same, written_same, rest_kept, next_same_request}

pub dom_laws : CallLaws DomCall IsValidCall dom_meaning
dom_laws = record {
  form = requests_formed;
  same_reply = replies_same;
  same_written = written_same;
  keeps_rest = rest_kept;
  same_next = next_same_request;
  keeps_valid = dom_keeps;
  refused_keeps = λ c t valid w h. (dom_refused c t).same h;
}
