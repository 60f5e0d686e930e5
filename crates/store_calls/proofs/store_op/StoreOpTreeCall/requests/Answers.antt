use Rattle.std.proofs.Common.{sym, ◌∙◌}
use Rattle.store_calls.proofs.Reading.{only_answers, find_only_answers, dom_knows, find_knows}
use Rattle.store_calls.proofs.store_op.StoreOpTreeCall.requests.Goals as goal

pub returns-in-Dom-clause-known : goal.returns-in-Dom-clause-known
returns-in-Dom-clause-known g c = only_answers _ c.args.self.now c.in-Dom.call c.dom_requests.result (sym c.in-Dom.is ∙ c.call.ensures.call) c.dom_requests.ensures.reply c.dom_requests.ensures.reading

pub returns-in-Find-clause-known : goal.returns-in-Find-clause-known
returns-in-Find-clause-known g c = find_only_answers _ c.args.self.now c.in-Find.at c.in-Find.path c.path_requests.result (sym c.in-Find.is ∙ c.call.ensures.call) c.path_requests.ensures.reply

pub returns-in-Dom-clause-find : goal.returns-in-Dom-clause-find
returns-in-Dom-clause-find g c = dom_knows _ c.args.self.now c.in-Dom.call c.dom_requests.result (sym c.in-Dom.is ∙ c.call.ensures.call)

pub returns-in-Find-clause-find : goal.returns-in-Find-clause-find
returns-in-Find-clause-find g c = find_knows _ c.args.self.now c.in-Find.at c.in-Find.path c.path_requests.result (sym c.in-Find.is ∙ c.call.ensures.call) c.path_requests.ensures.reply
