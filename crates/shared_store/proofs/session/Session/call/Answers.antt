use Rattle.std.proofs.Common.{sym, ◌∙◌}
use Rattle.shared_store.proofs.Waiting.{call_at_once, call_later, call_waits}
use Rattle.shared_store.proofs.session.Session.call.Goals as goal

pub try_until_ended-requires-clause-waits : goal.try_until_ended-requires-clause-waits
try_until_ended-requires-clause-waits g c = call_waits g.B.NodeRead.count g.B.NodeRead.contents g.C.TreeCall.meaning c.args.self.now c.try_call.new.self c.args.call c.try_call.result (sym c.first_end.ensures ∙ c.in-None.is) c.try_call.ensures

pub returns-in-Some : goal.returns-in-Some
returns-in-Some g c = call_at_once g.B.NodeRead.count g.B.NodeRead.contents g.C.TreeCall.meaning c.args.self.now c.try_call.new.self c.args.call c.try_call.result c.in-Some.result (sym c.first_end.ensures ∙ c.in-Some.is) c.try_call.ensures

pub returns-in-None : goal.returns-in-None
returns-in-None g c =
    call_later g.B.NodeRead.count g.B.NodeRead.contents g.C.TreeCall.meaning c.args.self.now c.try_call.new.self c.try_until_ended.new.self c.args.call c.try_call.result c.try_until_ended.result (sym c.first_end.ensures ∙ c.in-None.is) c.try_call.ensures
    c.try_until_ended.ensures.same c.try_until_ended.ensures.ended
