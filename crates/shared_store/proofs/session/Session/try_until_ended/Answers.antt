use Rattle.std.proofs.Common.{sym, ◌∙◌}
use Rattle.shared_store.proofs.Waiting.{again_ended, again_waits, retry_is_some}
use Rattle.shared_store.proofs.session.Session.try_until_ended.Goals as goal

pub later_end-requires : goal.later_end-requires
later_end-requires g c =
    let w = c.await_growth.ensures in
    let i = c.loop.invariant in
    retry_is_some g.B.NodeRead.count g.B.NodeRead.contents g.C.TreeCall.meaning c.args.self.now c.loop.self c.await_growth.new.self c.try_again.new.self c.try_again.result w.own w.same i.2 i.3 c.try_again.ensures

pub returns-in-Some-later_end-clause-ended : goal.returns-in-Some-later_end-clause-ended
returns-in-Some-later_end-clause-ended g c =
    let w = c.await_growth.ensures in
    let i = c.loop.invariant in
    again_ended g.B.NodeRead.count g.B.NodeRead.contents g.C.TreeCall.meaning c.args.self.now c.loop.self c.await_growth.new.self c.try_again.new.self c.try_again.result w.own w.same i.2 i.3 c.try_again.ensures
    i.4.0 c.in-Some-later_end.result (sym c.later_end.ensures ∙ c.in-Some-later_end.is) i.4.1

pub loop-preserved : goal.loop-preserved
loop-preserved g c =
    let w = c.await_growth.ensures in
    let i = c.loop.invariant in
    let t =
    again_waits g.B.NodeRead.count g.B.NodeRead.contents g.C.TreeCall.meaning c.args.self.now c.loop.self c.await_growth.new.self c.try_again.new.self c.try_again.result w.own w.same i.2 i.3 c.try_again.ensures
    i.4.0 (sym c.later_end.ensures ∙ c.in_default.is) i.4.1 in
    (tt, tt, t.0, t.1, t.2)
