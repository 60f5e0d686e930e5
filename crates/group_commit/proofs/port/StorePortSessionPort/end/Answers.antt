use Rattle.std.proofs.Common.{refl, subst}
use Rattle.worker_run.specs.Ports.{Ended}
use Rattle.group_commit.specs.StorePorts.{PortView, store_ports}
use Rattle.group_commit.proofs.Ends.{port_ended}
use Rattle.group_commit.proofs.port.StorePortSessionPort.end.Goals as goal

pub returns : goal.returns
returns g c =
    let told = g.B.NodeRead.contents in
    let m = g.C.TreeCall.meaning in
    let made = g.C.LineCall.made in
    let p : PortView _ _ = record { session = c.self.inside.member.session; pass = c.self.inside.member.pass; fault = c.self.inside.fault } in
    let q : PortView _ _ = record { session = c.abort-ended.new.self.session; pass = c.abort-ended.new.self.pass; fault = c.self.inside.fault } in
    subst (λ (x : PortView _ _). Ended (store_ports told m made) x q) c.self.view_is
    (port_ended told m made p q c.abort-ended.result c.self.invariant.0.own refl c.abort-ended.ensures.done c.abort-ended.ensures.pass c.abort-ended.ensures.ended)
