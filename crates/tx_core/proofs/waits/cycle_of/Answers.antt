use Rattle.std.proofs.lemmas.Result.{IfOk-weaker}
use Rattle.tx_core.proofs.Waited.{cycle_is}
use Rattle.tx_core.proofs.waits.cycle_of.Goals as goal

pub returns-clause-cycle : goal.returns-clause-cycle
returns-clause-cycle g c =
    IfOk-weaker c.cycle_through.result _ _
    (λ cycle is. cycle_is g.C.TreeCall.is_valid g.C.TreeCall.meaning g.B.NodeRead.contents _ c.args.session c.args.request.now cycle is)
    c.cycle_through.ensures
