use Rattle.std.proofs.Common.{Option, IfSome, subst}
use Rattle.call_contract.specs.declared.events.Answer.{Answer}
use Rattle.tx_core.specs.Cores.{count_told}
use Rattle.tx_core.specs.inside.Retrying.{ShowsBarred}
use Rattle.tx_core.proofs.Retried.{failed_early}
use Rattle.tx_core.proofs.StillBarred.{waits_on_again}
use Rattle.tx_core.proofs.retries.retry.Goals as goal

pub returns-in-Ok-Some-clause-ok : goal.returns-in-Ok-Some-clause-ok
returns-in-Ok-Some-clause-ok g c = λ call waits.
    waits_on_again g.C.TreeCall.is_valid g.C.TreeCall.meaning g.B.NodeRead.contents g.met.C.TreeCall.laws c.args.parts.now c.args.session call c.in-Ok-Some.answer
    (subst (λ (o : Option Answer). IfSome o (ShowsBarred c.args.parts.now.graph c.args.parts.now.table c.args.session)) c.in-Ok-Some.field-0-is c.in-Ok-Some.ensures.shows)

pub returns-in-Err-clause-err : goal.returns-in-Err-clause-err
returns-in-Err-clause-err g c =
    let q = c.fail_again.new.parts in
    let f = count_told c.fail_again.result (g.B.NodeRead.count q.base) in
    λ call waits. (0, failed_early g.C.TreeCall.is_valid g.C.TreeCall.meaning g.B.NodeRead.contents c.args.parts.now q c.args.session call f c.fail_again.ensures.failed)
