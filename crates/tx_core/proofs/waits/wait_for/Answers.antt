use Rattle.std.proofs.Common.{sym, ap, ◌∙◌, subst}
use Rattle.lock_resources.specs.declared.request.Request.{Request}
use Rattle.wait_graph.specs.Graphs.{ClosesNone}
use Rattle.tx_core.specs.inside.Goes.{shown_wait}
use Rattle.tx_core.proofs.Waited.{is_put}
use Rattle.tx_core.proofs.waits.wait_for.Goals as goal

pub set_waiting-requires-clause-no_cycle : goal.set_waiting-requires-clause-no_cycle
set_waiting-requires-clause-no_cycle g c =
    subst (λ (x : Request). ClosesNone c.args.parts.now.graph c.args.session x c.args.parts.now.table) (sym c.in-Ok.ensures.waited) c.requires.no_cycle

pub returns-clause-ok : goal.returns-clause-ok
returns-clause-ok g c =
    is_put g.C.TreeCall.is_valid g.C.TreeCall.meaning g.B.NodeRead.contents c.args.parts.now _ c.args.session c.args.call c.args.request.now _ _ _ c.args.holders _ _ _
    c.in-Ok.ensures.waited c.in-Ok.ensures.noted c.in-Ok.ensures.shown c.in-Ok.ensures.holders c.answer_of.ensures c.answer_of-2.ensures
    c.requires.alone c.set_waiting.ensures.state c.set_waiting.ensures.book c.set_waiting.ensures.prepared

pub set_waiting-requires-clause-noted : goal.set_waiting-requires-clause-noted
set_waiting-requires-clause-noted g c = (c.in-Ok.copies.holders, c.answer_of.ensures ∙ ap (λ (x : Request). shown_wait x c.in-Ok.copies.holders) (c.in-Ok.ensures.noted ∙ sym c.in-Ok.ensures.waited))
