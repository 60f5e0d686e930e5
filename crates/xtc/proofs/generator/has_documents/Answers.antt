use Rattle.std.proofs.Common.{◌∙◌, sym}
use Rattle.std.specs.Prelude.{◌≡◌, Bool, Result, IfErr}
use Rattle.durable_sessions.specs.declared.in_turn.Stop.{Stop}
use Rattle.node_seq.specs.Trees.{OnTree}
use Rattle.xtc.specs.Documents.{has_documents}
use Rattle.xtc.specs.inside.Showing.{IsHalt}
use Rattle.xtc.proofs.LoneLines.{counted_first, first_has}
use Rattle.xtc.proofs.generator.has_documents.Goals as goal

pub returns-clause-some : goal.returns-clause-some
returns-clause-some g c = first_has (λ (r : Result Bool Stop). OnTree (g.S.NodeRead.contents c.args.seq.now) r (λ t some. some ≡ has_documents t)) c.some_document-some.result c.fault_first.result _ _ c.fault_first.ensures.same c.fault_first.ensures.fault c.some_document-some.ensures.some tt

pub returns-clause-unrefused : goal.returns-clause-unrefused
returns-clause-unrefused g c = first_has (λ (r : Result Bool Stop). IfErr r IsHalt) c.some_document-some.result c.fault_first.result _ _ c.fault_first.ensures.same c.fault_first.ensures.fault c.some_document-some.ensures.unrefused tt

pub returns-clause-counts : goal.returns-clause-counts
returns-clause-counts g c = counted_first c.some_document-some.result c.fault_first.result _ _ c.some_document-some.ensures.cause
    (λ e. c.fault_first.ensures.same (c.faults.ensures.count ∙ e ∙ sym c.faults-before.ensures.count))
    (λ no. c.fault_first.ensures.fault (λ e. no (sym c.faults.ensures.count ∙ e ∙ c.faults-before.ensures.count)))
