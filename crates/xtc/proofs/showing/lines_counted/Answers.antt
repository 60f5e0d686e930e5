use Rattle.std.proofs.Common.{◌∙◌, sym}
use Rattle.std.specs.Prelude.{◌≢◌, ℕ, Result, IfErr}
use Rattle.call_contract.specs.States.{start}
use Rattle.durable_sessions.specs.declared.in_turn.Stop.{Stop}
use Rattle.node_seq.specs.Trees.{OnTree}
use Rattle.xtc.specs.TopCall.{tx_limit}
use Rattle.xtc.specs.inside.Showing.{AreLinesOf, IsHalt}
use Rattle.xtc.proofs.LoneLines.{counted_first, first_has}
use Rattle.xtc.proofs.showing.lines_counted.Goals as goal

pub returns-clause-lines : goal.returns-clause-lines
returns-clause-lines g c = first_has (λ (r : Result _ Stop). OnTree (g.S.NodeRead.contents c.args.seq.now) r (λ t lines. (n : ℕ) → n ≢ tx_limit → AreLinesOf (start t n tx_limit) c.args.name.now c.args.question.now lines.items))
    c.lines_alone-lines.result c.fault_first.result _ _ c.fault_first.ensures.same c.fault_first.ensures.fault c.lines_alone-lines.ensures.lines tt

pub returns-clause-unrefused : goal.returns-clause-unrefused
returns-clause-unrefused g c = first_has (λ (r : Result _ Stop). IfErr r IsHalt) c.lines_alone-lines.result c.fault_first.result _ _ c.fault_first.ensures.same c.fault_first.ensures.fault c.lines_alone-lines.ensures.unrefused tt

pub returns-clause-counts : goal.returns-clause-counts
returns-clause-counts g c = counted_first c.lines_alone-lines.result c.fault_first.result _ _ c.lines_alone-lines.ensures.cause
    (λ e. c.fault_first.ensures.same (c.faults.ensures.count ∙ e ∙ sym c.faults-before.ensures.count))
    (λ no. c.fault_first.ensures.fault (λ e. no (sym c.faults.ensures.count ∙ e ∙ c.faults-before.ensures.count)))
