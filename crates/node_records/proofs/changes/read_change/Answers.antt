use Rattle.std.proofs.Common.{arith}
use Rattle.std.proofs.lemmas.Result.{IfOk-weaker}
use Rattle.node_records.proofs.FoundLaws.{change_found, change_none}
use Rattle.outside_traits.proofs.ByteLaws.{bytes_are}
use Rattle.node_records.proofs.changes.read_change.Goals as goal

pub returns-clause-written : goal.returns-clause-written
returns-clause-written c = IfOk-weaker c.change_at_start.result _ _ (change_found c.args.bytes.now (bytes_are c.args.bytes.now (λ i. omega (arith, c.type_inv.bytes i)))) c.change_at_start.ensures.exact

pub returns-clause-none : goal.returns-clause-none
returns-clause-none c = IfOk-weaker c.change_at_start.result _ _ (change_none c.args.bytes.now) c.change_at_start.ensures.exact
