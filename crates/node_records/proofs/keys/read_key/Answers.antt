use Rattle.std.proofs.Common.{arith}
use Rattle.std.proofs.lemmas.Result.{IfOk-weaker}
use Rattle.node_records.proofs.FoundLaws.{key_found, key_none}
use Rattle.outside_traits.proofs.ByteLaws.{bytes_are}
use Rattle.node_records.proofs.keys.read_key.Goals as goal

pub returns-clause-written : goal.returns-clause-written
returns-clause-written c = IfOk-weaker c.key_at_start.result _ _ (key_found c.args.bytes.now (bytes_are c.args.bytes.now (λ i. omega (arith, c.type_inv.bytes i)))) c.key_at_start.ensures.exact

pub returns-clause-none : goal.returns-clause-none
returns-clause-none c = IfOk-weaker c.key_at_start.result _ _ (key_none c.args.bytes.now) c.key_at_start.ensures.exact
