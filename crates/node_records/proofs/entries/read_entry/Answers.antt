use Rattle.std.proofs.Common.{arith}
use Rattle.std.proofs.lemmas.Result.{IfOk-weaker}
use Rattle.node_records.proofs.EntryLaws.{entry_found, entry_none}
use Rattle.outside_traits.proofs.ByteLaws.{bytes_are}
use Rattle.node_records.proofs.entries.read_entry.Goals as goal

pub returns-clause-written : goal.returns-clause-written
returns-clause-written c = IfOk-weaker c.entry_at_start.result _ _ (entry_found c.args.bytes.now (bytes_are c.args.bytes.now (λ i. omega (arith, c.type_inv.bytes i)))) c.entry_at_start.ensures.exact

pub returns-clause-none : goal.returns-clause-none
returns-clause-none c = IfOk-weaker c.entry_at_start.result _ _ (entry_none c.args.bytes.now) c.entry_at_start.ensures.exact
