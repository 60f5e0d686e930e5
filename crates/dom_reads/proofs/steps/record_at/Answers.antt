use Rattle.dom_reads.proofs.StepLaws.{record_found}
use Rattle.dom_reads.proofs.steps.record_at.Goals as goal

pub returns-clause-found : goal.returns-clause-found
returns-clause-found g c = record_found (g.S.NodeRead.contents c.args.seq.now) c.get.result c.in_ok-key.key c.args.at.now c.in_ok-key.ensures c.get.ensures.value
