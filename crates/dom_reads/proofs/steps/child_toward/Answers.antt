use Rattle.dom_reads.proofs.StepLaws.{toward_label}
use Rattle.dom_reads.proofs.steps.child_toward.Goals as goal

pub returns-in-Some-clause-label : goal.returns-in-Some-clause-label
returns-in-Some-clause-label c = toward_label c.args.at.now c.in-Some.key.label c.child_toward.result c.divisions-divisions.ensures.label c.divisions-below.ensures.label c.child_toward.ensures.toward
