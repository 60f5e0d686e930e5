use Rattle.dewey_labels.proofs.LabelOf.{found_is, none_is}
use Rattle.dewey_labels.proofs.label.Label.read_text.Goals as goal

pub returns-clause-found : goal.returns-clause-found
returns-clause-found c = found_is c.args.text.now c.read_bytes.result c.read_bytes.ensures.label

pub returns-clause-none : goal.returns-clause-none
returns-clause-none c = none_is c.args.text.now c.read_bytes.result c.read_bytes.ensures.cause
