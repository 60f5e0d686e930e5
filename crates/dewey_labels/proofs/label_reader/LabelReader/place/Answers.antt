use Rattle.std.proofs.Common.{subst}
use Rattle.dewey_labels.specs.LabelText.{BeginsLabelText}
use Rattle.dewey_labels.proofs.Reading.{can_go_on_begins}
use Rattle.dewey_labels.proofs.label_reader.LabelReader.place.Goals as goal

pub returns-clause-begins : goal.returns-clause-begins
returns-clause-begins c = subst BeginsLabelText c.self.view_is (can_go_on_begins _ _ c.self.invariant.0)
